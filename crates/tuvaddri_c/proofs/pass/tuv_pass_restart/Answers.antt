-- A pass-through that has restarted waits.
use Rattle.tuvaddri_c.proofs.Stays.{pass_restarted}
use Rattle.tuvaddri_c.proofs.pass.tuv_pass_restart.Goals as goal

pub returns-in-Pass-clause-settled : goal.returns-in-Pass-clause-settled
returns-in-Pass-clause-settled c before =
    pass_restarted c.in-Pass.machine c.restart_step-step.new.self _ c.restart_step-step.ensures.step
