-- A pass-through that has started waits.
use Rattle.tuvaddri_c.proofs.Stays.{pass_started}
use Rattle.tuvaddri_c.proofs.pass.tuv_pass_start.Goals as goal

pub returns-in-Pass-clause-settled : goal.returns-in-Pass-clause-settled
returns-in-Pass-clause-settled c before =
    pass_started c.in-Pass.machine c.start_step-step.new.self _ c.start_step-step.ensures.step
