-- A pass-through whose timer has ended waits on, or has ended.
use Rattle.tuvaddri_c.proofs.Stays.{pass_timed_out}
use Rattle.tuvaddri_c.proofs.pass.tuv_pass_timeout.Goals as goal

pub returns-in-Pass-clause-settled : goal.returns-in-Pass-clause-settled
returns-in-Pass-clause-settled c before =
    pass_timed_out c.in-Pass.machine c.timeout_step-step.new.self _ c.timeout_step-step.ensures.step
