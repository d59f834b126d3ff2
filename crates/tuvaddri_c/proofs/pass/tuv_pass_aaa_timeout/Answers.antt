-- A pass-through whose backend is lost has ended.
use Rattle.tuvaddri_c.proofs.Stays.{backend_lost}
use Rattle.tuvaddri_c.proofs.pass.tuv_pass_aaa_timeout.Goals as goal

pub returns-in-Pass-clause-settled : goal.returns-in-Pass-clause-settled
returns-in-Pass-clause-settled c before =
    backend_lost c.in-Pass.machine c.aaa_timeout_step-step.new.self _
    c.aaa_timeout_step-step.ensures
