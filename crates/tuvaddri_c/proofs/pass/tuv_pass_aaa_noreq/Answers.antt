-- A pass-through whose backend asks nothing waits.
use Rattle.tuvaddri_c.proofs.Stays.{backend_silent}
use Rattle.tuvaddri_c.proofs.pass.tuv_pass_aaa_noreq.Goals as goal

pub returns-in-Pass-clause-settled : goal.returns-in-Pass-clause-settled
returns-in-Pass-clause-settled c before =
    backend_silent c.in-Pass.machine c.aaa_noreq_step-step.new.self _ c.aaa_noreq_step-step.ensures
