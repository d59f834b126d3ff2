use Rattle.server_machine.proofs.Starting.{backend_stays}
use Rattle.server_machine.proofs.backend.SizedBackend.deliver_step.Goals as goal

pub invariant_of-self : goal.invariant_of-self
invariant_of-self g c = backend_stays _ _ _ _ _ _ c.deliver_step.ensures.step c.self.invariant
