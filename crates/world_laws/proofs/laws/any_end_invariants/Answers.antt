use Rattle.world_laws.proofs.laws.any_end_invariants.Goals as goal
use Rattle.world_laws.proofs.EndInvariants.{any_end_invariants}

pub returns : goal.returns
returns c = any_end_invariants
