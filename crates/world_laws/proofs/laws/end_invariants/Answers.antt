use Rattle.world_laws.proofs.laws.end_invariants.Goals as goal
use Rattle.world_laws.proofs.EndInvariants.{every_run_invariant}

pub returns : goal.returns
returns c = every_run_invariant
