use Rattle.world_laws.proofs.Passing.{pass_carries}
use Rattle.world_laws.proofs.laws.pass_carries.Goals as goal

pub returns : goal.returns
returns c = pass_carries
