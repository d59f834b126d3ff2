use Rattle.world_laws.proofs.Passing.{pass_learns_nothing}
use Rattle.world_laws.proofs.laws.pass_learns_nothing.Goals as goal

pub returns : goal.returns
returns c = pass_learns_nothing
