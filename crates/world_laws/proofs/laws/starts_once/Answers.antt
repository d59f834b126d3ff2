use Rattle.world_laws.proofs.StartsOnce.{starts_once}
use Rattle.world_laws.proofs.laws.starts_once.Goals as goal

pub returns : goal.returns
returns c = starts_once
