use Rattle.world_laws.proofs.FreshRuns.{freshness_is_exact}
use Rattle.world_laws.proofs.laws.freshness_is_exact.Goals as goal

pub returns : goal.returns
returns c = freshness_is_exact
