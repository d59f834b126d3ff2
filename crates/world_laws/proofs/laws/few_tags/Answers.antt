use Rattle.world_laws.proofs.laws.few_tags.Goals as goal
use Rattle.world_laws.proofs.Few.{few_tags}

-- src/laws.rt:15:1
pub returns : goal.returns
returns c = few_tags
