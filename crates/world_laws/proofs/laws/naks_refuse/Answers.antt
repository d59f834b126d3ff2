use Rattle.world_laws.proofs.NakAnswers.{naks_refuse}
use Rattle.world_laws.proofs.laws.naks_refuse.Goals as goal

pub returns : goal.returns
returns c = naks_refuse
