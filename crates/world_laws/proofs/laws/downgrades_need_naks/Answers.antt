use Rattle.world_laws.proofs.Downgrade.{downgrades_need_naks}
use Rattle.world_laws.proofs.laws.downgrades_need_naks.Goals as goal

pub returns : goal.returns
returns c = downgrades_need_naks
