use Rattle.std.proofs.Common.{refl}
use Rattle.aes_block.proofs.key_schedule.one_column_on.Goals as goal

pub returns : goal.returns
returns c = refl
