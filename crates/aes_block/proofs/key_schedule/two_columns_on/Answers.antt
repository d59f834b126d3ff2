use Rattle.std.proofs.Common.{refl}
use Rattle.aes_block.proofs.key_schedule.two_columns_on.Goals as goal

pub returns : goal.returns
returns c = refl
