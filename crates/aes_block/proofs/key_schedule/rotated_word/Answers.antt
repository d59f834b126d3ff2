use Rattle.std.proofs.Common.{refl}
use Rattle.aes_block.proofs.Sixteen.{spread}
use Rattle.aes_block.proofs.key_schedule.rotated_word.Goals as goal

pub returns : goal.returns
returns c = rw (spread c.args.key c.fits-key.0) refl
