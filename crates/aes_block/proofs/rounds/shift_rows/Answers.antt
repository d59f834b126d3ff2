use Rattle.std.proofs.Common.{refl}
use Rattle.aes_block.specs.Cipher.{shift_rows}
use Rattle.aes_block.proofs.Sixteen.{spread}
use Rattle.aes_block.proofs.rounds.shift_rows.Goals as goal

pub returns : goal.returns
unfolding shift_rows
returns c = rw (spread c.args.state c.fits-state.0) refl
