use Rattle.std.proofs.Common.{refl}
use Rattle.aes_block.proofs.Sixteen.{spread}
use Rattle.aes_block.proofs.rounds.three_below.Goals as goal

pub returns : goal.returns
returns c = rw (spread c.args.state c.fits-state.0) refl
