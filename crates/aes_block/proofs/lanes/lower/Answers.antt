use Rattle.std.proofs.Common.{ap, bit_and, replicate}
use lib.Lanes.{zip2}
use Rattle.aes_block.proofs.Sixteen.{spread}
use Rattle.aes_block.proofs.lanes.lower.Goals as goal

pub returns : goal.returns
returns c = ap (λ v. zip2 bit_and v (replicate 16 15)) (spread c.args.octets c.fits-octets.0)
