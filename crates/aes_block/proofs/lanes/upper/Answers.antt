use Rattle.std.proofs.Common.{ℕ, ap, ◌/◌, ◌^◌, replicate}
use lib.Lanes.{zip2}
use Rattle.aes_block.proofs.Sixteen.{spread}
use Rattle.aes_block.proofs.lanes.upper.Goals as goal

pub returns : goal.returns
returns c = ap (λ v. zip2 (λ (a b : ℕ). a / 2 ^ b) v (replicate 16 4))
    (spread c.args.octets c.fits-octets.0)
