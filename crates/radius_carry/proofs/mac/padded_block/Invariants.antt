use Rattle.std.proofs.Common.{◌≡◌, replicate}
use lib.Seq.{paste}
use Rattle.hmac_mac.specs.Hmac.{padded}
use Rattle.radius_carry.proofs.mac.padded_block.Given as goal

-- the octets so far are combined
abbrev pub invariant-octets : goal.invariant-octets
invariant-octets l = l.block ≡ paste (replicate 64 l.pad) 0 (padded l.secret l.pad) l.i
