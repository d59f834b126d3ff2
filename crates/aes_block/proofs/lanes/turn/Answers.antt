use Rattle.std.proofs.Common.{refl}
use Rattle.aes_block.specs.Turned.{lower, upper, turned}
use Rattle.aes_block.proofs.Sixteen.{places_from}
use Rattle.aes_block.proofs.HalfTests.{lower_place, upper_place}
use Rattle.aes_block.proofs.lanes.turn.Goals as goal

pub look-requires : goal.look-requires
look-requires c = places_from lower c.args.octets c.lower.result c.fits-octets.0 c.fits-octets.1
    lower_place c.lower.ensures

pub look-requires-2 : goal.look-requires-2
look-requires-2 c = places_from upper c.args.octets c.upper.result c.fits-octets.0 c.fits-octets.1
    upper_place c.upper.ensures

pub returns : goal.returns
unfolding turned
returns c = rw (c.look.ensures, c.look-2.ensures, c.lower.ensures, c.upper.ensures) refl
