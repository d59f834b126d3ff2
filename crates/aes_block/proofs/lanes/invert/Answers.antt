use Rattle.std.proofs.Common.{bit_xor}
use Rattle.aes_block.specs.Turned.{lower, upper, first_sum, second_sum, first_place, second_place}
use Rattle.aes_block.proofs.Sixteen.{places_from}
use Rattle.aes_block.proofs.HalfTests.{upper_place, sum_place, first_sum_place, second_sum_place}
use Rattle.aes_block.proofs.HalfTests.{first_half_place, second_half_place}
use Rattle.aes_block.proofs.Inverting.{sums_are, first_sums_are, second_sums_are, first_places_are}
use Rattle.aes_block.proofs.Inverting.{second_places_are}
use Rattle.aes_block.proofs.lanes.invert.Goals as goal

pub look-requires : goal.look-requires
look-requires c = places_from upper c.args.octets _ c.fits-octets.0 c.fits-octets.1 upper_place
    c.upper-upper.ensures

pub look-requires-2 : goal.look-requires-2
look-requires-2 c =
    places_from (λ b. bit_xor (lower b) (upper b))
    c.args.octets _ c.fits-octets.0 c.fits-octets.1 sum_place
    (sums_are c.args.octets c.lower-lower.ensures c.upper-upper.ensures)

pub look-requires-3 : goal.look-requires-3
look-requires-3 c =
    places_from first_sum c.args.octets _ c.fits-octets.0 c.fits-octets.1 first_sum_place
    (first_sums_are c.args.octets c.lower-lower.ensures c.upper-upper.ensures
    c.look-quotient.ensures c.look.ensures)

pub look-requires-4 : goal.look-requires-4
look-requires-4 c =
    places_from second_sum c.args.octets _ c.fits-octets.0 c.fits-octets.1 second_sum_place
    (second_sums_are c.args.octets c.lower-lower.ensures c.upper-upper.ensures
    c.look-quotient.ensures c.look-2.ensures)

pub invariant_of-result : goal.invariant_of-result
invariant_of-result c =
    let o = c.args.octets in
    record {
      first_places = places_from first_place o _ c.fits-octets.0 c.fits-octets.1 first_half_place
          (first_places_are o c.lower-lower.ensures c.upper-upper.ensures c.look-quotient.ensures
          c.look.ensures c.look-3.ensures);
      second_places = places_from second_place o _ c.fits-octets.0 c.fits-octets.1 second_half_place
          (second_places_are o c.lower-lower.ensures c.upper-upper.ensures c.look-quotient.ensures
          c.look-2.ensures c.look-4.ensures);
    }

pub returns : goal.returns
returns c =
    let o = c.args.octets in
    record {
      first_are = first_places_are o c.lower-lower.ensures c.upper-upper.ensures
          c.look-quotient.ensures c.look.ensures c.look-3.ensures;
      second_are = second_places_are o c.lower-lower.ensures c.upper-upper.ensures
          c.look-quotient.ensures c.look-2.ensures c.look-4.ensures;
    }
