-- Each turn writes the next piece: 255 octets for 253, or the last one.
use Rattle.std.proofs.Common.{◌≤◌, ◌∙◌, ap, length, arith, length-append}
use Rattle.std.proofs.lemmas.Grind.{common_steps}
use Rattle.radius_carry.specs.Packet.{attribute_octets}
use Rattle.radius_carry.proofs.Pieced.{octets_of_pieces}
use Rattle.radius_carry.proofs.writing.put_eap.Goals as goal

pub loop-rest-preserved : goal.loop-rest-preserved
loop-rest-preserved c =
    let some : 1 ≤ length c.loop-rest.rest.now = grind (arith, common_steps) in
    let size = c.split_at.ensures.front_len in
    let left = c.split_at.ensures.back_len in
    let more = ap length c.put_attribute.ensures in
    let count =
    length-append c.loop-rest.packet (attribute_octets (79, c.split_at.result.0.now)) in (
      rw c.put_attribute.ensures
          (octets_of_pieces c.loop-rest.rest.now c.loop-rest.packet c.split_at.result.0.now
          c.split_at.result.1.now c.min.result some c.min.ensures
          c.split_at.ensures.front c.split_at.ensures.back
          ∙ c.loop-rest.invariant.0),
      λ later. omega (arith, c.loop-rest.invariant.1 some),
      omega (arith, c.loop-rest.invariant.1 some),
    )
