use Rattle.std.proofs.Common.{◌≡◌, ◌+◌, length}
use Rattle.radius_carry.specs.Place.{tag_place}
use Rattle.radius_carry.specs.Fault.{attributes_of}
use Rattle.radius_carry.proofs.attributes.place_of_tag.Given as goal

-- what is passed, and what is left to pass
abbrev pub invariant-loop-attribute : goal.invariant-loop-attribute
invariant-loop-attribute l =
    (l.place + tag_place (attributes_of l.rest) ≡ tag_place (attributes_of l.octets))
    × (l.place + length l.rest ≡ length l.octets)

abbrev pub decreases-loop-attribute : goal.decreases-loop-attribute
decreases-loop-attribute l = length l.rest
