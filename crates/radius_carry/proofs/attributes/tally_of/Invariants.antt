use Rattle.std.proofs.Common.{◌≡◌, ◌≤◌, ◌+◌, length}
use Rattle.radius_carry.specs.Packet.{count, value_of_kind}
use Rattle.radius_carry.specs.Fault.{attributes_of}
use Rattle.radius_carry.proofs.attributes.tally_of.Given as goal

-- what is counted, and what is left to count
abbrev pub invariant-loop-attribute : goal.invariant-loop-attribute
invariant-loop-attribute l =
    (l.tally.count + count l.kind (attributes_of l.rest) ≡ count l.kind (attributes_of l.octets))
    × (l.tally.size + length (value_of_kind l.kind (attributes_of l.rest))
    ≡ length (value_of_kind l.kind (attributes_of l.octets)))
    × (l.tally.count + l.tally.size + length l.rest ≤ length l.octets)

abbrev pub decreases-loop-attribute : goal.decreases-loop-attribute
decreases-loop-attribute l = length l.rest
