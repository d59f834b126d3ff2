use Rattle.std.proofs.Common.{◌≡◌, ◌++◌, length}
use Rattle.radius_carry.specs.Packet.{value_of_kind}
use Rattle.radius_carry.specs.Fault.{attributes_of}
use Rattle.radius_carry.proofs.attributes.join_values.Given as goal

-- what is joined, and what is left to join
abbrev pub invariant-loop-attribute : goal.invariant-loop-attribute
invariant-loop-attribute l =
    l.values ++ value_of_kind l.kind (attributes_of l.rest)
    ≡ l.initial.values ++ value_of_kind l.kind (attributes_of l.octets)

abbrev pub decreases-loop-attribute : goal.decreases-loop-attribute
decreases-loop-attribute l = length l.rest
