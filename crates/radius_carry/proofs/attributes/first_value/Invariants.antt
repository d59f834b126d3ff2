use Rattle.std.proofs.Common.{◌≡◌, length}
use Rattle.radius_carry.specs.Packet as packet
use Rattle.radius_carry.specs.Fault.{attributes_of}
use Rattle.radius_carry.proofs.attributes.first_value.Given as goal

-- what is passed has none of this Type
abbrev pub invariant-loop-attribute : goal.invariant-loop-attribute
invariant-loop-attribute l = packet.first_value l.kind (attributes_of l.rest)
    ≡ packet.first_value l.kind (attributes_of l.octets)

abbrev pub decreases-loop-attribute : goal.decreases-loop-attribute
decreases-loop-attribute l = length l.rest
