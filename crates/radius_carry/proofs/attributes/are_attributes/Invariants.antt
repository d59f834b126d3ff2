use Rattle.std.proofs.Common.{◌≡◌, length}
use Rattle.radius_carry.specs.Fault.{left_of}
use Rattle.radius_carry.proofs.attributes.are_attributes.Given as goal

abbrev pub invariant-loop-attribute : goal.invariant-loop-attribute
invariant-loop-attribute l = left_of l.octets ≡ left_of l.rest

abbrev pub decreases-loop-attribute : goal.decreases-loop-attribute
decreases-loop-attribute l = length l.rest
