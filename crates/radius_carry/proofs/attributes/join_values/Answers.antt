-- What is joined and what is left to join have room together.
use Rattle.std.proofs.Common.{arith}
use Rattle.radius_carry.proofs.ReadAttributes.{value_bounded}
use Rattle.radius_carry.proofs.attributes.join_values.Goals as goal

pub put-requires : goal.put-requires
put-requires c = (
  omega arith,
  value_bounded _ _ _ _ _ _ _ _ c.in-Some.ensures.attributes c.if-attribute-kind.true
      c.loop-attribute.invariant c.requires,
)
