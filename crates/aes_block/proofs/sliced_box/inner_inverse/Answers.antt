use Rattle.std.proofs.Common.{refl}
use Rattle.std.proofs.lemmas.Nat.Bits.{bit_at_xor, bit_at_and}
use Rattle.aes_block.specs.Circuit.{inner_inverse}
use Rattle.aes_block.proofs.sliced_box.inner_inverse.Goals as goal

pub returns : goal.returns
unfolding inner_inverse
returns c = λ place h. simp (bit_at_xor, bit_at_and) refl
