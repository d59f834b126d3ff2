use Rattle.std.proofs.Common.{refl}
use Rattle.std.proofs.lemmas.Nat.Bits.{bit_at_xor, bit_at_and}
use Rattle.aes_block.specs.Circuit.{inner_values}
use Rattle.aes_block.proofs.sliced_box.inner_values.Goals as goal

pub returns : goal.returns
unfolding inner_values
returns c = λ place h. simp (bit_at_xor, bit_at_and) refl
