use Rattle.std.proofs.Common.{refl}
use Rattle.std.proofs.lemmas.Nat.Bits.{bit_at_xor, bit_at_and}
use Rattle.aes_block.specs.Circuit.{linear_sums}
use Rattle.aes_block.proofs.sliced_box.linear_sums.Goals as goal

pub returns : goal.returns
unfolding linear_sums
returns c = λ place h. simp (bit_at_xor, bit_at_and) refl
