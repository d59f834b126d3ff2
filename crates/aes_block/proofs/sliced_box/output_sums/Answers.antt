use Rattle.std.proofs.Common.{◌≡◌, refl}
use Rattle.std.proofs.lemmas.Nat.Bits.{bit_at_xor, bit_at_ones}
use Rattle.std.specs.Int.{bit_at}
use Rattle.aes_block.specs.Circuit.{output_sums}
use Rattle.aes_block.proofs.sliced_box.output_sums.Goals as goal

pub returns : goal.returns
unfolding output_sums
returns c = λ place h.
    let ones : bit_at 4294967295 place ≡ 1 = bit_at_ones 32 place h in
    simp (bit_at_xor, ones) refl
