use Rattle.std.proofs.Common.{refl}
use Rattle.std.proofs.lemmas.Nat.Bits.{bit_at_and}
use Rattle.aes_block.specs.Circuit.{products_of}
use Rattle.aes_block.proofs.sliced_box.products_of.Goals as goal

pub returns : goal.returns
unfolding products_of
returns c = λ place h. simp bit_at_and refl
