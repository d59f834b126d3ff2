use Rattle.std.proofs.Common.{◌≡◌, ℕ, ◌+◌, ◌*◌, ◌%◌, List, [], ◌∷◌}
use Rattle.aes_block.specs.Slices.{bits_at}
use Rattle.aes_block.proofs.SliceBits.{each_of_8, octet_at_same}
use Rattle.aes_block.proofs.sliced_rounds.below.Goals as goal

pub returns : goal.returns
returns c = λ row j hr hj.
    let result : List ℕ =
    c.slice_below.result ∷ c.slice_below-2.result ∷ c.slice_below-3.result ∷ c.slice_below-4.result
    ∷ c.slice_below-5.result ∷ c.slice_below-6.result ∷ c.slice_below-7.result
    ∷ c.slice_below-8.result ∷ [] in
    let place : ℕ = 8 * row + j in
    let source : ℕ = 8 * ((row + c.args.rows) % 4) + j in
    octet_at_same result c.args.words place source
    (each_of_8 (λ k. bits_at result place k ≡ bits_at c.args.words source k)
    (c.slice_below.ensures row j hr hj) (c.slice_below-2.ensures row j hr hj)
    (c.slice_below-3.ensures row j hr hj) (c.slice_below-4.ensures row j hr hj)
    (c.slice_below-5.ensures row j hr hj) (c.slice_below-6.ensures row j hr hj)
    (c.slice_below-7.ensures row j hr hj) (c.slice_below-8.ensures row j hr hj))
