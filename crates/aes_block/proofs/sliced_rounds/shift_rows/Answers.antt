use Rattle.std.proofs.Common.{◌≡◌, ℕ, ◌+◌, ◌*◌, ◌%◌, List, [], ◌∷◌}
use Rattle.aes_block.specs.Slices.{bits_at}
use Rattle.aes_block.proofs.SliceBits.{each_of_8, octet_at_same}
use Rattle.aes_block.proofs.SlicedSteps.{shifted_state}
use Rattle.aes_block.proofs.sliced_rounds.shift_rows.Goals as goal

pub returns : goal.returns
returns c =
    let result : List ℕ =
    c.shift_slice.result ∷ c.shift_slice-2.result ∷ c.shift_slice-3.result ∷ c.shift_slice-4.result
    ∷ c.shift_slice-5.result ∷ c.shift_slice-6.result ∷ c.shift_slice-7.result
    ∷ c.shift_slice-8.result ∷ [] in
    shifted_state c.args.words result (λ row j hr hj.
    let place : ℕ = 8 * row + j in
    let source : ℕ = 8 * row + (j + 2 * row) % 8 in
    octet_at_same result c.args.words place source
    (each_of_8 (λ k. bits_at result place k ≡ bits_at c.args.words source k)
    (c.shift_slice.ensures row j hr hj) (c.shift_slice-2.ensures row j hr hj)
    (c.shift_slice-3.ensures row j hr hj) (c.shift_slice-4.ensures row j hr hj)
    (c.shift_slice-5.ensures row j hr hj) (c.shift_slice-6.ensures row j hr hj)
    (c.shift_slice-7.ensures row j hr hj) (c.shift_slice-8.ensures row j hr hj)))
