-- States by their columns as words.
use Rattle.std.proofs.Common.{◌≡◌, ℕ, ◌+◌, ◌*◌, List, [], ◌∷◌, ap, ◌∙◌, bit_xor, slice_index}
use Rattle.aes_block.specs.KeySchedule.{change_at, xor_words, sub_word, joined, round_key}
use Rattle.aes_block.specs.Cipher.{sub_bytes, shift_rows, mix_columns, mixed_column, add_round_key}
use Rattle.aes_block.specs.Cipher.{full_round_of, last_round_of}
use Rattle.aes_block.specs.Words.{octets_of, state_of_words, diagonal}
use Rattle.aes_block.proofs.WordTables.{octets_of_xor}
use Rattle.aes_block.proofs.Schedule.{next_key}

-- a state whose columns have these octets
pub from_columns : (a b c d : ℕ) (p q r s : List ℕ) → octets_of a ≡ p → octets_of b ≡ q
    → octets_of c ≡ r → octets_of d ≡ s
    → state_of_words (a ∷ b ∷ c ∷ d ∷ []) ≡ joined p q r s
from_columns a b c d p q r s ea eb ec ed =
    ap (λ v. joined v (octets_of b) (octets_of c) (octets_of d)) ea
    ∙ ap (λ v. joined p v (octets_of c) (octets_of d)) eb
    ∙ ap (λ v. joined p q v (octets_of d)) ec ∙ ap (joined p q r) ed

module _ (state key : List ℕ) where
  abbrev column : ℕ → ℕ
  column i = slice_index state i

  abbrev key_column : ℕ → ℕ
  key_column i = slice_index key i

  abbrev sum_at : ℕ → ℕ
  sum_at i = bit_xor (column i) (key_column i)

  pub words_added : state_of_words (sum_at 0 ∷ sum_at 1 ∷ sum_at 2 ∷ sum_at 3 ∷ [])
      ≡ add_round_key (state_of_words state) (state_of_words key)
  unfolding add_round_key
  words_added =
      from_columns (sum_at 0) (sum_at 1) (sum_at 2) (sum_at 3) _ _ _ _
      (octets_of_xor (column 0) (key_column 0)) (octets_of_xor (column 1) (key_column 1))
      (octets_of_xor (column 2) (key_column 2)) (octets_of_xor (column 3) (key_column 3))

  abbrev full_octets : ℕ → ℕ → ℕ → ℕ → List ℕ
  full_octets a b c d =
      xor_words (mixed_column (sub_word (diagonal (column a) (column b) (column c) (column d))))
      (octets_of (key_column a))

  pub full_words : (a b c d : ℕ) → octets_of a ≡ full_octets 0 1 2 3
      → octets_of b ≡ full_octets 1 2 3 0 → octets_of c ≡ full_octets 2 3 0 1
      → octets_of d ≡ full_octets 3 0 1 2 → state_of_words (a ∷ b ∷ c ∷ d ∷ [])
      ≡ full_round_of (state_of_words state) (state_of_words key)
  unfolding add_round_key mix_columns shift_rows sub_bytes
  full_words a b c d = from_columns a b c d (full_octets 0 1 2 3) (full_octets 1 2 3 0)
      (full_octets 2 3 0 1) (full_octets 3 0 1 2)

  abbrev last_octets : ℕ → ℕ → ℕ → ℕ → List ℕ
  last_octets a b c d = xor_words (sub_word (diagonal (column a) (column b) (column c) (column d)))
      (octets_of (key_column a))

  pub last_words : (a b c d : ℕ) → octets_of a ≡ last_octets 0 1 2 3
      → octets_of b ≡ last_octets 1 2 3 0 → octets_of c ≡ last_octets 2 3 0 1
      → octets_of d ≡ last_octets 3 0 1 2 → state_of_words (a ∷ b ∷ c ∷ d ∷ [])
      ≡ last_round_of (state_of_words state) (state_of_words key)
  unfolding add_round_key shift_rows sub_bytes
  last_words a b c d = from_columns a b c d (last_octets 0 1 2 3) (last_octets 1 2 3 0)
      (last_octets 2 3 0 1) (last_octets 3 0 1 2)

-- the next round key, from what is added to the first of the words
pub next_words_are : (key : List ℕ) (change round : ℕ)
    → octets_of change ≡ change_at (4 * round + 4) (octets_of (slice_index key 3))
    → (initial : List ℕ) → state_of_words key ≡ round_key initial round
    → (let first = bit_xor (slice_index key 0) change in
    let second = bit_xor (slice_index key 1) first in
    let third = bit_xor (slice_index key 2) second in
    state_of_words (first ∷ second ∷ third ∷ bit_xor (slice_index key 3) third ∷ [])
    ≡ round_key initial (round + 1))
next_words_are key change round ec initial ek =
    let first : ℕ = bit_xor (slice_index key 0) change in
    let second : ℕ = bit_xor (slice_index key 1) first in
    let third : ℕ = bit_xor (slice_index key 2) second in
    let fourth : ℕ = bit_xor (slice_index key 3) third in
    next_key initial (state_of_words key) (octets_of change) (octets_of first) (octets_of second)
    (octets_of third) (octets_of fourth) round ek ec (octets_of_xor (slice_index key 0) change)
    (octets_of_xor (slice_index key 1) first) (octets_of_xor (slice_index key 2) second)
    (octets_of_xor (slice_index key 3) third)
