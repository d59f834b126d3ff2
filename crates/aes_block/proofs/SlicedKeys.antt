-- The key expansion by slices.
use Rattle.std.proofs.Common.{◌≡◌, ℕ, ◌+◌, ◌*◌, ◌/◌, ◌^◌, ◌<◌, List, [], ◌∷◌, slice_index, get_or}
use Rattle.std.proofs.Common.{bit_xor, refl, sym, ap, ◌∙◌, arith, lit<}
use Rattle.std.proofs.lemmas.Nat.{xor_mod, xor_shr}
use Rattle.std.specs.Int.{to_le_bytes, w32}
use Rattle.aes_block.specs.Field.{sub_byte}
use Rattle.aes_block.specs.KeySchedule.{word_of, xor_words, sub_word, change_at, joined, round_key}
use Rattle.aes_block.specs.Slices.{octet_at, octet_in, state_of_columns}
use Rattle.aes_block.specs.declared.key_schedule.TheConstants.{ROUND_CONSTANTS}
use Rattle.aes_block.proofs.Schedule.{get_or_ROUND_CONSTANTS, change_at_first, next_key}

-- columns from lists of their octets
pub columns_are : (a b c d : ℕ) (x y z t : List ℕ) → to_le_bytes w32 a ≡ x → to_le_bytes w32 b ≡ y
    → to_le_bytes w32 c ≡ z
    → to_le_bytes w32 d ≡ t → state_of_columns (a ∷ b ∷ c ∷ d ∷ []) ≡ joined x y z t
columns_are a b c d x y z t ea eb ec ed = λ i. joined (ea i) (eb i) (ec i) (ed i)

-- the octets of a sum
octets_of_sum : (a b : ℕ)
    → to_le_bytes w32 (bit_xor a b) ≡ xor_words (to_le_bytes w32 a) (to_le_bytes w32 b)
octets_of_sum a b =
    rw (
      xor_shr a b 8,
      xor_shr a b 16,
      xor_shr a b 24,
      xor_mod a b 8,
      xor_mod (a / 2 ^ 8) (b / 2 ^ 8) 8,
      xor_mod (a / 2 ^ 16) (b / 2 ^ 16) 8,
      xor_mod (a / 2 ^ 24) (b / 2 ^ 24) 8,
    )
    refl

word_same : (f g : ℕ → ℕ) → ((row : ℕ) → row < 4 → f row ≡ g row) → word_of f ≡ word_of g
word_same f g h = rw (h 0 (lit< tt), h 1 (lit< tt), h 2 (lit< tt), h 3 (lit< tt)) refl

-- SUBWORD
pub word_substituted : (word : ℕ) (rest slices substituted words : List ℕ)
    → ((row j : ℕ) → row < 4 → j < 8
    → octet_at slices (8 * row + j) ≡ octet_in (slice_index (word ∷ rest) j) row)
    → ((place : ℕ) → place < 32 → octet_at substituted place ≡ sub_byte (octet_at slices place))
    → ((row j : ℕ) → row < 4 → j < 8 → octet_in (slice_index words j) row
    ≡ octet_at substituted (8 * row + j))
    → to_le_bytes w32 (slice_index words 0) ≡ sub_word (to_le_bytes w32 word)
word_substituted word rest slices substituted words loaded each stored =
    word_same (octet_in (slice_index words 0)) (λ row. sub_byte (octet_in word row))
    (λ row h. stored row 0 h (lit< tt) ∙ each (8 * row + 0) (omega arith)
    ∙ ap sub_byte (loaded row 0 h (lit< tt)))

-- what is added to the first word
pub change_from : (substituted last round : ℕ) (octets : List ℕ) → round < 10
    → to_le_bytes w32 substituted ≡ sub_word (to_le_bytes w32 last)
    → octets ≡ to_le_bytes w32 substituted
    → bit_xor (slice_index octets 1) (get_or ROUND_CONSTANTS round 0) ∷ slice_index octets 2
    ∷ slice_index octets 3
    ∷ slice_index octets 0 ∷ [] ≡ change_at (4 * round + 4) (to_le_bytes w32 last)
change_from substituted last round octets h e eo =
    (λ i. bit_xor (slice_index ((eo ∙ e) i) 1) (get_or_ROUND_CONSTANTS round h i)
    ∷ slice_index ((eo ∙ e) i) 2
    ∷ slice_index ((eo ∙ e) i) 3 ∷ slice_index ((eo ∙ e) i) 0 ∷ [])
    ∙ sym (change_at_first round (to_le_bytes w32 last))

-- the next round key, from what is added to the first of the words
pub next_columns_are : (key : List ℕ) (change round : ℕ)
    → to_le_bytes w32 change ≡ change_at (4 * round + 4) (to_le_bytes w32 (slice_index key 3))
    → (initial : List ℕ) → state_of_columns key ≡ round_key initial round
    → (let first = bit_xor (slice_index key 0) change in
    let second = bit_xor (slice_index key 1) first in
    let third = bit_xor (slice_index key 2) second in
    state_of_columns (first ∷ second ∷ third ∷ bit_xor (slice_index key 3) third ∷ [])
    ≡ round_key initial (round + 1))
next_columns_are key change round ec initial ek =
    let first : ℕ = bit_xor (slice_index key 0) change in
    let second : ℕ = bit_xor (slice_index key 1) first in
    let third : ℕ = bit_xor (slice_index key 2) second in
    let fourth : ℕ = bit_xor (slice_index key 3) third in
    next_key initial (state_of_columns key) (to_le_bytes w32 change) (to_le_bytes w32 first)
    (to_le_bytes w32 second) (to_le_bytes w32 third) (to_le_bytes w32 fourth) round ek ec
    (octets_of_sum (slice_index key 0) change) (octets_of_sum (slice_index key 1) first)
    (octets_of_sum (slice_index key 2) second) (octets_of_sum (slice_index key 3) third)
