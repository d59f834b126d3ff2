-- The round tables, entry by entry: each by one test over all octets, which computes.
use Rattle.std.proofs.Common.{◌≡◌, ℕ, ◌/◌, ◌^◌, ◌<◌, List, [], ◌∷◌, map, refl, bit_xor, get_or, ap}
use Rattle.std.proofs.Common.{◌∙◌}
use Rattle.std.proofs.lemmas.Nat.{xor_mod, xor_shr, xor_comm}
use Rattle.std.specs.Int.Bits.{xor_assoc}
use Rattle.aes_block.specs.Field.{octets, times, sub_byte}
use Rattle.aes_block.specs.KeySchedule.{xor_words, sub_word}
use Rattle.aes_block.specs.Cipher.{mixed, mixed_column}
use Rattle.aes_block.specs.Words.{octets_of, added}
use Rattle.aes_block.specs.declared.tables.TheConstants.{S_BOX, FIRST_ROW, SECOND_ROW, THIRD_ROW}
use Rattle.aes_block.specs.declared.tables.TheConstants.{FOURTH_ROW}
use Rattle.aes_block.proofs.Octets.{same_at}
use Rattle.aes_block.proofs.Sbox.{get_or_S_BOX}

-- the table has at each octet what it adds to the column, r rows on
abbrev Adds : List ℕ → ℕ → Type 0
Adds table r =
    map (λ b. octets_of (get_or table b 0)) octets ≡ map (λ b. added r (get_or S_BOX b 0)) octets

entry_at : (table : List ℕ) (r : ℕ) → Adds table r → (b : ℕ) → b < 256
    → octets_of (get_or table b 0) ≡ added r (sub_byte b)
entry_at table r test b h =
    same_at (λ b. octets_of (get_or table b 0)) (λ b. added r (get_or S_BOX b 0)) b test h
    ∙ ap (added r) (get_or_S_BOX b h)

first_test : Adds FIRST_ROW 0
unfolding times
first_test = refl

second_test : Adds SECOND_ROW 3
unfolding times
second_test = refl

third_test : Adds THIRD_ROW 2
unfolding times
third_test = refl

fourth_test : Adds FOURTH_ROW 1
unfolding times
fourth_test = refl

pub get_or_FIRST_ROW : (b : ℕ) → b < 256 → octets_of (get_or FIRST_ROW b 0) ≡ added 0 (sub_byte b)
get_or_FIRST_ROW = entry_at FIRST_ROW 0 first_test

pub get_or_SECOND_ROW : (b : ℕ) → b < 256 → octets_of (get_or SECOND_ROW b 0) ≡ added 3 (sub_byte b)
get_or_SECOND_ROW = entry_at SECOND_ROW 3 second_test

pub get_or_THIRD_ROW : (b : ℕ) → b < 256 → octets_of (get_or THIRD_ROW b 0) ≡ added 2 (sub_byte b)
get_or_THIRD_ROW = entry_at THIRD_ROW 2 third_test

pub get_or_FOURTH_ROW : (b : ℕ) → b < 256 → octets_of (get_or FOURTH_ROW b 0) ≡ added 1 (sub_byte b)
get_or_FOURTH_ROW = entry_at FOURTH_ROW 1 fourth_test

-- ---- octets of words

-- the octets of a sum
pub octets_of_xor : (a b : ℕ) → octets_of (bit_xor a b) ≡ xor_words (octets_of a) (octets_of b)
octets_of_xor a b =
    rw (
      xor_shr a b 24,
      xor_shr a b 16,
      xor_shr a b 8,
      xor_mod (a / 2 ^ 24) (b / 2 ^ 24) 8,
      xor_mod (a / 2 ^ 16) (b / 2 ^ 16) 8,
      xor_mod (a / 2 ^ 8) (b / 2 ^ 8) 8,
      xor_mod a b 8,
    )
    refl

-- a sum of four, beginning one later
around : (p q r s : ℕ) → bit_xor (bit_xor (bit_xor p q) r) s ≡ bit_xor (bit_xor (bit_xor q r) s) p
around p q r s =
    ap (λ x. bit_xor x s) (xor_assoc p q r) ∙ xor_assoc p (bit_xor q r) s
    ∙ xor_comm p (bit_xor (bit_xor q r) s)

-- ---- a column

columns_meet : (a b c d : ℕ) → xor_words (xor_words (xor_words (added 0 a) (added 3 b))
    (added 2 c)) (added 1 d) ≡ mixed_column (a ∷ b ∷ c ∷ d ∷ [])
unfolding mixed
columns_meet a b c d =
    rw (
      around a (times 2 b) (times 3 c) d,
      around a b (times 2 c) (times 3 d),
      around b (times 2 c) (times 3 d) a,
      around (times 3 a) b c (times 2 d),
      around b c (times 2 d) (times 3 a),
      around c (times 2 d) (times 3 a) b,
    )
    refl

pub full_column_is : (a b c d p q r s k : ℕ) → octets_of p ≡ added 0 (sub_byte a)
    → octets_of q ≡ added 3 (sub_byte b)
    → octets_of r ≡ added 2 (sub_byte c) → octets_of s ≡ added 1 (sub_byte d)
    → octets_of (bit_xor (bit_xor (bit_xor (bit_xor p q) r) s) k)
    ≡ xor_words (mixed_column (sub_word (a ∷ b ∷ c ∷ d ∷ []))) (octets_of k)
full_column_is a b c d p q r s k ep eq er es =
    let first : List ℕ = added 0 (sub_byte a) in
    let two : List ℕ = xor_words first (added 3 (sub_byte b)) in
    let three : List ℕ = xor_words two (added 2 (sub_byte c)) in
    let four : List ℕ = xor_words three (added 1 (sub_byte d)) in
    let two_is : octets_of (bit_xor p q) ≡ two =
    octets_of_xor p q ∙ ap (λ v. xor_words v (octets_of q)) ep ∙ ap (xor_words first) eq in
    let three_is : octets_of (bit_xor (bit_xor p q) r) ≡ three =
    octets_of_xor (bit_xor p q) r ∙ ap (λ v. xor_words v (octets_of r)) two_is
    ∙ ap (xor_words two) er in
    let four_is : octets_of (bit_xor (bit_xor (bit_xor p q) r) s) ≡ four =
    octets_of_xor (bit_xor (bit_xor p q) r) s ∙ ap (λ v. xor_words v (octets_of s)) three_is
    ∙ ap (xor_words three) es in
    octets_of_xor (bit_xor (bit_xor (bit_xor p q) r) s) k
    ∙ ap (λ v. xor_words v (octets_of k))
    (four_is ∙ columns_meet (sub_byte a) (sub_byte b) (sub_byte c) (sub_byte d))

pub last_column_is : (a b c d p q r s w k : ℕ) → p ≡ sub_byte a → q ≡ sub_byte b → r ≡ sub_byte c
    → s ≡ sub_byte d
    → octets_of w ≡ p ∷ q ∷ r ∷ s ∷ []
    → octets_of (bit_xor w k) ≡ xor_words (sub_word (a ∷ b ∷ c ∷ d ∷ [])) (octets_of k)
last_column_is a b c d p q r s w k ep eq er es ew =
    let substituted : p ∷ q ∷ r ∷ s ∷ [] ≡ sub_word (a ∷ b ∷ c ∷ d ∷ []) =
    rw (ep, eq, er, es) refl in
    octets_of_xor w k ∙ ap (λ v. xor_words v (octets_of k)) (ew ∙ substituted)
