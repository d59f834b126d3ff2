-- Mixing a column can be undone: the inverse of the matrix (FIPS 197, section 5.3.3), by tests over
-- all octets, which compute.
use Rattle.std.proofs.Common.{◌≡◌, ℕ, ◌<◌, true, [], ◌∷◌, map, refl, ap, ◌∙◌, sym, bit_xor}
use Rattle.std.proofs.lemmas.Nat.{xor_comm, xor_lt}
use Rattle.std.proofs.lemmas.Bool.{ltb-true}
use Rattle.std.specs.Prelude.{nat_lt}
use Rattle.std.specs.Int.Bits.{xor_assoc, xor_zero_r}
use Rattle.aes_block.specs.Field.{octets, times}
use Rattle.aes_block.specs.Cipher.{mixed}
use Rattle.aes_block.specs.Turned.{by_bits}
use Rattle.aes_block.proofs.Octets.{same_at}
use Rattle.aes_block.proofs.Xor.{xor_pairs, by_bits_xor}

-- the sum of four
abbrev pub sum_of_four : ℕ → ℕ → ℕ → ℕ → ℕ
sum_of_four a b c d = bit_xor (bit_xor (bit_xor a b) c) d

-- an octet times 14, 11, 13 and 9, by its bits
unfoldable pub by_14 : ℕ → ℕ
by_14 b = by_bits (0x0e ∷ 0x1c ∷ 0x38 ∷ 0x70 ∷ 0xe0 ∷ 0xdb ∷ 0xad ∷ 0x41 ∷ []) b

unfoldable pub by_11 : ℕ → ℕ
by_11 b = by_bits (0x0b ∷ 0x16 ∷ 0x2c ∷ 0x58 ∷ 0xb0 ∷ 0x7b ∷ 0xf6 ∷ 0xf7 ∷ []) b

unfoldable pub by_13 : ℕ → ℕ
by_13 b = by_bits (0x0d ∷ 0x1a ∷ 0x34 ∷ 0x68 ∷ 0xd0 ∷ 0xbb ∷ 0x6d ∷ 0xda ∷ []) b

unfoldable pub by_9 : ℕ → ℕ
by_9 b = by_bits (0x09 ∷ 0x12 ∷ 0x24 ∷ 0x48 ∷ 0x90 ∷ 0x3b ∷ 0x76 ∷ 0xec ∷ []) b

-- each is linear
abbrev IsLinear : (ℕ → ℕ) → Type 0
IsLinear f = (a b : ℕ) → f (bit_xor a b) ≡ bit_xor (f a) (f b)

linear_14 : IsLinear by_14
unfolding by_14
linear_14 a b = by_bits_xor (0x0e ∷ 0x1c ∷ 0x38 ∷ 0x70 ∷ 0xe0 ∷ 0xdb ∷ 0xad ∷ 0x41 ∷ []) a b

linear_11 : IsLinear by_11
unfolding by_11
linear_11 a b = by_bits_xor (0x0b ∷ 0x16 ∷ 0x2c ∷ 0x58 ∷ 0xb0 ∷ 0x7b ∷ 0xf6 ∷ 0xf7 ∷ []) a b

linear_13 : IsLinear by_13
unfolding by_13
linear_13 a b = by_bits_xor (0x0d ∷ 0x1a ∷ 0x34 ∷ 0x68 ∷ 0xd0 ∷ 0xbb ∷ 0x6d ∷ 0xda ∷ []) a b

linear_9 : IsLinear by_9
unfolding by_9
linear_9 a b = by_bits_xor (0x09 ∷ 0x12 ∷ 0x24 ∷ 0x48 ∷ 0x90 ∷ 0x3b ∷ 0x76 ∷ 0xec ∷ []) a b

of_four : (f : ℕ → ℕ) → IsLinear f → (a b c d : ℕ)
    → f (sum_of_four a b c d) ≡ sum_of_four (f a) (f b) (f c) (f d)
of_four f linear a b c d =
    linear (bit_xor (bit_xor a b) c) d ∙ ap (λ (x : ℕ). bit_xor x (f d)) (linear (bit_xor a b) c
    ∙ ap (λ (x : ℕ). bit_xor x (f c)) (linear a b))

-- the octet that was in the first of four mixed ones
abbrev pub unmixed : ℕ → ℕ → ℕ → ℕ → ℕ
unmixed a b c d = sum_of_four (by_14 a) (by_11 b) (by_13 c) (by_9 d)

-- ---- what each octet of the column adds

first_test : map (λ a. sum_of_four (by_14 (times 2 a)) (by_11 a) (by_13 a)
    (by_9 (times 3 a))) octets ≡ map (λ a. a) octets
unfolding times by_14 by_11 by_13 by_9
first_test = refl

second_test : map (λ b. sum_of_four (by_14 (times 3 b)) (by_11 (times 2 b)) (by_13 b)
    (by_9 b)) octets ≡ map (λ _. 0) octets
unfolding times by_14 by_11 by_13 by_9
second_test = refl

third_test : map (λ c. sum_of_four (by_14 c) (by_11 (times 3 c)) (by_13 (times 2 c))
    (by_9 c)) octets ≡ map (λ _. 0) octets
unfolding times by_14 by_11 by_13 by_9
third_test = refl

fourth_test : map (λ d. sum_of_four (by_14 d) (by_11 d) (by_13 (times 3 d))
    (by_9 (times 2 d))) octets ≡ map (λ _. 0) octets
unfolding times by_14 by_11 by_13 by_9
fourth_test = refl

-- ---- sums of sums

-- the last of four first
turned_once : (a b c d : ℕ) → sum_of_four a b c d ≡ sum_of_four d a b c
turned_once a b c d = xor_comm (bit_xor (bit_xor a b) c) d ∙ sym (xor_assoc d (bit_xor a b) c)
    ∙ ap (λ (x : ℕ). bit_xor x c) (sym (xor_assoc d a b))

two_sums : (a b c d e f g h : ℕ) → bit_xor (sum_of_four a b c d) (sum_of_four e f g h)
    ≡ sum_of_four (bit_xor a e) (bit_xor b f) (bit_xor c g) (bit_xor d h)
two_sums a b c d e f g h =
    xor_pairs (bit_xor (bit_xor a b) c) d (bit_xor (bit_xor e f) g) h
    ∙ ap (λ (x : ℕ). bit_xor x (bit_xor d h)) (xor_pairs (bit_xor a b) c (bit_xor e f) g
    ∙ ap (λ (x : ℕ). bit_xor x (bit_xor c g)) (xor_pairs a b e f))

-- the sum of four rows is the sum of four columns
by_columns : (a b c d e f g h i j k l m n o p : ℕ)
    → sum_of_four (sum_of_four a b c d) (sum_of_four e f g h) (sum_of_four i j k l)
    (sum_of_four m n o p)
    ≡ sum_of_four (sum_of_four a e i m) (sum_of_four b f j n) (sum_of_four c g k o)
    (sum_of_four d h l p)
by_columns a b c d e f g h i j k l m n o p =
    ap (λ (x : ℕ). bit_xor (bit_xor x (sum_of_four i j k l)) (sum_of_four m n o p))
    (two_sums a b c d e f g h)
    ∙ ap (λ (x : ℕ). bit_xor x (sum_of_four m n o p))
    (two_sums (bit_xor a e) (bit_xor b f) (bit_xor c g) (bit_xor d h) i j k l)
    ∙ two_sums (bit_xor (bit_xor a e) i) (bit_xor (bit_xor b f) j) (bit_xor (bit_xor c g) k)
    (bit_xor (bit_xor d h) l) m n o p

-- ---- the column

pub unmixed_mixed : (a b c d : ℕ) → a < 256 → b < 256 → c < 256 → d < 256
    → unmixed (mixed a b c d) (mixed b c d a) (mixed c d a b) (mixed d a b c) ≡ a
unfolding mixed
unmixed_mixed a b c d ha hb hc hd =
    let row_14 = of_four by_14 linear_14 (times 2 a) (times 3 b) c d in
    let row_11 = of_four by_11 linear_11 (times 2 b) (times 3 c) d a
    ∙ turned_once (by_11 (times 2 b)) (by_11 (times 3 c)) (by_11 d) (by_11 a) in
    let row_13 =
    of_four by_13 linear_13 (times 2 c) (times 3 d) a b
    ∙ turned_once (by_13 (times 2 c)) (by_13 (times 3 d)) (by_13 a) (by_13 b)
    ∙ turned_once (by_13 b) (by_13 (times 2 c)) (by_13 (times 3 d)) (by_13 a) in
    let row_9 =
    of_four by_9 linear_9 (times 2 d) (times 3 a) b c
    ∙ sym (turned_once (by_9 (times 3 a)) (by_9 b) (by_9 c) (by_9 (times 2 d))) in
    let first = same_at (λ a. sum_of_four (by_14 (times 2 a)) (by_11 a) (by_13 a)
    (by_9 (times 3 a))) (λ a. a) a first_test ha in
    let second = same_at (λ b. sum_of_four (by_14 (times 3 b)) (by_11 (times 2 b)) (by_13 b)
    (by_9 b)) (λ _. 0) b second_test hb in
    let third = same_at (λ c. sum_of_four (by_14 c) (by_11 (times 3 c)) (by_13 (times 2 c))
    (by_9 c)) (λ _. 0) c third_test hc in
    let fourth = same_at (λ d. sum_of_four (by_14 d) (by_11 d) (by_13 (times 3 d))
    (by_9 (times 2 d))) (λ _. 0) d fourth_test hd in
    rw (
      row_14,
      row_11,
      row_13,
      row_9,
      by_columns (by_14 (times 2 a)) (by_14 (times 3 b)) (by_14 c) (by_14 d) (by_11 a)
          (by_11 (times 2 b)) (by_11 (times 3 c)) (by_11 d)
          (by_13 a) (by_13 b) (by_13 (times 2 c)) (by_13 (times 3 d)) (by_9 (times 3 a)) (by_9 b)
          (by_9 c) (by_9 (times 2 d)),
      first,
      second,
      third,
      fourth,
      xor_zero_r (bit_xor (bit_xor a 0) 0),
      xor_zero_r (bit_xor a 0),
    ) (xor_zero_r a)

-- ---- a mixed octet is an octet

twice_test : map (λ b. nat_lt (times 2 b) 256) octets ≡ map (λ _. true) octets
unfolding times
twice_test = refl

thrice_test : map (λ b. nat_lt (times 3 b) 256) octets ≡ map (λ _. true) octets
unfolding times
thrice_test = refl

pub times_two_lt : (b : ℕ) → b < 256 → times 2 b < 256
times_two_lt b h =
    ltb-true (times 2 b) 256 (same_at (λ b. nat_lt (times 2 b) 256) (λ _. true) b twice_test h)

pub mixed_lt : (a b c d : ℕ) → a < 256 → b < 256 → c < 256 → d < 256 → mixed a b c d < 256
unfolding mixed
mixed_lt a b c d ha hb hc hd =
    let thrice =
    ltb-true (times 3 b) 256 (same_at (λ b. nat_lt (times 3 b) 256) (λ _. true) b thrice_test hb) in
    xor_lt 8 (bit_xor (bit_xor (times 2 a) (times 3 b)) c) d
    (xor_lt 8 (bit_xor (times 2 a) (times 3 b)) c
    (xor_lt 8 (times 2 a) (times 3 b) (times_two_lt a ha) thrice) hc) hd
