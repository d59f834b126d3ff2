-- The steps of the cipher on octets by slices.
use Rattle.std.proofs.Common.{◌≡◌, ℕ, ◌+◌, ◌-◌, ◌*◌, ◌/◌, ◌%◌, ◌^◌, ◌<◌, List, [], ◌∷◌, map, get_or}
use Rattle.std.proofs.Common.{slice_index, bit_xor, bit_or, refl, sym, ap, ◌∙◌, arith, lit<, inl}
use Rattle.std.proofs.Common.{inr}
use Rattle.std.proofs.lemmas.List.FromFn.{get_or-map-range_with_len}
use Rattle.std.proofs.lemmas.Nat.{xor_lt}
use Rattle.std.proofs.lemmas.Nat.Bits.{bit_at_xor, bit_at-lt}
use Rattle.std.specs.Int.{bit_at, to_le_bytes, w32}
use Rattle.std.specs.List.{range_with_len}
use Rattle.std.specs.Int.Bits.{xor_assoc}
use Rattle.aes_block.specs.Field.{octets, times, sub_byte}
use Rattle.aes_block.specs.Cipher.{sub_bytes, shift_rows, mixed, mix_columns, add_round_key}
use Rattle.aes_block.specs.Turned.{by_bits}
use Rattle.aes_block.specs.Slices.{octet_of, bits_at, octet_at, octet_in, state_in}
use Rattle.aes_block.proofs.Octets.{same_at}
use Rattle.aes_block.proofs.Sbox.{times_three}
use Rattle.aes_block.proofs.Xor.{by_bits_xor}
use Rattle.aes_block.proofs.SliceBits.{below_two, each_of_4, each_of_8, AgreeBelow8, octet_of_sums}
use Rattle.aes_block.proofs.SliceBits.{octet_at_lt, bit_of_octet_at, octet_at_from, octet_of_same}
use Rattle.aes_block.proofs.SliceBits.{bit_in, octet_in_lt, rotated_bit}
use Rattle.aes_block.proofs.Transposing.{state_of_within}

-- ---- sums

-- the sums of the words of two lists
abbrev pub word_sums : List ℕ → List ℕ → List ℕ
word_sums a b =
    bit_xor (slice_index a 0) (slice_index b 0) ∷ bit_xor (slice_index a 1) (slice_index b 1)
    ∷ bit_xor (slice_index a 2) (slice_index b 2) ∷ bit_xor (slice_index a 3) (slice_index b 3)
    ∷ bit_xor (slice_index a 4) (slice_index b 4) ∷ bit_xor (slice_index a 5) (slice_index b 5)
    ∷ bit_xor (slice_index a 6) (slice_index b 6) ∷ bit_xor (slice_index a 7) (slice_index b 7) ∷ []

pub sum_at : (a b : List ℕ) (place : ℕ)
    → octet_at (word_sums a b) place ≡ bit_xor (octet_at a place) (octet_at b place)
unfolding octet_at
sum_at a b place =
    let sum = λ (k : ℕ). bit_at_xor (slice_index a k) (slice_index b k) place in
    octet_of_same (bits_at (word_sums a b) place) (λ k. (bits_at a place k + bits_at b place k) % 2)
    (each_of_8 (λ k. bits_at (word_sums a b) place k ≡ (bits_at a place k + bits_at b place k) % 2)
    (sum 0) (sum 1) (sum 2) (sum 3) (sum 4) (sum 5) (sum 6) (sum 7))
    ∙ octet_of_sums (bits_at a place) (bits_at b place) (λ k h. bit_at-lt (slice_index a k) place)
    (λ k h. bit_at-lt (slice_index b k) place)

-- ---- products with x

abbrev pub words_times_x : List ℕ → List ℕ
words_times_x w =
    slice_index w 7 ∷ bit_xor (slice_index w 0) (slice_index w 7) ∷ slice_index w 1
    ∷ bit_xor (slice_index w 2) (slice_index w 7)
    ∷ bit_xor (slice_index w 3) (slice_index w 7) ∷ slice_index w 4 ∷ slice_index w 5
    ∷ slice_index w 6 ∷ []

abbrev bits_times_x : (ℕ → ℕ) → ℕ → ℕ
bits_times_x b k = slice_index
    (b 7 ∷ ((b 0 + b 7) % 2) ∷ b 1 ∷ ((b 2 + b 7) % 2) ∷ ((b 3 + b 7) % 2) ∷ b 4 ∷ b 5 ∷ b 6 ∷ []) k

times_x_test : map (λ b. octet_of (bits_times_x (bit_at b))) octets ≡ map (times 2) octets
unfolding times
times_x_test = refl

pub times_x_at : (words : List ℕ) (place : ℕ) → octet_at (words_times_x words) place
    ≡ times 2 (octet_at words place)
times_x_at words place =
    let o : ℕ = octet_at words place in
    let bit : AgreeBelow8 (bits_at words place) (bit_at o) = bit_of_octet_at words place in
    let carried =
    λ (k : ℕ) (h : k < 8). bit_at_xor (slice_index words k) (slice_index words 7) place
    ∙ (λ i. (bit k h i + bit 7 (lit< tt) i) % 2) in
    octet_at_from (words_times_x words) place (bits_times_x (bit_at o))
    (each_of_8 (λ k. bits_at (words_times_x words) place k ≡ bits_times_x (bit_at o) k)
    (bit 7 (lit< tt)) (carried 0 (lit< tt)) (bit 1 (lit< tt)) (carried 2 (lit< tt))
    (carried 3 (lit< tt)) (bit 4 (lit< tt)) (bit 5 (lit< tt)) (bit 6 (lit< tt)))
    ∙ same_at (λ b. octet_of (bits_times_x (bit_at b))) (times 2) o times_x_test
    (octet_at_lt words place)

-- ---- SUBBYTES

pub substituted_state : (words result : List ℕ)
    → ((place : ℕ) → place < 32 → octet_at result place ≡ sub_byte (octet_at words place))
    → (lane : ℕ) → lane < 2 → state_in lane result ≡ sub_bytes (state_in lane words)
unfolding state_in sub_bytes
substituted_state words result each lane h =
    state_of_within (λ row column. octet_at result (8 * row + 2 * column + lane))
    (λ row column. sub_byte (octet_at words (8 * row + 2 * column + lane)))
    (λ row column hr hc. each (8 * row + 2 * column + lane) (omega arith))

-- ---- SHIFTROWS

-- an octet of a row, rotated
abbrev rotated : ℕ → ℕ → ℕ
rotated by b = bit_or (b / 2 ^ by) (b * 2 ^ (8 - by) % 2 ^ 8)

abbrev Rotates : ℕ → Type 0
Rotates by = map (λ b. map (bit_at (rotated by b)) (range_with_len 0 8)) octets
    ≡ map (λ b. map (λ k. bit_at b ((k + by) % 8)) (range_with_len 0 8)) octets

rotates_two : Rotates 2
rotates_two = refl

rotates_four : Rotates 4
rotates_four = refl

rotates_six : Rotates 6
rotates_six = refl

rotated_at : (by : ℕ) → Rotates by → (b k : ℕ) → b < 256 → k < 8
    → bit_at (rotated by b) k ≡ bit_at b ((k + by) % 8)
rotated_at by test b k hb hk =
    let row : map (bit_at (rotated by b)) (range_with_len 0 8)
    ≡ map (λ j. bit_at b ((j + by) % 8)) (range_with_len 0 8) =
    same_at (λ c. map (bit_at (rotated by c)) (range_with_len 0 8))
    (λ c. map (λ j. bit_at c ((j + by) % 8)) (range_with_len 0 8)) b test hb in
    sym (get_or-map-range_with_len (bit_at (rotated by b)) 0 8 k k 0 hk (omega arith))
    ∙ ap (λ t. get_or t k 0) row
    ∙ get_or-map-range_with_len (λ j. bit_at b ((j + by) % 8)) 0 8 k k 0 hk (omega arith)

-- from the rows of a slice to its bits
pub slice_shifted : (word result second third fourth : ℕ) (rows : List ℕ)
    → rows ≡ to_le_bytes w32 word
    → second ≡ rotated 2 (slice_index rows 1) → third ≡ rotated 4 (slice_index rows 2)
    → fourth ≡ rotated 6 (slice_index rows 3)
    → to_le_bytes w32 result ≡ slice_index rows 0 ∷ second ∷ third ∷ fourth ∷ []
    → (row k : ℕ) → row < 4 → k < 8
    → bit_at result (8 * row + k) ≡ bit_at word (8 * row + (k + 2 * row) % 8)
slice_shifted word result second third fourth rows er e2 e3 e4 e row k hr hk =
    let octet : (r : ℕ)
    → octet_in result r ≡ slice_index (slice_index rows 0 ∷ second ∷ third ∷ fourth ∷ []) r =
    λ r. ap (λ (t : List ℕ). slice_index t r) e in
    let of_word : (r : ℕ) → slice_index rows r ≡ octet_in word r =
    λ r. ap (λ (t : List ℕ). slice_index t r) er in
    let plain : k ≡ (k + 2 * 0) % 8 = omega arith in
    sym (bit_in result row k hr hk)
    ∙ each_of_4 (λ r. bit_at (octet_in result r) k ≡ bit_at (octet_in word r) ((k + 2 * r) % 8))
    (ap (λ n. bit_at n k) (octet 0 ∙ of_word 0) ∙ ap (bit_at (octet_in word 0)) plain)
    (ap (λ n. bit_at n k) (octet 1 ∙ e2 ∙ ap (rotated 2) (of_word 1))
    ∙ rotated_at 2 rotates_two (octet_in word 1) k (octet_in_lt word 1 (lit< tt)) hk)
    (ap (λ n. bit_at n k) (octet 2 ∙ e3 ∙ ap (rotated 4) (of_word 2))
    ∙ rotated_at 4 rotates_four (octet_in word 2) k (octet_in_lt word 2 (lit< tt)) hk)
    (ap (λ n. bit_at n k) (octet 3 ∙ e4 ∙ ap (rotated 6) (of_word 3))
    ∙ rotated_at 6 rotates_six (octet_in word 3) k (octet_in_lt word 3 (lit< tt)) hk)
    row hr
    ∙ bit_in word row ((k + 2 * row) % 8) hr (omega arith)

-- from the octets at each place
pub shifted_state : (words result : List ℕ)
    → ((row j : ℕ) → row < 4 → j < 8
    → octet_at result (8 * row + j) ≡ octet_at words (8 * row + (j + 2 * row) % 8))
    → (lane : ℕ) → lane < 2 → state_in lane result ≡ shift_rows (state_in lane words)
unfolding state_in shift_rows
shifted_state words result each lane h =
    state_of_within (λ row column. octet_at result (8 * row + 2 * column + lane))
    (λ row column. octet_at words (8 * row + 2 * ((column + row) % 4) + lane))
    (λ row column hr hc.
    let place : 8 * row + 2 * column + lane ≡ 8 * row + (2 * column + lane) = omega arith in
    let source : 8 * row + (2 * column + lane + 2 * row) % 8
    ≡ 8 * row + 2 * ((column + row) % 4) + lane = omega arith in
    ap (octet_at result) place ∙ each row (2 * column + lane) hr (omega arith)
    ∙ ap (octet_at words) source)

-- ---- MIXCOLUMNS

-- a slice some rows below
pub slice_rotated : (word rows : ℕ) → word < 2 ^ 32 → 0 < rows → rows < 4
    → (row k : ℕ) → row < 4 → k < 8
    → bit_at (bit_or (word / 2 ^ (8 * rows % 32)) (word * 2 ^ ((32 - 8 * rows % 32) % 32) % 2 ^ 32))
    (8 * row + k)
    ≡ bit_at word (8 * ((row + rows) % 4) + k)
slice_rotated word rows fits some few row k hr hk =
    let by : 8 * rows % 32 ≡ 8 * rows = omega arith in
    let back : (32 - 8 * rows) % 32 ≡ 32 - 8 * rows = omega arith in
    let place : (8 * row + k + 8 * rows) % 32 ≡ 8 * ((row + rows) % 4) + k = omega arith in
    rw (by, back) (rotated_bit word (8 * rows) (8 * row + k) fits (omega arith) (omega arith) (omega
    arith) ∙ ap (bit_at word) place)

double_test : map (times 2) octets
    ≡ map (by_bits (0x02 ∷ 0x04 ∷ 0x08 ∷ 0x10 ∷ 0x20 ∷ 0x40 ∷ 0x80 ∷ 0x1b ∷ [])) octets
unfolding times
double_test = refl

double_is : (b : ℕ) → b < 256
    → times 2 b ≡ by_bits (0x02 ∷ 0x04 ∷ 0x08 ∷ 0x10 ∷ 0x20 ∷ 0x40 ∷ 0x80 ∷ 0x1b ∷ []) b
double_is b h = same_at (times 2)
    (by_bits (0x02 ∷ 0x04 ∷ 0x08 ∷ 0x10 ∷ 0x20 ∷ 0x40 ∷ 0x80 ∷ 0x1b ∷ [])) b double_test h

double_of_sum : (a b : ℕ) → a < 256 → b < 256
    → times 2 (bit_xor a b) ≡ bit_xor (times 2 a) (times 2 b)
double_of_sum a b ha hb =
    double_is (bit_xor a b) (xor_lt 8 a b ha hb)
    ∙ by_bits_xor (0x02 ∷ 0x04 ∷ 0x08 ∷ 0x10 ∷ 0x20 ∷ 0x40 ∷ 0x80 ∷ 0x1b ∷ []) a b
    ∙ (λ i. bit_xor (sym (double_is a ha) i) (sym (double_is b hb) i))

mixed_from_sums : (a b c d : ℕ) → a < 256 → b < 256
    → bit_xor (bit_xor (times 2 (bit_xor a b)) b) (bit_xor c d) ≡ mixed a b c d
unfolding mixed
mixed_from_sums a b c d ha hb =
    ap (λ n. bit_xor (bit_xor n b) (bit_xor c d)) (double_of_sum a b ha hb)
    ∙ ap (λ n. bit_xor n (bit_xor c d))
    (xor_assoc (times 2 a) (times 2 b) b ∙ ap (bit_xor (times 2 a)) (times_three b hb))
    ∙ sym (xor_assoc (bit_xor (times 2 a) (times 3 b)) c d)

abbrev pub IsBelow : ℕ → List ℕ → List ℕ → Type 0
IsBelow rows words result =
    (row j : ℕ) → row < 4 → j < 8
    → octet_at result (8 * row + j) ≡ octet_at words (8 * ((row + rows) % 4) + j)

abbrev pub IsSum : List ℕ → List ℕ → List ℕ → Type 0
IsSum words others result =
    (place : ℕ) → octet_at result place ≡ bit_xor (octet_at words place) (octet_at others place)

module _ (words next sums doubled first third result : List ℕ) (e1 : IsBelow 1 words next)
    (e2 : IsSum words next sums) (e3 : (place : ℕ) → octet_at doubled place
    ≡ times 2 (octet_at sums place)) (e4 : IsSum doubled next first) (e5 : IsBelow 2 sums third)
    (e6 : IsSum first third result) where
  mixed_at : (row j : ℕ) → row < 4 → j < 8 → octet_at result (8 * row + j)
      ≡ mixed (octet_at words (8 * row + j)) (octet_at words (8 * ((row + 1) % 4) + j))
      (octet_at words (8 * ((row + 2) % 4) + j)) (octet_at words (8 * ((row + 3) % 4) + j))
  mixed_at row j hr hj =
      let p : ℕ = 8 * row + j in
      let q : ℕ = 8 * ((row + 2) % 4) + j in
      let a : ℕ = octet_at words p in
      let b : ℕ = octet_at words (8 * ((row + 1) % 4) + j) in
      let c : ℕ = octet_at words q in
      let d : ℕ = octet_at words (8 * ((row + 3) % 4) + j) in
      let around : 8 * (((row + 2) % 4 + 1) % 4) + j ≡ 8 * ((row + 3) % 4) + j = omega arith in
      let next_is : octet_at next p ≡ b = e1 row j hr hj in
      let last_is : octet_at next q ≡ d =
      e1 ((row + 2) % 4) j (omega arith) hj ∙ ap (octet_at words) around in
      let sum_is : octet_at sums p ≡ bit_xor a b = e2 p ∙ ap (bit_xor a) next_is in
      let third_is : octet_at third p ≡ bit_xor c d =
      e5 row j hr hj ∙ e2 q ∙ ap (bit_xor c) last_is in
      e6 p
      ∙ (λ i. bit_xor ((e4 p ∙ (λ k. bit_xor ((e3 p ∙ ap (times 2) sum_is) k) (next_is k))) i)
      (third_is i))
      ∙ mixed_from_sums a b c d (octet_at_lt words p) (octet_at_lt words (8 * ((row + 1) % 4) + j))

  pub mixed_state : (lane : ℕ) → lane < 2 → state_in lane result ≡ mix_columns (state_in lane words)
  unfolding state_in mix_columns
  mixed_state lane h =
      let octet = λ (row column : ℕ). octet_at words (8 * row + 2 * column + lane) in
      state_of_within (λ row column. octet_at result (8 * row + 2 * column + lane))
      (λ row column. mixed (octet row column) (octet ((row + 1) % 4) column)
      (octet ((row + 2) % 4) column) (octet ((row + 3) % 4) column))
      (λ row column hr hc.
      let place : (r : ℕ) → 8 * r + (2 * column + lane) ≡ 8 * r + 2 * column + lane =
      λ r. omega arith in
      ap (octet_at result) (sym (place row)) ∙ mixed_at row (2 * column + lane) hr (omega arith)
      ∙ (λ i. mixed (octet_at words (place row i)) (octet_at words (place ((row + 1) % 4) i))
      (octet_at words (place ((row + 2) % 4) i)) (octet_at words (place ((row + 3) % 4) i))))

-- ---- ADDROUNDKEY

pub added_state : (words others result key : List ℕ) → IsSum words others result
    → state_in 0 others ≡ key → state_in 1 others ≡ key → (lane : ℕ) → lane < 2
    → state_in lane result ≡ add_round_key (state_in lane words) key
unfolding state_in add_round_key
added_state words others result key each first second lane h =
    let same : state_in lane others ≡ key = in_either lane h in
    state_of_within (λ row column. octet_at result (8 * row + 2 * column + lane))
    (λ row column. bit_xor (octet_at words (8 * row + 2 * column + lane))
    (octet_at others (8 * row + 2 * column + lane)))
    (λ row column hr hc. each (8 * row + 2 * column + lane))
    ∙ ap (add_round_key (state_in lane words)) same
  where
    in_either : (l : ℕ) → l < 2 → state_in l others ≡ key
    in_either l hl =
        elim (below_two l hl) [
          | inl e ↦ ap (λ n. state_in n others) e ∙ first
          | inr e ↦ ap (λ n. state_in n others) e ∙ second
        ]
