-- Words by their bits, and octets by eight bits.
use Rattle.std.proofs.Common.{◌≡◌, ◌⊎◌, ℕ, zero, suc, ◌+◌, ◌-◌, ◌*◌, ◌/◌, ◌%◌, ◌^◌, ◌<◌, ◌≤◌, min}
use Rattle.std.proofs.Common.{List, [], ◌∷◌, map, slice_index, eqb, ltb, cond, refl, sym, ap, ◌∙◌}
use Rattle.std.proofs.Common.{arith, lit<, bit_xor, bit_and, bit_or, pow_pos, shr-shr, inl, inr}
use Rattle.std.proofs.lemmas.Nat.{xor_lt}
use Rattle.std.proofs.lemmas.Nat.Bits.{bit_at-zero, bit_at_xor, bit_at_and, bit_at_or, bit_at-lt}
use Rattle.std.proofs.lemmas.Nat.Bits.{bit_at_cat_low, bit_at_cat_high, bit_at_above}
use Rattle.std.proofs.lemmas.Nat.Bits.{same_from_bits_below}
use Rattle.std.proofs.lemmas.Bool.{cases_lt, cond_both, ltb-true, ltb-false}
use Rattle.std.specs.Int.{bit_at}
use Rattle.aes_block.specs.Field.{octets}
use Rattle.aes_block.specs.Slices.{octet_of, bits_at, at_place, octet_at, octet_in, bit_from_x}
use Rattle.aes_block.specs.Slices.{bit_from_y}
use Rattle.aes_block.proofs.Octets.{same_at}

-- ---- a fact at each of eight, and of four

pub each_of_8 : (P : ℕ → Type 0) → P 0 → P 1 → P 2 → P 3 → P 4 → P 5 → P 6 → P 7 → (k : ℕ)
    → k < 8 → P k
each_of_8 P a b c d e f g h zero l = a
each_of_8 P a b c d e f g h (suc zero) l = b
each_of_8 P a b c d e f g h (suc (suc zero)) l = c
each_of_8 P a b c d e f g h (suc (suc (suc zero))) l = d
each_of_8 P a b c d e f g h (suc (suc (suc (suc zero)))) l = e
each_of_8 P a b c d e f g h (suc (suc (suc (suc (suc zero))))) l = f
each_of_8 P a b c d e f g h (suc (suc (suc (suc (suc (suc zero)))))) l = g
each_of_8 P a b c d e f g h (suc (suc (suc (suc (suc (suc (suc zero))))))) l = h
each_of_8 P a b c d e f g h (suc (suc (suc (suc (suc (suc (suc (suc n)))))))) l =
    absurd (omega arith)

pub each_of_4 : (P : ℕ → Type 0) → P 0 → P 1 → P 2 → P 3 → (k : ℕ) → k < 4 → P k
each_of_4 P a b c d zero l = a
each_of_4 P a b c d (suc zero) l = b
each_of_4 P a b c d (suc (suc zero)) l = c
each_of_4 P a b c d (suc (suc (suc zero))) l = d
each_of_4 P a b c d (suc (suc (suc (suc n)))) l = absurd (omega arith)

-- ---- an octet and its bits

abbrev pub AreBits : (ℕ → ℕ) → Type 0
AreBits f = (k : ℕ) → k < 8 → f k < 2

abbrev pub AgreeBelow8 : (ℕ → ℕ) → (ℕ → ℕ) → Type 0
AgreeBelow8 f g = (k : ℕ) → k < 8 → f k ≡ g k

-- the same bits make the same octet
pub octet_of_same : (f g : ℕ → ℕ) → AgreeBelow8 f g → octet_of f ≡ octet_of g
octet_of_same f g h =
    rw (
      h 0 (lit< tt),
      h 1 (lit< tt),
      h 2 (lit< tt),
      h 3 (lit< tt),
      h 4 (lit< tt),
      h 5 (lit< tt),
      h 6 (lit< tt),
      h 7 (lit< tt),
    ) refl

octet_test : map (λ b. octet_of (bit_at b)) octets ≡ map (λ b. b) octets
octet_test = refl

-- the bits of an octet make it
pub octet_of_bits : (b : ℕ) → b < 256 → octet_of (bit_at b) ≡ b
octet_of_bits b h = same_at (λ b. octet_of (bit_at b)) (λ b. b) b octet_test h

pub octet_of_lt : (f : ℕ → ℕ) → AreBits f → octet_of f < 256
octet_of_lt f h =
    omega (
      arith,
      h 0 (lit< tt),
      h 1 (lit< tt),
      h 2 (lit< tt),
      h 3 (lit< tt),
      h 4 (lit< tt),
      h 5 (lit< tt),
      h 6 (lit< tt),
      h 7 (lit< tt),
    )

bit_of_eight : (a b c d e f g h : ℕ) → a < 2 → b < 2 → c < 2 → d < 2 → e < 2 → f < 2 → g < 2 → h < 2
    → AgreeBelow8 (bit_at (octet_of (slice_index (a ∷ b ∷ c ∷ d ∷ e ∷ f ∷ g ∷ h ∷ []))))
    (slice_index (a ∷ b ∷ c ∷ d ∷ e ∷ f ∷ g ∷ h ∷ []))
bit_of_eight a b c d e f g h la lb lc ld le lf lg lh =
    each_of_8 (λ k. bit_at (octet_of (slice_index (a ∷ b ∷ c ∷ d ∷ e ∷ f ∷ g ∷ h ∷ []))) k
    ≡ slice_index (a ∷ b ∷ c ∷ d ∷ e ∷ f ∷ g ∷ h ∷ []) k)
    (omega arith) (omega arith) (omega arith) (omega arith) (omega arith) (omega arith)
    (omega arith) (omega arith)

-- the octet made of these bits has them
pub bit_of_octet : (f : ℕ → ℕ) → AreBits f → AgreeBelow8 (bit_at (octet_of f)) f
bit_of_octet f h =
    let made = bit_of_eight (f 0) (f 1) (f 2) (f 3) (f 4) (f 5) (f 6) (f 7) (h 0 (lit< tt))
    (h 1 (lit< tt)) (h 2 (lit< tt)) (h 3 (lit< tt)) (h 4 (lit< tt)) (h 5 (lit< tt)) (h 6 (lit< tt))
    (h 7 (lit< tt)) in
    each_of_8 (λ k. bit_at (octet_of f) k ≡ f k)
    (made 0 (lit< tt)) (made 1 (lit< tt)) (made 2 (lit< tt)) (made 3 (lit< tt))
    (made 4 (lit< tt)) (made 5 (lit< tt)) (made 6 (lit< tt)) (made 7 (lit< tt))

-- the sums of bits make the sum of octets
pub octet_of_sums : (f g : ℕ → ℕ) → AreBits f → AreBits g → octet_of (λ k. (f k + g k) % 2)
    ≡ bit_xor (octet_of f) (octet_of g)
octet_of_sums f g hf hg =
    let sums : ℕ → ℕ = λ k. (f k + g k) % 2 in
    let are : AreBits sums = λ k h. omega arith in
    same_from_bits_below 8 (octet_of sums) (bit_xor (octet_of f) (octet_of g))
    (octet_of_lt sums are)
    (xor_lt 8 (octet_of f) (octet_of g) (octet_of_lt f hf) (octet_of_lt g hg))
    (λ k h. bit_of_octet sums are k h
    ∙ sym (bit_at_xor (octet_of f) (octet_of g) k
    ∙ (λ i. (bit_of_octet f hf k h i + bit_of_octet g hg k h i) % 2)))

-- ---- the octets of eight words

pub octet_at_lt : (words : List ℕ) (place : ℕ) → octet_at words place < 256
unfolding octet_at
octet_at_lt words place =
    octet_of_lt (bits_at words place) (λ k h. bit_at-lt (slice_index words k) place)

pub bit_of_octet_at : (words : List ℕ) (place : ℕ)
    → AgreeBelow8 (bits_at words place) (bit_at (octet_at words place))
unfolding octet_at
bit_of_octet_at words place k h =
    sym (bit_of_octet (bits_at words place) (λ j l. bit_at-lt (slice_index words j) place) k h)

-- from bits to octets
pub octet_at_from : (words : List ℕ) (place : ℕ) (f : ℕ → ℕ) → AgreeBelow8 (bits_at words place) f
    → octet_at words place ≡ octet_of f
unfolding octet_at
octet_at_from words place f h = octet_of_same (bits_at words place) f h

pub octet_at_same : (words others : List ℕ) (place other : ℕ)
    → AgreeBelow8 (bits_at words place) (bits_at others other)
    → octet_at words place ≡ octet_at others other
unfolding octet_at
octet_at_same words others place other h =
    octet_of_same (bits_at words place) (bits_at others other) h

-- the bits at a place, as a function and as a list
pub bits_listed : (words : List ℕ) (place k : ℕ)
    → bits_at words place k ≡ slice_index (at_place words place) k
bits_listed [] place k = bit_at-zero place
bits_listed (w ∷ ws) place zero = refl
bits_listed (w ∷ ws) place (suc k) = bits_listed ws place k

pub bits_are_listed : (words : List ℕ) (place : ℕ)
    → bits_at words place ≡ (λ k. slice_index (at_place words place) k)
bits_are_listed words place = λ i k. bits_listed words place k i

-- ---- the octets of a word

low_8 : (x k : ℕ) → k < 8 → bit_at (x % 256) k ≡ bit_at x k
low_8 x k h =
    let split : x ≡ x / 256 * 256 + x % 256 = omega arith in
    sym (bit_at_cat_low (x / 256) 8 (x % 256) k h) ∙ ap (λ y. bit_at y k) (sym split)

pub low_32 : (x k : ℕ) → k < 32 → bit_at (x % 2 ^ 32) k ≡ bit_at x k
low_32 x k h =
    let split : x ≡ x / 2 ^ 32 * 2 ^ 32 + x % 2 ^ 32 = omega arith in
    sym (bit_at_cat_low (x / 2 ^ 32) 32 (x % 2 ^ 32) k h) ∙ ap (λ y. bit_at y k) (sym split)

shifted_bit : (x d k : ℕ) → bit_at (x / 2 ^ d) k ≡ bit_at x (d + k)
shifted_bit x d k = ap (λ y. y % 2) (shr-shr x d k)

octet_in_is : (word row : ℕ) → row < 4 → octet_in word row ≡ word / 2 ^ (8 * row) % 256
octet_in_is word =
    each_of_4 (λ row. octet_in word row ≡ word / 2 ^ (8 * row) % 256) (omega arith) refl refl refl

-- a bit of a word, in its octet
pub bit_in : (word row k : ℕ) → row < 4 → k < 8
    → bit_at (octet_in word row) k ≡ bit_at word (8 * row + k)
bit_in word row k hr hk =
    ap (λ x. bit_at x k) (octet_in_is word row hr) ∙ low_8 (word / 2 ^ (8 * row)) k hk
    ∙ shifted_bit word (8 * row) k

pub octet_in_lt : (word row : ℕ) → row < 4 → octet_in word row < 256
octet_in_lt word row h = omega (arith, octet_in_is word row h)

-- eight bits of a word in a row make its octet
pub octet_in_row : (word row : ℕ) → row < 4 → octet_of (λ k. bit_at word (8 * row + k))
    ≡ octet_in word row
octet_in_row word row h =
    octet_of_same (λ k. bit_at word (8 * row + k)) (bit_at (octet_in word row))
    (λ k l. sym (bit_in word row k h l))
    ∙ octet_of_bits (octet_in word row) (octet_in_lt word row h)

-- ---- moves of bits

-- a bit of a word that was rotated to the right
pub rotated_bit : (n d p : ℕ) → n < 2 ^ 32 → 0 < d → d < 32 → p < 32
    → bit_at (bit_or (n / 2 ^ d) (n * 2 ^ (32 - d) % 2 ^ 32)) p ≡ bit_at n ((p + d) % 32)
rotated_bit n d p fits some less within =
    let right : bit_at (n / 2 ^ d) p ≡ bit_at n (d + p) = shifted_bit n d p in
    let left : bit_at (n * 2 ^ (32 - d) % 2 ^ 32) p ≡ bit_at (n * 2 ^ (32 - d) + 0) p =
    low_32 (n * 2 ^ (32 - d)) p within ∙ ap (λ x. bit_at x p) (omega arith) in
    elim (cases_lt p (32 - d)) [
      | inl l ↦
          let place : (p + d) % 32 ≡ d + p = omega arith in
          let none : bit_at (n * 2 ^ (32 - d) + 0) p ≡ 0 =
          bit_at_cat_low n (32 - d) 0 p l ∙ bit_at-zero p in
          bit_at_or (n / 2 ^ d) (n * 2 ^ (32 - d) % 2 ^ 32) p
          ∙ rw (right, left, none, place) (omega arith)
      | inr l ↦
          let place : (p + d) % 32 ≡ p - (32 - d) = omega arith in
          let none : bit_at n (d + p) ≡ 0 = bit_at_above n 32 (d + p) fits (omega arith) in
          let some : bit_at (n * 2 ^ (32 - d) + 0) p ≡ bit_at n (p - (32 - d)) =
          bit_at_cat_high n (32 - d) 0 p (pow_pos (32 - d)) l in
          bit_at_or (n / 2 ^ d) (n * 2 ^ (32 - d) % 2 ^ 32) p
          ∙ rw (right, left, none, some, place) (omega arith)
    ]

-- a sum with what differs, where a mask has a 1
pub below_two : (n : ℕ) → n < 2 → (n ≡ 0) ⊎ (n ≡ 1)
below_two zero h = inl refl
below_two (suc zero) h = inr refl
below_two (suc (suc n)) h = absurd (omega arith)

taken : (m v y : ℕ) → m < 2 → v < 2 → y < 2 → (y + min ((v + y) % 2) m) % 2 ≡ cond (eqb m 1) v y
taken m v y hm hv hy =
    elim (below_two m hm) [
      | inl e ↦ rw e (omega arith)
      | inr e ↦ rw e (omega arith)
    ]

pub exchanged_x : (x y low d place : ℕ)
    → bit_at (bit_xor y (bit_and (bit_xor (x / 2 ^ d) y) low)) place ≡ bit_from_x x y low d place
exchanged_x x y low d place =
    let order : d + place ≡ place + d = omega arith in
    bit_at_xor y (bit_and (bit_xor (x / 2 ^ d) y) low) place
    ∙ rw (
      bit_at_and (bit_xor (x / 2 ^ d) y) low place,
      bit_at_xor (x / 2 ^ d) y place,
      shifted_bit x d place,
      order,
    )
    (taken (bit_at low place) (bit_at x (place + d)) (bit_at y place) (bit_at-lt low place)
    (bit_at-lt x (place + d)) (bit_at-lt y place))

taken_back : (m v x : ℕ) → m < 2 → v < 2 → x < 2
    → (x + min ((x + v) % 2) m) % 2 ≡ cond (eqb m 1) v x
taken_back m v x hm hv hx =
    elim (below_two m hm) [
      | inl e ↦ rw e (omega arith)
      | inr e ↦ rw e (omega arith)
    ]

pub exchanged_y : (x y low d place : ℕ) → place < 32
    → bit_at (bit_xor x (bit_and (bit_xor (x / 2 ^ d) y) low * 2 ^ d % 2 ^ 32)) place
    ≡ bit_from_y x y low d place
exchanged_y x y low d place within =
    let differing : ℕ = bit_and (bit_xor (x / 2 ^ d) y) low in
    let moved : bit_at (differing * 2 ^ d % 2 ^ 32) place ≡ bit_at (differing * 2 ^ d + 0) place =
    low_32 (differing * 2 ^ d) place within ∙ ap (λ n. bit_at n place) (omega arith) in
    bit_at_xor x (differing * 2 ^ d % 2 ^ 32) place
    ∙ cond_both (ltb place d) (bit_at x place)
    (cond (eqb (bit_at low (place - d)) 1) (bit_at y (place - d)) (bit_at x place))
    (λ answer. (bit_at x place + bit_at (differing * 2 ^ d % 2 ^ 32) place) % 2 ≡ answer)
    (λ e.
    let none : bit_at (differing * 2 ^ d + 0) place ≡ 0 =
    bit_at_cat_low differing d 0 place (ltb-true place d e) ∙ bit_at-zero place in
    rw (moved, none) (omega (arith, bit_at-lt x place)))
    (λ e.
    let from : d ≤ place = ltb-false place d e in
    let q : ℕ = place - d in
    let back : d + q ≡ place = omega arith in
    let some : bit_at (differing * 2 ^ d + 0) place ≡ bit_at differing q =
    bit_at_cat_high differing d 0 place (pow_pos d) from in
    let bit : bit_at differing q ≡ min ((bit_at x place + bit_at y q) % 2) (bit_at low q) =
    bit_at_and (bit_xor (x / 2 ^ d) y) low q
    ∙ ap (λ n. min n (bit_at low q)) (bit_at_xor (x / 2 ^ d) y q
    ∙ ap (λ n. (n + bit_at y q) % 2) (shifted_bit x d q ∙ ap (bit_at x) back)) in
    rw (moved, some, bit)
    (taken_back (bit_at low q) (bit_at y q) (bit_at x place) (bit_at-lt low q) (bit_at-lt y q)
    (bit_at-lt x place)))
