-- The transposition of eight words, which loads states and stores them.
use Rattle.std.proofs.Common.{◌≡◌, ℕ, ◌+◌, ◌-◌, ◌*◌, ◌%◌, ◌<◌, Bool, true, ◌&&◌, List, [], ◌∷◌, map}
use Rattle.std.proofs.Common.{get_or, slice_index, eqb, ltb, refl, sym, ap, ◌∙◌, arith, lit<}
use Rattle.std.proofs.lemmas.List.FromFn.{get_or-map-range_with_len}
use Rattle.std.proofs.lemmas.Bool.{and_parts, ltb-true, eqb-true}
use Rattle.std.specs.Int.{bit_at}
use Rattle.std.specs.List.{range_with_len}
use Rattle.aes_block.specs.Cipher.{state_of}
use Rattle.aes_block.specs.Slices.{bits_at, at_place, octet_at, octet_in, state_in}
use Rattle.aes_block.specs.Slices.{state_of_columns, bit_from_x, bit_from_y, word_before}
use Rattle.aes_block.specs.Slices.{place_before, exchanged}
use Rattle.aes_block.proofs.SliceBits.{octet_of_same, octet_at_from, bits_listed, octet_in_row}

-- every place
abbrev places : List ℕ
places = range_with_len 0 32

at_each_place : {X : Type 0} (f g : ℕ → X) → map f places ≡ map g places → (place : ℕ) → place < 32
    → f place ≡ g place
at_each_place {X} f g test place h =
    sym (get_or-map-range_with_len f 0 32 place place (f place) h (omega arith))
    ∙ ap (λ (t : List X). get_or t place (f place)) test
    ∙ get_or-map-range_with_len g 0 32 place place (f place) h (omega arith)

pub eight_equal : (a b c d e f g h p q r s t u v w : ℕ) → a ≡ p → b ≡ q → c ≡ r → d ≡ s → e ≡ t
    → f ≡ u → g ≡ v → h ≡ w
    → a ∷ b ∷ c ∷ d ∷ e ∷ f ∷ g ∷ h ∷ [] ≡ p ∷ q ∷ r ∷ s ∷ t ∷ u ∷ v ∷ w ∷ []
eight_equal a b c d e f g h p q r s t u v w ea eb ec ed ee ef eg eh =
    λ i. ea i ∷ eb i ∷ ec i ∷ ed i ∷ ee i ∷ ef i ∷ eg i ∷ eh i ∷ []

-- ---- each of the three exchanges, at all places

module _ (words : List ℕ) where
  abbrev first : ℕ → ℕ → ℕ → ℕ → ℕ → ℕ
  first low d i j place = bit_from_y (slice_index words i) (slice_index words j) low d place

  abbrev second : ℕ → ℕ → ℕ → ℕ → ℕ → ℕ
  second low d i j place = bit_from_x (slice_index words i) (slice_index words j) low d place

  abbrev ones : ℕ → List ℕ
  ones p =
      let low : ℕ = 0x55555555 in
      first low 1 0 1 p ∷ second low 1 0 1 p ∷ first low 1 2 3 p ∷ second low 1 2 3 p
      ∷ first low 1 4 5 p ∷ second low 1 4 5 p ∷ first low 1 6 7 p ∷ second low 1 6 7 p ∷ []

  abbrev twos : ℕ → List ℕ
  twos p =
      let low : ℕ = 0x33333333 in
      first low 2 0 2 p ∷ first low 2 1 3 p ∷ second low 2 0 2 p ∷ second low 2 1 3 p
      ∷ first low 2 4 6 p ∷ first low 2 5 7 p ∷ second low 2 4 6 p ∷ second low 2 5 7 p ∷ []

  abbrev fours : ℕ → List ℕ
  fours p =
      let low : ℕ = 0x0f0f0f0f in
      first low 4 0 4 p ∷ first low 4 1 5 p ∷ first low 4 2 6 p ∷ first low 4 3 7 p
      ∷ second low 4 0 4 p ∷ second low 4 1 5 p ∷ second low 4 2 6 p ∷ second low 4 3 7 p ∷ []

  ones_test : map ones places ≡ map (exchanged 1 words) places
  unfolding exchanged
  ones_test = refl

  twos_test : map twos places ≡ map (exchanged 2 words) places
  unfolding exchanged
  twos_test = refl

  fours_test : map fours places ≡ map (exchanged 4 words) places
  unfolding exchanged
  fours_test = refl

  pub ones_are : (place : ℕ) → place < 32 → ones place ≡ exchanged 1 words place
  ones_are place h = at_each_place ones (exchanged 1 words) ones_test place h

  pub twos_are : (place : ℕ) → place < 32 → twos place ≡ exchanged 2 words place
  twos_are place h = at_each_place twos (exchanged 2 words) twos_test place h

  pub fours_are : (place : ℕ) → place < 32 → fours place ≡ exchanged 4 words place
  fours_are place h = at_each_place fours (exchanged 4 words) fours_test place h

-- ---- one after another

abbrev AreExchanged : ℕ → List ℕ → List ℕ → Type 0
AreExchanged d words result =
    (place : ℕ) → place < 32 → at_place result place ≡ exchanged d words place

one_exchange : (d : ℕ) (words result : List ℕ) → AreExchanged d words result → (k place : ℕ) → k < 8
    → place < 32
    → bits_at result place k ≡ bits_at words (place_before d k place) (word_before d k place)
unfolding exchanged
one_exchange d words result e k place hk hp =
    bits_listed result place k ∙ ap (λ (t : List ℕ). slice_index t k) (e place hp)
    ∙ get_or-map-range_with_len
    (λ j. bits_at words (place_before d j place) (word_before d j place)) 0 8 k k 0 hk (omega arith)

abbrev word_two : ℕ → ℕ → ℕ
word_two k p = word_before 2 (word_before 4 k p) (place_before 4 k p)

abbrev place_two : ℕ → ℕ → ℕ
place_two k p = place_before 2 (word_before 4 k p) (place_before 4 k p)

abbrev inside : ℕ → ℕ → Bool
inside k p = ltb k 8 && ltb p 32

abbrev arrives : ℕ → ℕ → Bool
arrives k p =
    eqb (word_before 1 (word_two k p) (place_two k p)) (p % 8)
    && eqb (place_before 1 (word_two k p) (place_two k p)) (p - p % 8 + k)

abbrev holds : ℕ → ℕ → Bool
holds p k =
    inside (word_before 4 k p) (place_before 4 k
    p) && (inside (word_two k p) (place_two k p) && arrives k p)

path_test : map (λ p. map (holds p) (range_with_len 0 8)) places
    ≡ map (λ _. map (λ _. true) (range_with_len 0 8)) places
path_test = refl

path_at : (k p : ℕ) → k < 8 → p < 32 → holds p k ≡ true
path_at k p hk hp =
    let row : map (holds p) (range_with_len 0 8) ≡ map (λ _. true) (range_with_len 0 8) =
    at_each_place (λ q. map (holds q) (range_with_len 0 8))
    (λ _. map (λ _. true) (range_with_len 0 8)) path_test p hp in
    sym (get_or-map-range_with_len (holds p) 0 8 k k true hk (omega arith))
    ∙ ap (λ t. get_or t k true) row
    ∙ get_or-map-range_with_len (λ _. true) 0 8 k k true hk (omega arith)

module _ (words one two result : List ℕ) (e1 : AreExchanged 1 words one)
    (e2 : AreExchanged 2 one two) (e4 : AreExchanged 4 two result) where
  moved : (k p : ℕ) → k < 8 → p < 32 → bits_at result p k ≡ bits_at words (p - p % 8 + k) (p % 8)
  moved k p hk hp =
      let k4 : ℕ = word_before 4 k p in
      let p4 : ℕ = place_before 4 k p in
      let k2 : ℕ = word_two k p in
      let p2 : ℕ = place_two k p in
      let k1 : ℕ = word_before 1 k2 p2 in
      let p1 : ℕ = place_before 1 k2 p2 in
      let all = and_parts (inside k4 p4) (inside k2 p2 && arrives k p) (path_at k p hk hp) in
      let fours = and_parts (ltb k4 8) (ltb p4 32) all.0 in
      let rest = and_parts (inside k2 p2) (arrives k p) all.1 in
      let twos = and_parts (ltb k2 8) (ltb p2 32) rest.0 in
      let last = and_parts (eqb k1 (p % 8)) (eqb p1 (p - p % 8 + k)) rest.1 in
      one_exchange 4 two result e4 k p hk hp
      ∙ one_exchange 2 one two e2 k4 p4 (ltb-true k4 8 fours.0) (ltb-true p4 32 fours.1)
      ∙ one_exchange 1 words one e1 k2 p2 (ltb-true k2 8 twos.0) (ltb-true p2 32 twos.1)
      ∙ (λ i. bits_at words (eqb-true p1 (p - p % 8 + k) last.1 i) (eqb-true k1 (p % 8) last.0 i))

  transposed_bit : (row j k : ℕ) → row < 4 → j < 8 → k < 8
      → bits_at result (8 * row + j) k ≡ bits_at words (8 * row + k) j
  transposed_bit row j k hr hj hk =
      let place : 8 * row + j - (8 * row + j) % 8 + k ≡ 8 * row + k = omega arith in
      let word : (8 * row + j) % 8 ≡ j = omega arith in
      moved k (8 * row + j) hk (omega arith) ∙ (λ i. bits_at words (place i) (word i))

  pub loaded_are : (row j : ℕ) → row < 4 → j < 8
      → octet_at result (8 * row + j) ≡ octet_in (slice_index words j) row
  loaded_are row j hr hj =
      octet_at_from result (8 * row + j) (λ k. bit_at (slice_index words j) (8 * row + k))
      (λ k hk. transposed_bit row j k hr hj hk)
      ∙ octet_in_row (slice_index words j) row hr

  pub stored_are : (row j : ℕ) → row < 4 → j < 8 → octet_in (slice_index result j) row
      ≡ octet_at words (8 * row + j)
  stored_are row j hr hj =
      sym (octet_in_row (slice_index result j) row hr)
      ∙ octet_of_same (λ k. bit_at (slice_index result j) (8 * row + k))
      (bits_at words (8 * row + j)) (λ k hk. transposed_bit row k j hr hk hj)
      ∙ sym (octet_at_from words (8 * row + j) (bits_at words (8 * row + j)) (λ k h. refl))

-- ---- states

-- two states with the same octets in each of the four rows and columns
pub state_of_within : (f g : ℕ → ℕ → ℕ) → ((row column : ℕ) → row < 4 → column < 4
    → f row column ≡ g row column) → state_of f ≡ state_of g
state_of_within f g h =
    let at : (row column : ℕ) → row < 4 → column < 4 → f row column ≡ g row column = h in
    rw (
      at 0 0 (lit< tt) (lit< tt),
      at 1 0 (lit< tt) (lit< tt),
      at 2 0 (lit< tt) (lit< tt),
      at 3 0 (lit< tt) (lit< tt),
      at 0 1 (lit< tt) (lit< tt),
      at 1 1 (lit< tt) (lit< tt),
      at 2 1 (lit< tt) (lit< tt),
      at 3 1 (lit< tt) (lit< tt),
      at 0 2 (lit< tt) (lit< tt),
      at 1 2 (lit< tt) (lit< tt),
      at 2 2 (lit< tt) (lit< tt),
      at 3 2 (lit< tt) (lit< tt),
      at 0 3 (lit< tt) (lit< tt),
      at 1 3 (lit< tt) (lit< tt),
      at 2 3 (lit< tt) (lit< tt),
      at 3 3 (lit< tt) (lit< tt),
    )
    refl

-- the columns of two states in turn
abbrev pub in_turn : List ℕ → List ℕ → List ℕ
in_turn a b =
    slice_index a 0 ∷ slice_index b 0 ∷ slice_index a 1 ∷ slice_index b 1
    ∷ slice_index a 2 ∷ slice_index b 2 ∷ slice_index a 3 ∷ slice_index b 3 ∷ []

-- the states that were loaded
pub lane_loaded : (words result : List ℕ)
    → ((row j : ℕ) → row < 4 → j < 8
    → octet_at result (8 * row + j) ≡ octet_in (slice_index words j) row)
    → (lane : ℕ) → lane < 2 → state_in lane result
    ≡ state_of (λ row column. octet_in (slice_index words (2 * column + lane)) row)
unfolding state_in
lane_loaded words result loaded lane h =
    state_of_within (λ row column. octet_at result (8 * row + 2 * column + lane))
    (λ row column. octet_in (slice_index words (2 * column + lane)) row)
    (λ row column hr hc.
    let place : 8 * row + 2 * column + lane ≡ 8 * row + (2 * column + lane) = omega arith in
    ap (octet_at result) place ∙ loaded row (2 * column + lane) hr (omega arith))

-- the first state, to be stored
pub first_stored : (words result : List ℕ)
    → ((row j : ℕ) → row < 4 → j < 8 → octet_in (slice_index result j) row
    ≡ octet_at words (8 * row + j))
    → state_of_columns (slice_index result 0 ∷ slice_index result 2 ∷ slice_index result 4
    ∷ slice_index result 6 ∷ []) ≡ state_in 0 words
unfolding state_in
first_stored words result stored =
    state_of_within (λ row column. octet_in (slice_index result (2 * column)) row)
    (λ row column. octet_at words (8 * row + 2 * column + 0))
    (λ row column hr hc.
    let place : 8 * row + 2 * column ≡ 8 * row + 2 * column + 0 = omega arith in
    stored row (2 * column) hr (omega arith) ∙ ap (octet_at words) place)
