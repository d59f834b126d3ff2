-- The steps of an inversion by halves, over all lanes.
use Rattle.std.proofs.Common.{◌≡◌, ℕ, List, refl, ap, ◌∙◌, bit_xor}
use lib.Lanes.{zip2}
use Rattle.aes_block.specs.Turned.{all, lower, upper, look, first_sum, second_sum, first_place}
use Rattle.aes_block.specs.Turned.{second_place}
use Rattle.aes_block.specs.declared.lanes.TheConstants.{INVERSES, QUOTIENTS}

-- a sum of two vectors, each computed lane by lane
pub xor_of : (f g : ℕ → ℕ) (o : List ℕ) {xs ys : List ℕ} → xs ≡ all f o → ys ≡ all g o
    → zip2 bit_xor xs ys ≡ all (λ b. bit_xor (f b) (g b)) o
xor_of f g o e h = rw (e, h) refl

-- a look-up at places computed lane by lane
pub look_of : (table : List ℕ) (f : ℕ → ℕ) (o : List ℕ) {places r : List ℕ}
    → r ≡ all (look table) places → places ≡ all f o
    → r ≡ all (λ b. look table (f b)) o
look_of table f o e h = e ∙ ap (all (look table)) h

module _ (o : List ℕ) where
  pub sums_are : {low up : List ℕ} → low ≡ all lower o → up ≡ all upper o
      → zip2 bit_xor low up ≡ all (λ b. bit_xor (lower b) (upper b)) o
  sums_are = xor_of lower upper o

  pub first_sums_are : {low up q i : List ℕ} → low ≡ all lower o → up ≡ all upper o
      → q ≡ all (look QUOTIENTS) low → i ≡ all (look INVERSES) up
      → zip2 bit_xor i q ≡ all first_sum o
  unfolding first_sum
  first_sums_are hl hu hq hi =
      xor_of (λ b. look INVERSES (upper b)) (λ b. look QUOTIENTS (lower b)) o
      (look_of INVERSES upper o hi hu) (look_of QUOTIENTS lower o hq hl)

  pub second_sums_are : {low up q i : List ℕ} → low ≡ all lower o → up ≡ all upper o
      → q ≡ all (look QUOTIENTS) low
      → i ≡ all (look INVERSES) (zip2 bit_xor low up) → zip2 bit_xor i q ≡ all second_sum o
  unfolding second_sum
  second_sums_are hl hu hq hi =
      xor_of (λ b. look INVERSES (bit_xor (lower b) (upper b))) (λ b. look QUOTIENTS (lower b)) o
      (look_of INVERSES (λ b. bit_xor (lower b) (upper b)) o hi (sums_are hl hu))
      (look_of QUOTIENTS lower o hq hl)

  pub first_places_are : {low up q i j : List ℕ} → low ≡ all lower o → up ≡ all upper o
      → q ≡ all (look QUOTIENTS) low
      → i ≡ all (look INVERSES) up → j ≡ all (look INVERSES) (zip2 bit_xor i q)
      → zip2 bit_xor j (zip2 bit_xor low up) ≡ all first_place o
  unfolding first_place
  first_places_are hl hu hq hi hj =
      xor_of (λ b. look INVERSES (first_sum b)) (λ b. bit_xor (lower b) (upper b)) o
      (look_of INVERSES first_sum o hj (first_sums_are hl hu hq hi)) (sums_are hl hu)

  pub second_places_are : {low up q i j : List ℕ} → low ≡ all lower o → up ≡ all upper o
      → q ≡ all (look QUOTIENTS) low
      → i ≡ all (look INVERSES) (zip2 bit_xor low up) → j ≡ all (look INVERSES) (zip2 bit_xor i q)
      → zip2 bit_xor j up ≡ all second_place o
  unfolding second_place
  second_places_are hl hu hq hi hj =
      xor_of (λ b. look INVERSES (second_sum b)) upper o
      (look_of INVERSES second_sum o hj (second_sums_are hl hu hq hi)) hu
