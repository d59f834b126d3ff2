-- Sixteen lanes, one by one.
use Rattle.std.proofs.Common.{◌≡◌, ℕ, zero, suc, ◌+◌, ◌*◌, ◌/◌, ◌≤◌, ◌<◌, leb, ltb, ◌||◌, T, List}
use Rattle.std.proofs.Common.{[], ◌∷◌, map, length, get_or, refl, sym, ap, subst, ◌∙◌, arith, w8}
use Rattle.std.proofs.Common.{Fits}
use Rattle.std.proofs.lemmas.List.FromFn.{fill_by_all}
use Rattle.std.proofs.lemmas.Simd.{swz_l, SwzOk, SwzOk-from_Each1, Each1-from_get_or}
use lib.Lanes.{Each1}
use Rattle.aes_block.specs.Turned.{all, IsPlace, ArePlaces, look}

-- sixteen lanes, written out
pub spread : (xs : List ℕ) → length xs ≡ 16 → xs ≡ all (λ b. b) xs
spread xs long = fill_by_all (λ i. get_or xs i 0) xs 16 0 long (λ _ _. refl)

-- a lane is an octet
pub lane_bounded : (xs : List ℕ) (i : ℕ) → Each1 (Fits w8) xs → get_or xs i 0 < 256
lane_bounded [] i h = omega arith
lane_bounded (x ∷ xs) zero h = h.0.fits
lane_bounded (x ∷ xs) (suc i) h = lane_bounded xs i h.1

-- a look-up at each place
swz_look : (table js : List ℕ) (i : ℕ) → i + length js ≤ 16
    → swz_l w8 16 table i js ≡ map (look table) js
unfolding look
swz_look table [] i h = refl
swz_look table (j ∷ js) i h =
    let place : 16 * (i / 16) + j ≡ j = omega arith in
    rw (place, swz_look table js (suc i) (omega arith)) refl

pub look_all : (table places : List ℕ) → length places ≡ 16
    → swz_l w8 16 table 0 places ≡ all (look table) places
look_all table places long =
    swz_look table places 0 (omega (arith, long)) ∙ ap (map (look table)) (spread places long)

place_ok : (p : ℕ) → IsPlace p → T (leb 128 p || ltb p 16)
place_ok p h = subst T (sym h) tt

pub look_ok : (places : List ℕ) → length places ≡ 16 → ArePlaces places → SwzOk w8 16 16 0 places
look_ok places long h =
    SwzOk-from_Each1 w8 16 1 16 0 places refl (omega (arith, long))
    (Each1-from_get_or (λ p. T (leb 128 p || ltb p 16)) places 0
    (λ i _. place_ok (get_or places i 0) (h i)))

-- where f gives places for all octets, it gives them in each lane
map_places : (f : ℕ → ℕ) (xs : List ℕ) → Each1 (Fits w8) xs → ((b : ℕ) → b < 256 → IsPlace (f b))
    → ArePlaces (map f xs)
map_places f [] h each i = refl
map_places f (x ∷ xs) h each zero = each x h.0.fits
map_places f (x ∷ xs) h each (suc i) = map_places f xs h.1 each i

pub places_from : (f : ℕ → ℕ) (xs places : List ℕ) → length xs ≡ 16 → Each1 (Fits w8) xs
    → ((b : ℕ) → b < 256 → IsPlace (f b))
    → places ≡ all f xs → ArePlaces places
places_from f xs places long fits h e =
    let same : map f xs ≡ places = ap (map f) (spread xs long) ∙ sym e in
    subst ArePlaces same (map_places f xs fits h)
