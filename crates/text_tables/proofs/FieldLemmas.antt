-- What one more digit, or one more pair of hex digits, adds.
use Rattle.std.proofs.Common.{◌≡◌, ℕ, ◌+◌, ◌-◌, ◌*◌, ◌<◌, List, [], ◌∷◌, ◌++◌, ◌/◌, length, get_or}
use Rattle.std.proofs.Common.{take, drop, refl, ap, ◌∙◌, arith, length-drop}
use Rattle.std.proofs.lemmas.List.{take_more, drop_more}
use Rattle.text_tables.specs.Fields.{number_after, octets_of, hex_value}

-- a digit at the end
pub number_after_push : (n : ℕ) (ds : List ℕ) (d : ℕ)
    → number_after n (ds ++ d ∷ []) ≡ 10 * number_after n ds + (d - 48)
number_after_push n [] d = refl
number_after_push n (e ∷ ds) d = number_after_push (10 * n + (e - 48)) ds d

-- the digit at a place
pub number_after_more : (n : ℕ) (ds : List ℕ) (i : ℕ) → i < length ds
    → number_after n (take (i + 1) ds) ≡ 10 * number_after n (take i ds) + (get_or ds i 0 - 48)
number_after_more n ds i h =
    ap (number_after n) (take_more ds i 0 h) ∙ number_after_push n (take i ds) (get_or ds i 0)

-- the pair of hex digits at a place
pub octets_of_more : (ds : List ℕ) (i j : ℕ) → i + 1 < length ds → j ≡ i + 2 → octets_of (drop i ds)
    ≡ (16 * hex_value (get_or ds i 0) + hex_value (get_or ds (i + 1) 0)) ∷ octets_of (drop j ds)
octets_of_more ds i j h e =
    let one : drop i ds ≡ get_or ds i 0 ∷ drop (i + 1) ds = drop_more ds i 0 (omega arith) in
    let two : drop (i + 1) ds ≡ get_or ds (i + 1) 0 ∷ drop (i + 1 + 1) ds =
    drop_more ds (i + 1) 0 h in
    let same : i + 1 + 1 ≡ j = omega arith in
    rw (one, two, same) refl

-- less than a pair
pub octets_of_short : (ds : List ℕ) → length ds < 2 → octets_of ds ≡ []
octets_of_short [] h = refl
octets_of_short (d ∷ []) h = refl
octets_of_short (d ∷ e ∷ ds) h = absurd (omega arith)

-- less than a pair is left
pub octets_of_all : (ds : List ℕ) (i : ℕ) → length ds < i + 2 → octets_of (drop i ds) ≡ []
octets_of_all ds i h = octets_of_short (drop i ds) (omega (arith, length-drop i ds))

-- how many octets digits spell
pub octets_of_count : (ds : List ℕ) → length ds / 2 ≡ length (octets_of ds)
octets_of_count [] = refl
octets_of_count (d ∷ []) = refl
octets_of_count (d ∷ e ∷ ds) = omega (arith, octets_of_count ds)
