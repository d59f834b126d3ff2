-- What it does to combine octets with the ones at their places in a second list.
use Rattle.std.proofs.Common.{◌≡◌, ℕ, zero, suc, ◌+◌, ◌<◌, ◌≤◌, List, [], ◌∷◌, ◌++◌, length, get_or}
use Rattle.std.proofs.Common.{set, take, drop, min, refl, sym, ap, ◌∙◌, arith, add-one}
use Rattle.std.specs.Prelude.{bit_xor}
use Rattle.std.specs.Int.Bits.{xor_self, xor_assoc, xor_zero_r}
use Rattle.std.proofs.lemmas.List.{take-append-drop}
use Rattle.eax_mode.specs.Eax.{combined}

-- nothing to combine with
pub combined_nil : (xs : List ℕ) → combined xs [] ≡ xs
unfolding combined
combined_nil [] = refl
combined_nil (x ∷ xs) = refl

pub length_combined : (xs ys : List ℕ) → length (combined xs ys) ≡ length xs
unfolding combined
length_combined [] ys = refl
length_combined (x ∷ xs) [] = refl
length_combined (x ∷ xs) (y ∷ ys) = ap suc (length_combined xs ys)

-- an octet combined twice with the same one
pub xor_twice : (x y : ℕ) → bit_xor (bit_xor x y) y ≡ x
xor_twice x y = xor_assoc x y y ∙ ap (λ n. bit_xor x n) (xor_self y) ∙ xor_zero_r x

-- to combine twice with the same list changes nothing
pub combined_twice : (xs ys : List ℕ) → combined (combined xs ys) ys ≡ xs
unfolding combined
combined_twice [] ys = refl
combined_twice (x ∷ xs) [] = refl
combined_twice (x ∷ xs) (y ∷ ys) = ap (λ n. n ∷ combined (combined xs ys) ys) (xor_twice x y)
    ∙ ap (λ l. x ∷ l) (combined_twice xs ys)

combined_suc : (xs ys : List ℕ) (i : ℕ) → i < length xs → i < length ys
    → set (combined xs (take i ys)) i (bit_xor (get_or (combined xs (take i ys)) i 0)
    (get_or ys i 0)) ≡ combined xs (take (suc i) ys)
unfolding combined
combined_suc [] ys i h k = absurd (omega arith)
combined_suc (x ∷ xs) [] i h k = absurd (omega arith)
combined_suc (x ∷ xs) (y ∷ ys) zero h k = ap (λ l. bit_xor x y ∷ l) (sym (combined_nil xs))
combined_suc (x ∷ xs) (y ∷ ys) (suc i) h k =
    ap (λ l. bit_xor x y ∷ l) (combined_suc xs ys i (omega arith) (omega arith))

-- one octet more
pub combined_more : (xs ys now : List ℕ) (i : ℕ) → i < length xs → i < length ys
    → now ≡ combined xs (take i ys)
    → set now i (bit_xor (get_or now i 0) (get_or ys i 0)) ≡ combined xs (take (i + 1) ys)
combined_more xs ys now i h k e =
    ap (λ l. set l i (bit_xor (get_or l i 0) (get_or ys i 0))) e
    ∙ combined_suc xs ys i h k
    ∙ ap (λ n. combined xs (take n ys)) (sym (add-one i))

-- all octets
pub combined_all : (xs ys : List ℕ) (i : ℕ) → length xs ≤ i
    → combined xs (take i ys) ≡ combined xs ys
unfolding combined
combined_all [] ys i h = refl
combined_all (x ∷ xs) ys zero h = absurd (omega arith)
combined_all (x ∷ xs) [] (suc i) h = refl
combined_all (x ∷ xs) (y ∷ ys) (suc i) h =
    ap (λ l. bit_xor x y ∷ l) (combined_all xs ys i (omega arith))

-- a part that reaches as far as the second list or to the end
pub combined_take : (xs ys : List ℕ) (n : ℕ) → min (length ys) (length xs) ≤ n
    → combined (take n xs) ys ++ drop n xs ≡ combined xs ys
unfolding combined
combined_take xs [] n h =
    ap (λ l. l ++ drop n xs) (combined_nil (take n xs)) ∙ take-append-drop n xs
    ∙ sym (combined_nil xs)
combined_take [] (y ∷ ys) zero h = refl
combined_take [] (y ∷ ys) (suc n) h = refl
combined_take (x ∷ xs) (y ∷ ys) zero h = absurd (omega arith)
combined_take (x ∷ xs) (y ∷ ys) (suc n) h =
    ap (λ l. bit_xor x y ∷ l) (combined_take xs ys n (omega arith))

-- to combine with joined lists: what the first reaches, and the rest with the second
pub combined_append : (xs ys zs : List ℕ)
    → take (length ys) (combined xs ys) ++ combined (drop (length ys) (combined xs ys)) zs
    ≡ combined xs (ys ++ zs)
unfolding combined
combined_append xs [] zs = ap (λ l. combined l zs) (combined_nil xs)
combined_append [] (y ∷ ys) zs = refl
combined_append (x ∷ xs) (y ∷ ys) zs = ap (λ l. bit_xor x y ∷ l) (combined_append xs ys zs)
