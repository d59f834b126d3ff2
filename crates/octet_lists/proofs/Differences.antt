-- The octets in which two lists differ, gathered in one octet.
use Rattle.std.proofs.Common.{◌≡◌, ◌≢◌, ℕ, ◌+◌, ◌<◌, ◌≤◌, false, eqb, List, ◌∷◌, [], ◌++◌, length}
use Rattle.std.proofs.Common.{get_or, take, sym, ap, ◌∙◌, arith}
use Rattle.std.specs.Prelude.{bit_or, bit_xor}
use Rattle.std.specs.Str.{bytes_eq}
use Rattle.std.specs.Int.Bits.{or_zero_l, xor_self, xor_zero_l, xor_assoc, xor_zero_r}
use Rattle.std.proofs.lemmas.Nat.{and_le_l, and_le_r}
use Rattle.std.proofs.lemmas.List.{same_from_push, take_all, take_more}
use Rattle.std.proofs.lemmas.Bool.Decides.{Decides-eqb, same_from_decides}
use Rattle.std.proofs.lemmas.Slice.Eq.{bytes_eq-Decides}
use lib.Bits.{bit_and, or_add_and}

or_none : (a b : ℕ) → bit_or a b ≡ 0 → (a ≡ 0) × (b ≡ 0)
or_none a b e =
    let sum : bit_or a b + bit_and a b ≡ a + b = or_add_and a b in
    let left : bit_and a b ≤ a = and_le_l a b in
    let right : bit_and a b ≤ b = and_le_r a b in
    (omega arith, omega arith)

-- an octet combined twice with the same one
xor_twice : (x y : ℕ) → bit_xor (bit_xor x y) y ≡ x
xor_twice x y = xor_assoc x y y ∙ ap (λ n. bit_xor x n) (xor_self y) ∙ xor_zero_r x

xor_none : (x y : ℕ) → bit_xor x y ≡ 0 → x ≡ y
xor_none x y e = sym (xor_twice x y) ∙ ap (λ n. bit_xor n y) e ∙ xor_zero_l y

-- the octet is 0 exactly where the lists agree in their first octets
pub record IsDifference (octet i : ℕ) (xs ys : List ℕ) : Type 0 where
  pub same : octet ≡ 0 → take i xs ≡ take i ys
  pub none : take i xs ≡ take i ys → octet ≡ 0

-- one octet more
pub difference_more : (octet i : ℕ) (xs ys : List ℕ) → i < length xs → i < length ys
    → IsDifference octet i xs ys
    → IsDifference (bit_or octet (bit_xor (get_or xs i 0) (get_or ys i 0))) (i + 1) xs ys
difference_more octet i xs ys in_xs in_ys so_far =
    let x : ℕ = get_or xs i 0 in
    let y : ℕ = get_or ys i 0 in
    let xs_more : take (i + 1) xs ≡ take i xs ++ x ∷ [] = take_more xs i 0 in_xs in
    let ys_more : take (i + 1) ys ≡ take i ys ++ y ∷ [] = take_more ys i 0 in_ys in
    record {
      same = λ e.
          let both : (octet ≡ 0) × (bit_xor x y ≡ 0) = or_none octet (bit_xor x y) e in
          xs_more
          ∙ ap (λ l. l ++ x ∷ []) (so_far.same both.0)
          ∙ ap (λ n. take i ys ++ n ∷ []) (xor_none x y both.1)
          ∙ sym ys_more;
      none = λ e.
          let ends : (take i xs ≡ take i ys) × (x ≡ y) =
          same_from_push (take i xs) (take i ys) x y (sym xs_more ∙ e ∙ ys_more) in
          ap (λ n. bit_or n (bit_xor x y)) (so_far.none ends.0)
          ∙ or_zero_l (bit_xor x y)
          ∙ ap (λ n. bit_xor n y) ends.1
          ∙ xor_self y;
    }

-- all octets
pub differences_of_all : (octet i : ℕ) (xs ys : List ℕ) → IsDifference octet i xs ys → length xs ≤ i
    → length ys ≤ i
    → eqb octet 0 ≡ bytes_eq xs ys
differences_of_all octet i xs ys so_far all_xs all_ys =
    let whole_xs : take i xs ≡ xs = take_all i xs all_xs in
    let whole_ys : take i ys ≡ ys = take_all i ys all_ys in
    let zero_is_same : (octet ≡ 0 → xs ≡ ys) × (xs ≡ ys → octet ≡ 0) = (
      λ e. sym whole_xs ∙ so_far.same e ∙ whole_ys,
      λ e. so_far.none (whole_xs ∙ e ∙ sym whole_ys),
    ) in
    let tested = Decides-eqb octet 0 in
    same_from_decides (eqb octet 0) (bytes_eq xs ys)
    (λ t. zero_is_same.0 (tested.0 t), λ e. tested.1 (zero_is_same.1 e))
    (bytes_eq-Decides xs ys)

-- lists of different lengths
pub differs_by_length : (xs ys : List ℕ) → length xs ≢ length ys → false ≡ bytes_eq xs ys
differs_by_length xs ys other =
    same_from_decides false (bytes_eq xs ys) (λ t. absurd (cc), λ e. absurd (other (ap length e)))
    (bytes_eq-Decides xs ys)
