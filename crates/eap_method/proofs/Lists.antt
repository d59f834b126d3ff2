-- Facts about lists of any elements.
use Rattle.std.proofs.Common.{◌≡◌, List, [], ◌∷◌, Bool, Option, Some, None, inl, inr, map, length}
use Rattle.std.proofs.Common.{arith, refl, sym, ap, ◌∙◌}
use Rattle.std.specs.Prelude.{find, option_map, is_some}
use Rattle.std.proofs.lemmas.Bool.{cases_Bool}

pub empty_of : {X : Type 0} (xs : List X) → length xs ≡ 0 → xs ≡ []
empty_of [] none = refl
empty_of (x ∷ xs) none = absurd (omega arith)

-- the first of a mapped list
pub find_mapped : {X Y : Type 0} (f : X → Y) (test : Y → Bool) (xs : List X)
    → find test (map f xs) ≡ option_map f (find (λ x. test (f x)) xs)
find_mapped f test [] = refl
find_mapped f test (x ∷ xs) =
    elim (cases_Bool (test (f x))) [ inl is ↦ rw is refl | inr is ↦ rw is (find_mapped f test xs) ]

map_twice : {X Y Z : Type 0} (f : Y → Z) (g : X → Y) (o : Option X)
    → option_map (λ x. f (g x)) o ≡ option_map f (option_map g o)
map_twice f g None = refl
map_twice f g (Some x) = refl

-- so of what is found behind references
pub found_shown : {R X Y : Type 0} (behind : R → X) (f : X → Y) (test : Y → Bool) (xs : List X)
    (found : Option R)
    → option_map behind found ≡ find (λ x. test (f x)) xs → option_map (λ r. f (behind r)) found
    ≡ find test (map f xs)
found_shown behind f test xs found is =
    map_twice f behind found ∙ (ap (option_map f) is ∙ sym (find_mapped f test xs))

pub found_some : {X Y : Type 0} (f : X → Y) (o : Option X) (found : Option Y)
    → option_map f o ≡ found → is_some o ≡ is_some found
found_some f None found is = ap is_some is
found_some f (Some x) found is = ap is_some is
