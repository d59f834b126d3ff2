-- Numbers that stand among others, and outcomes that are chosen by one test.
use Rattle.std.proofs.Common.{◌≡◌, ℕ, List, [], ◌∷◌, Bool, true, false, ◌&&◌, ◌||◌, refl, ap, sym}
use Rattle.std.proofs.Common.{◌∙◌}
use Rattle.std.specs.Prelude.{◌==◌, if◌then◌else◌}
use Rattle.std.specs.List.{list_all}
use Rattle.std.proofs.lemmas.Bool.{eqb-true}
use Rattle.octet_lists.specs.Among.{is_among}

either : (p : ℕ → Bool) (number other : ℕ) (is_it in_rest holds rest : Bool)
    → (is_it ≡ true → other ≡ number) → (rest ≡ true → in_rest ≡ true → p number ≡ true)
    → p other ≡ holds → (holds && rest) ≡ true → (is_it || in_rest) ≡ true → p number ≡ true
either p number other true in_rest true rest same later here all is_there =
    ap p (sym (same refl)) ∙ here
either p number other false in_rest true rest same later here all is_there = later all is_there
either p number other is_it in_rest false rest same later here all is_there = cc

-- what holds of each one holds of one that stands among them
pub each_one : (p : ℕ → Bool) (numbers : List ℕ) (number : ℕ) → list_all p numbers ≡ true
    → is_among numbers number ≡ true → p number ≡ true
each_one p [] number all is_there = cc
each_one p (other ∷ rest) number all is_there =
    either p number other (other == number) (is_among rest number) (p other) (list_all p rest)
    (eqb-true other number) (each_one p rest number) refl all is_there

-- two choices by one test are equal if they are where it holds
pub same_if : {A : Type 0} (test : Bool) (x y z : A) → (test ≡ true → x ≡ y)
    → (if test then x else z) ≡ (if test then y else z)
same_if true x y z same = same refl
same_if false x y z same = refl
