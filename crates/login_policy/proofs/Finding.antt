-- The first number of a list that passes a test.
use Rattle.std.proofs.Common.{◌≡◌, ℕ, Bool, true, false, List, [], ◌∷◌, ◌++◌, None, Some, refl, ap}
use Rattle.std.proofs.Common.{sym, ◌∙◌, ◌==◌, inl, inr}
use Rattle.std.specs.List.{find, list_any, All}
use Rattle.std.proofs.lemmas.Bool.{cases_Bool, cond-true, cond-false, or_left, or_right, eq-eqb}
use Rattle.std.proofs.lemmas.List.Elements.{All-nil, All-cons, All-head, All-tail}

-- it passes, stands in the list, and none before it passes
pub record IsFirst (p : ℕ → Bool) (xs : List ℕ) (x : ℕ) : Type 0 where
  pub before : List ℕ
  pub after : List ℕ
  pub stands : xs ≡ before ++ x ∷ after
  pub passes : p x ≡ true
  pub first : All (λ y. p y ≡ false) before

first_here : (p : ℕ → Bool) (y x : ℕ) (xs : List ℕ) → p y ≡ true → y ≡ x → IsFirst p (y ∷ xs) x
first_here p y x xs passes is =
    record {
      before = [];
      after = xs;
      stands = ap (λ z. z ∷ xs) is;
      passes = cc;
      first = All-nil (λ z. p z ≡ false);
    }

first_after : (p : ℕ → Bool) (y x : ℕ) (xs : List ℕ) → p y ≡ false → IsFirst p xs x
    → IsFirst p (y ∷ xs) x
first_after p y x xs fails found =
    record {
      before = y ∷ found.before;
      after = found.after;
      stands = ap (λ z. y ∷ z) found.stands;
      passes = found.passes;
      first = All-cons (λ z. p z ≡ false) y found.before fails found.first;
    }

some_same : (x y : ℕ) → Some x ≡ Some y → x ≡ y
some_same x y is = cc

-- what is found is the first that passes
pub finds_first : (p : ℕ → Bool) (xs : List ℕ) (x : ℕ) → find p xs ≡ Some x → IsFirst p xs x
finds_first p [] x is = absurd (cc)
finds_first p (y ∷ xs) x is =
    elim (cases_Bool (p y)) [
      | inl passes ↦ first_here p y x xs passes
          (some_same y x (sym (cond-true (p y) (Some y) (find p xs) passes) ∙ is))
      | inr fails ↦ first_after p y x xs fails
          (finds_first p xs x (sym (cond-false (p y) (Some y) (find p xs) fails) ∙ is))
    ]

-- the first that passes is found
pub first_is_found : (p : ℕ → Bool) (before after : List ℕ) (x : ℕ) → p x ≡ true
    → All (λ y. p y ≡ false) before →
    find p (before ++ x ∷ after) ≡ Some x
first_is_found p [] after x passes first = cond-true (p x) (Some x) (find p after) passes
first_is_found p (y ∷ before) after x passes first =
    cond-false (p y) (Some y) (find p (before ++ x ∷ after))
    (All-head (λ z. p z ≡ false) y before first)
    ∙ first_is_found p before after x passes (All-tail (λ z. p z ≡ false) y before first)

some_none : (x : ℕ) → Some x ≡ None → ⊥
some_none x is = cc

-- where none is found, none passes
pub none_passes : (p : ℕ → Bool) (xs : List ℕ) → find p xs ≡ None → All (λ y. p y ≡ false) xs
none_passes p [] is = All-nil (λ z. p z ≡ false)
none_passes p (y ∷ xs) is =
    elim (cases_Bool (p y)) [
      | inl passes ↦ absurd (some_none y (sym (cond-true (p y) (Some y) (find p xs) passes) ∙ is))
      | inr fails ↦ All-cons (λ z. p z ≡ false) y xs fails
          (none_passes p xs (sym (cond-false (p y) (Some y) (find p xs) fails) ∙ is))
    ]

-- where none passes, none is found
pub none_is_found : (p : ℕ → Bool) (xs : List ℕ) → All (λ y. p y ≡ false) xs → find p xs ≡ None
none_is_found p [] fail = refl
none_is_found p (y ∷ xs) fail =
    cond-false (p y) (Some y) (find p xs) (All-head (λ z. p z ≡ false) y xs fail)
    ∙ none_is_found p xs (All-tail (λ z. p z ≡ false) y xs fail)

-- a number that stands in a list is among its numbers
pub among_there : (before after : List ℕ) (x : ℕ)
    → list_any (λ y. y == x) (before ++ x ∷ after) ≡ true
among_there [] after x = or_left (x == x) (list_any (λ y. y == x) after) (eq-eqb x x refl)
among_there (y ∷ before) after x =
    or_right (y == x) (list_any (λ z. z == x) (before ++ x ∷ after)) (among_there before after x)
