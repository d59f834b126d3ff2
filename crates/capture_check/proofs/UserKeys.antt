-- What holds of each user that is known holds of one that is found.
use Rattle.std.proofs.Common.{◌≡◌, List, [], ◌∷◌, All, Bool, true, false, Option, Some, cond, refl}
use Rattle.std.proofs.Common.{subst, inl, inr}
use Rattle.std.specs.Prelude.{◌⊎◌}
use Rattle.std.specs.List.{find}
use Rattle.std.proofs.lemmas.List.Elements.{All-head, All-tail}
use Rattle.std.proofs.lemmas.Option.{same_Some}

-- what is found stands here, or behind
found_here : {X : Type 0} (test : Bool) (y x : X) (rest : Option X)
    → cond test (Some y) rest ≡ Some x → ((test ≡ true) × (y ≡ x)) ⊎ (rest ≡ Some x)
found_here true y x rest e = inl (refl, same_Some y x e)
found_here false y x rest e = inr e

-- what holds of each element holds of the one found, and so does the test
pub found_satisfies : {X : Type 0} (p : X → Bool) (P : X → Type 0) (xs : List X) (x : X) → All P xs
    → find p xs ≡ Some x → P x × (p x ≡ true)
found_satisfies p P [] x all e = absurd cc
found_satisfies p P (y ∷ ys) x all e =
    elim (found_here (p y) y x (find p ys) e) [
      | inl h ↦ (subst P h.1 (All-head P y ys all), subst (λ z. p z ≡ true) h.1 h.0)
      | inr h ↦ found_satisfies p P ys x (All-tail P y ys all) h
    ]
