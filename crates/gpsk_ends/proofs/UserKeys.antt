-- The keys of the users that a server knows.
use Rattle.std.proofs.Common.{◌≡◌, ℕ, ◌≤◌, List, [], ◌∷◌, length, All, IsTrue, Bool, true, false}
use Rattle.std.proofs.Common.{Option, Some, cond, refl, subst, inl, inr}
use Rattle.std.specs.Prelude.{◌⊎◌}
use Rattle.std.specs.List.{find}
use Rattle.std.proofs.lemmas.Bool.{and_parts, eqb-true, leb-true}
use Rattle.std.proofs.lemmas.List.Elements.{All-head, All-tail}
use Rattle.std.proofs.lemmas.Option.{same_Some}
use Rattle.login_setup.specs.declared.users.User.{User}
use Rattle.octet_lists.specs.Among.{gpsk_kind}
use Rattle.login_setup.specs.Setup.{has_valid_key, is_valid_for}
use Rattle.login_setup.specs.Users.{user_of, is_named}

-- what is found stands here, or behind
found_here : {X : Type 0} (test : Bool) (y x : X) (rest : Option X)
    → cond test (Some y) rest ≡ Some x → ((test ≡ true) × (y ≡ x)) ⊎ (rest ≡ Some x)
found_here true y x rest e = inl (refl, same_Some y x e)
found_here false y x rest e = inr e

-- what holds of each element holds of the one found, and so does the test
found_satisfies : {X : Type 0} (p : X → Bool) (P : X → Type 0) (xs : List X) (x : X) → All P xs
    → find p xs ≡ Some x → P x × (p x ≡ true)
found_satisfies p P [] x all e = absurd cc
found_satisfies p P (y ∷ ys) x all e =
    elim (found_here (p y) y x (find p ys) e) [
      | inl h ↦ (subst P h.1 (All-head P y ys all), subst (λ z. p z ≡ true) h.1 h.0)
      | inr h ↦ found_satisfies p P ys x (All-tail P y ys all) h
    ]

-- a key for EAP-GPSK has 32 octets or more
long_key : (kind : ℕ) (key : List ℕ) → kind ≡ 51 → IsTrue (is_valid_for kind key) → 32 ≤ length key
long_key kind key e fits =
    let at : IsTrue (is_valid_for 51 key) = subst (λ k. IsTrue (is_valid_for k key)) e fits in
    leb-true 32 (length key) (and_parts _ _ at).0

-- a user of EAP-GPSK has a key of 32 octets or more
pub key_is_long : (users : List User) (name : List ℕ) (user : User)
    → All (λ user. IsTrue (has_valid_key user)) users →
    user_of users name gpsk_kind ≡ Some user → 32 ≤ length user.psk
key_is_long users name user keys e =
    let h = found_satisfies (is_named name gpsk_kind)
    (λ (u : User). IsTrue (has_valid_key u)) users user keys e in
    long_key user.kind user.psk (eqb-true user.kind 51 (and_parts _ _ h.1).0) h.0
