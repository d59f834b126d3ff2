-- The users with one more.
use Rattle.std.proofs.Common.{◌≡◌, List, [], ◌∷◌, ◌++◌, length, Bool, true, false, ◌&&◌, not}
use Rattle.std.proofs.Common.{nat_lt, Option, Some, None, is_some, refl, All}
use Rattle.std.proofs.lemmas.Bool.{cond_both, and_parts, not-true, ltb-true, lt-ltb}
use Rattle.std.proofs.lemmas.List.Elements.{All-push}
use Rattle.login_setup.specs.Users.{user_of, HasCapacity, max_users}
use Rattle.login_setup.specs.declared.users.User.{User}
use Rattle.text_tables.specs.Users.{with_user}

abbrev has_room : List User → User → Bool
has_room users user = nat_lt (length users) 16 && not (is_some (user_of users user.name user.kind))

-- a slot that is empty
pub empty : {A : Type 0} (slot : Option A) → is_some slot ≡ false → slot ≡ None
empty None e = refl
empty (Some a) e = absurd cc

room_there : (users : List User) (user : User) → has_room users user ≡ true
    → HasCapacity max_users users user
room_there users user e =
    let found = user_of users user.name user.kind in
    let parts = and_parts (nat_lt (length users) 16) (not (is_some found)) e in
    record {
      few = ltb-true (length users) 16 (parts.0);
      bounded = ltb-true (length users) 16 (parts.0);
      absent = empty found (not-true (is_some found) (parts.1));
    }

room_test : (users : List User) (user : User) → HasCapacity max_users users user
    → has_room users user ≡ true
room_test users user h =
    let few : nat_lt (length users) 16 ≡ true = lt-ltb (length users) 16 h.few in
    let absent : user_of users user.name user.kind ≡ None = h.absent in
    rw (few, absent) refl

-- what a call that adds a user leaves
pub with_user_is : (users now : List User) (user : User)
    → (HasCapacity max_users users user → now ≡ users ++ user ∷ [])
    → ((HasCapacity max_users users user → ⊥) → now ≡ users) → now ≡ with_user users user
unfolding with_user
with_user_is users now user added unchanged =
    cond_both (has_room users user) (users ++ user ∷ []) users (λ then. now ≡ then)
    (λ e. added (room_there users user e))
    (λ e. unchanged (λ h. let t : has_room users user ≡ true = room_test users user h in absurd cc))

-- what holds of the users holds with one more
pub with_user_satisfies : (P : List User → Type 0) (users : List User) (user : User) → P users
    → (HasCapacity max_users users user → P (users ++ user ∷ [])) → P (with_user users user)
unfolding with_user
with_user_satisfies P users user h more = cond_both (has_room users user) (users ++ user ∷ [])
    users P (λ e. more (room_there users user e)) (λ e. h)

-- and what holds of each
pub with_user_all : (P : User → Type 0) (users : List User) (user : User) → All P users → P user
    → All P (with_user users user)
with_user_all P users user h k =
    with_user_satisfies (All P) users user h (λ r. All-push P users user h k)
