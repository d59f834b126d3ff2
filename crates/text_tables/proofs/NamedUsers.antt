-- The users that words name have visible names, and keys of their methods' sizes.
use Rattle.std.proofs.Common.{◌≡◌, List, [], ◌∷◌, ◌++◌, length, cond, ◌&&◌, not, nat_lt, Bool, true}
use Rattle.std.proofs.Common.{false, Option, Some, None, is_some, All, IsTrue, refl, ap, ◌∙◌, subst}
use Rattle.std.proofs.Common.{ℕ}
use Rattle.std.proofs.lemmas.Bool.{and_parts}
use Rattle.std.proofs.lemmas.List.Elements.{All-nil, All-push}
use Rattle.std.proofs.lemmas.Option.{same_Some}
use Rattle.login_setup.specs.Setup.{has_valid_key, is_valid_for}
use Rattle.login_setup.specs.Users.{user_of}
use Rattle.login_setup.specs.declared.users.User.{User}
use Rattle.text_tables.specs.Fields.{octets_of, spells_kind, spells_octets, kind_of}
use Rattle.text_tables.specs.Rows.{is_within}
use Rattle.text_tables.specs.UserWords.{is_visible, is_name, is_key, user_named, with_named}
use Rattle.text_tables.specs.UserWords.{users_named, users_until, read_as}

-- what holds of a user that words name
pub record IsNamed (user : User) : Type 0 where
  pub visible : is_visible user.name ≡ true
  pub key : IsTrue (has_valid_key user)

-- an option's value, if there is one, holds
record Holds {A : Type 0} (P : A → Type 0) (o : Option A) : Type 0 where
  pub each : (x : A) → o ≡ Some x → P x

some_holds : {A : Type 0} (P : A → Type 0) (x : A) → P x → Holds P (Some x)
some_holds P x h = record { each = λ y e. subst P (same_Some x y e) h }

none_holds : {A : Type 0} (P : A → Type 0) → Holds P None
none_holds P = record { each = λ y e. absurd cc }

satisfies_if : {A : Type 0} (P : A → Type 0) (b : Bool) (x : A) → (b ≡ true → P x)
    → Holds P (cond b (Some x) None)
satisfies_if P true x h = some_holds P x (h refl)
satisfies_if P false x h = none_holds P

is_named : (name kind key : List ℕ)
    → (is_name name && (spells_kind kind && is_key (kind_of kind) key)) ≡ true
    → IsNamed (record { name = name; kind = kind_of kind; psk = octets_of key; barred = false })
unfolding is_name is_key
is_named name kind key h =
    let both = and_parts (is_name name) (spells_kind kind && is_key (kind_of kind) key) h in
    let keyed = and_parts (spells_kind kind) (is_key (kind_of kind) key) both.1 in
    record {
      visible = (and_parts (is_visible name) (is_within (length name) 1 253) both.0).0;
      key = (and_parts (spells_octets key) (is_valid_for (kind_of kind) (octets_of key)) keyed.1).1;
    }

one_named : (name kind key : List ℕ) → Holds IsNamed (user_named name kind key)
unfolding user_named
one_named name kind key = satisfies_if IsNamed
    (is_name name && (spells_kind kind && is_key (kind_of kind) key)) _ (is_named name kind key)

one_more : (users : List User) (named : Option User) → All IsNamed users → Holds IsNamed named
    → Holds (All IsNamed) (with_named users named)
one_more users None h k = none_holds (All IsNamed)
one_more users (Some user) h k =
    satisfies_if (All IsNamed) (nat_lt (length users) 16 && not (is_some
    (user_of users user.name user.kind))) (users ++ user ∷ [])
    (λ t. All-push IsNamed users user h (k.each user refl))

named_from : (users : Option (List User)) (words : List (List ℕ)) → Holds (All IsNamed) users
    → Holds (All IsNamed) (users_named users words)
unfolding users_named
named_from None words h = none_holds (All IsNamed)
named_from (Some users) [] h = h
named_from (Some users) (name ∷ []) h = none_holds (All IsNamed)
named_from (Some users) (name ∷ kind ∷ []) h = none_holds (All IsNamed)
named_from (Some users) (name ∷ kind ∷ key ∷ rest) h =
    named_from (with_named users (user_named name kind key)) rest
    (one_more users (user_named name kind key) (h.each users refl) (one_named name kind key))

-- of all users that words name
pub all_named : (words : List (List ℕ)) (users : List User)
    → users_named (Some []) words ≡ Some users → All IsNamed users
all_named words = (named_from (Some []) words (some_holds (All IsNamed) [] (All-nil _))).each

-- three words more
pub group_reads : (users mid : List User) (out : Option (List User)) (name kind key : List ℕ)
    (rest : List (List ℕ))
    → read_as true mid ≡ with_named users (user_named name kind key)
    → out ≡ users_named (Some mid) rest → out ≡ users_named (Some users) (name ∷ kind ∷ key ∷ rest)
unfolding users_named
group_reads users mid out name kind key rest e h =
    h ∙ ap (λ (o : Option (List User)). users_named o rest) e

pub group_fails : (users mid : List User) (name kind key : List ℕ) (rest : List (List ℕ))
    → read_as false mid ≡ with_named users (user_named name kind key)
    → None ≡ users_named (Some users) (name ∷ kind ∷ key ∷ rest)
unfolding users_named
group_fails users mid name kind key rest e = ap (λ (o : Option (List User)). users_named o rest) e

-- what was added before, where something is read
from_some : (one other users : List User) (words : List (List ℕ))
    → users_until one (Some users) words ≡ users_until other (Some users) words
unfolding users_until
from_some one other users [] = refl
from_some one other users (name ∷ []) = refl
from_some one other users (name ∷ kind ∷ []) = refl
from_some one other users (name ∷ kind ∷ key ∷ rest) = refl

pub group_adds : (users mid out : List User) (name kind key : List ℕ) (rest : List (List ℕ))
    → read_as true mid ≡ with_named users (user_named name kind key)
    → out ≡ users_until mid (Some mid) rest
    → out ≡ users_until users (Some users) (name ∷ kind ∷ key ∷ rest)
unfolding users_until
group_adds users mid out name kind key rest e h =
    h ∙ from_some mid users mid rest ∙ ap (λ (o : Option (List User)). users_until users o rest) e

pub group_stays : (users mid out : List User) (name kind key : List ℕ) (rest : List (List ℕ))
    → read_as false mid ≡ with_named users (user_named name kind key) → out ≡ users
    → out ≡ users_until users (Some users) (name ∷ kind ∷ key ∷ rest)
unfolding users_until
group_stays users mid out name kind key rest e h =
    h ∙ ap (λ (o : Option (List User)). users_until users o rest) e
