-- The keys of a server's users.
use Rattle.std.proofs.Common.{◌≡◌, ℕ, zero, suc, List, [], ◌∷◌, length, All, IsTrue, Some, Option}
use Rattle.std.proofs.Common.{arith, Bool, true, false, cond, refl}
use Rattle.login_setup.specs.declared.users.User.{User}
use Rattle.octet_lists.specs.Among.{psk_kind}
use Rattle.login_setup.specs.Setup.{has_valid_key}
use Rattle.login_setup.specs.Users.{user_of, is_named}

abbrev pub HasKey : User → Type 0
HasKey user = IsTrue (has_valid_key user)

-- the key of a user that is named for EAP-PSK
key_named : (name : List ℕ) (user : User) → is_named name psk_kind user ≡ true → HasKey user
    → length user.psk ≡ 16
key_named name user named key = grind arith

-- the user is the first one, or is found in the rest
key_found : (named : Bool) (first user : User) (found : Option User)
    → Some user ≡ cond named (Some first) found
    → (named ≡ true → length first.psk ≡ 16) → (Some user ≡ found → length user.psk ≡ 16)
    → length user.psk ≡ 16
key_found true first user found is here there = let same : user ≡ first = cc in rw same (here refl)
key_found false first user found is here there = there is

-- the key of a user of EAP-PSK has 16 octets
pub key_of_user : (users : List User) (name : List ℕ) (user : User)
    → Some user ≡ user_of users name psk_kind
    → All (λ each. IsTrue (has_valid_key each)) users → length user.psk ≡ 16
key_of_user [] name user is keys = cc
key_of_user (first ∷ rest) name user is keys =
    key_found (is_named name psk_kind first) first user (user_of rest name psk_kind) is
    (λ named. key_named name first named (keys zero first (omega arith)))
    (λ found. key_of_user rest name user found (λ k d below. keys (suc k) d (omega arith)))
