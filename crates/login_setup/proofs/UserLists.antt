-- Lists of users whose pairs of name and kind are distinct.
use Rattle.std.proofs.Common.{◌≡◌, ℕ, zero, suc, ◌<◌, Bool, false, List, [], ◌∷◌, ◌++◌, length}
use Rattle.std.proofs.Common.{get_or, Option, Some, None, arith, refl}
use Rattle.std.specs.List.{find}
use Rattle.std.specs.Option.{is_some, option_copied}
use denote.Ref.{Bor}
use Rattle.std.proofs.lemmas.List.{length_push}
use Rattle.std.proofs.lemmas.List.Quantifiers.{all_pairs_push}
use Rattle.login_setup.specs.declared.users.User.{User}
use Rattle.login_setup.specs.Users.{user_of, is_named, AreDistinct, AreUsers, max_users}

-- where nothing is found, each element fails the test
pub find_none : {X : Type 0} (p : X → Bool) (xs : List X) → find p xs ≡ None → (k : ℕ) (d : X)
    → k < length xs → p (get_or xs k d) ≡ false
find_none p [] nothing k d below = grind arith
find_none p (x ∷ xs) nothing zero d below = grind arith
find_none p (x ∷ xs) nothing (suc k) d below = grind (arith, find_none p xs)

-- a user whose name and kind aren't there goes at the end
pub AreDistinct_push : (users : List User) (user : User) → AreDistinct users
    → user_of users user.name user.kind ≡ None → AreDistinct (users ++ user ∷ [])
AreDistinct_push users user distinct absent =
    all_pairs_push (λ a b. is_named b.name b.kind a ≡ false) users user distinct
    (λ k d below. find_none (is_named user.name user.kind) users absent k d below)

-- the same of a list that has room for one more
pub AreUsers_push : (users : List User) (user : User)
    → AreUsers users → user_of users user.name user.kind ≡ None → length users < max_users
    → AreUsers (users ++ user ∷ [])
AreUsers_push users user are absent few = record {
  distinct = AreDistinct_push users user are.distinct absent;
  few = grind (arith, length_push);
}

-- a reference that isn't there points to nothing
pub none_copied : (found : Option (Bor User)) (test : Bool) → test ≡ is_some found → test ≡ false
    → option_copied found ≡ None
none_copied None test is fails = refl
none_copied (Some user) test is fails = cc
