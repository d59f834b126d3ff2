-- The name of a user, which a finding tells.
use Rattle.std.proofs.Common.{◌≡◌, ℕ, List, Bool, true, false, cond, All, Option, Some, None}
use Rattle.std.proofs.Common.{IfSome}
use Rattle.login_setup.specs.Users.{user_of, is_named}
use Rattle.login_setup.specs.declared.users.User.{User}
use Rattle.capture_check.specs.Tags.{tag_finding}
use Rattle.capture_check.specs.declared.finding.Finding.{Finding}
use Rattle.capture_check.specs.declared.finding.Finding.TheVariants.{Good, Malformed, TagBad}
use Rattle.capture_check.specs.declared.finding.Finding.TheVariants.{TagGood, NoKey, NoContext}
use Rattle.capture_check.proofs.UserKeys.{found_satisfies}

-- what is shown under a test alone
pub if_shown : {A : Type 0} (Q : A → Type 0) (test : Bool) (x : Option A) → IfSome x Q
    → (let shown : Option A = cond test x None in IfSome shown Q)
if_shown Q true x h = h
if_shown Q false x h = tt

module _ (P : List ℕ → Type 0) where
  -- the name that a finding tells has the property
  abbrev pub Names : Finding → Type 0
  Names Good = Unit {0}
  Names (Malformed cause) = Unit {0}
  Names TagBad = Unit {0}
  Names (TagGood name) = P name
  Names NoKey = Unit {0}
  Names NoContext = Unit {0}

  pub named_by : (users : List User) (name : List ℕ) (kind : ℕ) (user : User)
      → All (λ (u : User). P u.name) users → user_of users name kind ≡ Some user → P user.name
  named_by users name kind user all e =
      (found_satisfies (is_named name kind) (λ (u : User). P u.name) users user all e).0

  pub by_tag : (name : List ℕ) (right : Bool) → P name → Names (tag_finding name right)
  by_tag name true h = h
  by_tag name false h = tt
