-- Laws of the choices: each is the first that is allowed, and none is made if none is allowed.
use Rattle.std.specs.Prelude.{◌≡◌, ◌↔◌, ◌≢◌, ℕ, List, [], ◌∷◌, ◌++◌, length, true, false, Option}
use Rattle.std.specs.Prelude.{Some, None, All, ◌<◌}
use Rattle.std.specs.List.{concat}
use Rattle.octet_lists.specs.Among.{is_among}
use Rattle.login_setup.specs.Setup.{are_kinds}
use Rattle.octet_lists.specs.Suite.{suite_octets, suite_number}
use Rattle.octet_lists.specs.declared.suite.Suite.{Suite}
use Rattle.login_policy.specs.Policy.{nak_of, picked_suite, is_desired, next_kind}
use Rattle.login_policy.specs.Expanded.{nak_entries, expanded_kinds}

-- a Type that the Nak, if one has come, desires is proposed already
abbrev pub IsPassed : List ℕ → Option (List ℕ) → ℕ → Type 0
IsPassed proposed nak kind = is_desired nak kind ≡ true → is_among proposed kind ≡ true

-- a Type is the first of the order that is desired and not yet proposed
pub record IsNext (order proposed : List ℕ) (nak : Option (List ℕ)) (kind : ℕ) : Type 0 where
  pub before : List ℕ
  pub after : List ℕ
  pub stands : order ≡ before ++ kind ∷ after
  pub desired : is_desired nak kind ≡ true
  pub unproposed : is_among proposed kind ≡ false
  pub first : All (IsPassed proposed nak) before

-- the next Type is the first of the order that is desired and not yet proposed
abbrev pub NextIsFirst : Type 0
NextIsFirst =
    (order proposed : List ℕ) (nak : Option (List ℕ)) (kind : ℕ)
    → (next_kind order proposed nak ≡ Some kind) ↔ IsNext order proposed nak kind

-- there is no next Type exactly if each one of the order that is desired is proposed
abbrev pub NoneIsNext : Type 0
NoneIsNext = (order proposed : List ℕ) (nak : Option (List ℕ))
    → (next_kind order proposed nak ≡ None) ↔ All (IsPassed proposed nak) order

-- six octets that name no allowed suite
pub record NamesNone (allowed entry : List ℕ) : Type 0 where
  pub size : length entry ≡ 6
  pub unallowed : (suite : Suite) → entry ≡ suite_octets suite
      → is_among allowed (suite_number suite) ≡ false

-- a suite is allowed, and is named behind entries that name no allowed one
pub record IsPicked (allowed list : List ℕ) (suite : Suite) : Type 0 where
  pub before : List (List ℕ)
  pub after : List ℕ
  pub stands : list ≡ concat before ++ (suite_octets suite ++ after)
  pub allows : is_among allowed (suite_number suite) ≡ true
  pub first : All (NamesNone allowed) before

-- a list's whole entries name no allowed suite, and what is behind them is no whole entry
pub record NamesOnlyOthers (allowed list : List ℕ) : Type 0 where
  pub entries : List (List ℕ)
  pub after : List ℕ
  pub stands : list ≡ concat entries ++ after
  pub part : length after < 6
  pub others : All (NamesNone allowed) entries

-- the suite that is picked is the first of the list that is allowed
abbrev pub PickedIsFirst : Type 0
PickedIsFirst = (allowed list : List ℕ) (suite : Suite) → (picked_suite allowed list ≡ Some suite)
    ↔ IsPicked allowed list suite

-- no suite is picked exactly if the list names none that is allowed
abbrev pub NoneIsPicked : Type 0
NoneIsPicked =
    (allowed list : List ℕ) → (picked_suite allowed list ≡ None) ↔ NamesOnlyOthers allowed list

-- a Nak lists allowed Types alone, or 0
abbrev pub NakIsAllowed : Type 0
NakIsAllowed = (methods : List ℕ) (kind : ℕ) → is_among (nak_of methods) kind ≡ true → kind ≢ 0
    → is_among methods kind ≡ true

-- a Nak lists each Type that is allowed
abbrev pub AllowedIsListed : Type 0
AllowedIsListed = (methods : List ℕ) (kind : ℕ) → is_among methods kind ≡ true
    → is_among (nak_of methods) kind ≡ true

-- a Nak lists some Type (RFC 3748 section 5.3.1)
abbrev pub NakListsSome : Type 0
NakListsSome = (methods : List ℕ) → nak_of methods ≢ []

-- the list of an Expanded Nak for Types of the two methods, each at most once, is read as these
-- (section 5.3.2)
abbrev pub EntriesAreRead : Type 0
EntriesAreRead =
    (kinds : List ℕ) → are_kinds kinds ≡ true → expanded_kinds (nak_entries kinds) ≡ kinds
