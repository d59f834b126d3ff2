-- A CSuite_List by its entries of six octets.
use Rattle.std.proofs.Common.{◌≡◌, ℕ, ◌<◌, Bool, true, false, cond, List, [], ◌∷◌, ◌++◌, length}
use Rattle.std.proofs.Common.{Option, None, Some, arith, refl, ◌∙◌}
use Rattle.octet_lists.specs.declared.suite.Suite.{Suite}
use Rattle.octet_lists.specs.declared.suite.Suite.TheVariants.{Cmac, Hmac}
use Rattle.login_policy.specs.Policy.{is_allowed, suite_or, picked_suite}

-- at an entry: its suite where that is allowed, or what the entries behind it give
pub picked_from_entry : (allowed entry rest : List ℕ) → length entry ≡ 6 →
    picked_suite allowed (entry ++ rest) ≡ suite_or allowed entry (picked_suite allowed rest)
unfolding picked_suite
picked_from_entry allowed (a ∷ b ∷ c ∷ d ∷ e ∷ f ∷ []) rest sized = refl
picked_from_entry allowed (a ∷ b ∷ c ∷ d ∷ e ∷ f ∷ g ∷ more) rest sized = absurd (omega arith)
picked_from_entry allowed [] rest sized = absurd (omega arith)
picked_from_entry allowed (a ∷ []) rest sized = absurd (omega arith)
picked_from_entry allowed (a ∷ b ∷ []) rest sized = absurd (omega arith)
picked_from_entry allowed (a ∷ b ∷ c ∷ []) rest sized = absurd (omega arith)
picked_from_entry allowed (a ∷ b ∷ c ∷ d ∷ []) rest sized = absurd (omega arith)
picked_from_entry allowed (a ∷ b ∷ c ∷ d ∷ e ∷ []) rest sized = absurd (omega arith)

-- fewer octets than an entry has name no suite
pub picked_from_part : (allowed list : List ℕ) → length list < 6 → picked_suite allowed list ≡ None
unfolding picked_suite
picked_from_part allowed (a ∷ b ∷ c ∷ d ∷ e ∷ f ∷ rest) short = absurd (omega arith)
picked_from_part allowed [] short = refl
picked_from_part allowed (a ∷ []) short = refl
picked_from_part allowed (a ∷ b ∷ []) short = refl
picked_from_part allowed (a ∷ b ∷ c ∷ []) short = refl
picked_from_part allowed (a ∷ b ∷ c ∷ d ∷ []) short = refl
picked_from_part allowed (a ∷ b ∷ c ∷ d ∷ e ∷ []) short = refl

-- a choice of suites by two tests, where without an alternative it is some suite
kept : (one other : Bool) (x y suite : Suite) (otherwise : Option Suite)
    → cond one (Some x) (cond other (Some y) None) ≡ Some suite →
    cond one (Some x) (cond other (Some y) otherwise) ≡ Some suite
kept true other x y suite otherwise is = is
kept false true x y suite otherwise is = is
kept false false x y suite otherwise is = cc

-- a choice of suites by two tests, where without an alternative it is none
passed : (one other : Bool) (x y : Suite) (otherwise : Option Suite)
    → cond one (Some x) (cond other (Some y) None) ≡ None →
    cond one (Some x) (cond other (Some y) otherwise) ≡ otherwise
passed true other x y otherwise is = cc
passed false true x y otherwise is = cc
passed false false x y otherwise is = refl

-- an entry that names an allowed suite is picked
pub picked_here : (allowed entry rest list : List ℕ) (suite : Suite) → list ≡ entry ++ rest
    → length entry ≡ 6 →
    suite_or allowed entry None ≡ Some suite → picked_suite allowed list ≡ Some suite
picked_here allowed entry rest list suite joined sized names =
    rw joined (picked_from_entry allowed entry rest sized
    ∙ kept (is_allowed allowed entry Cmac) (is_allowed allowed entry Hmac) Cmac Hmac suite
    (picked_suite allowed rest) names)

-- an entry that names no allowed suite is passed over
pub picked_after : (allowed entry rest list : List ℕ) → list ≡ entry ++ rest → length entry ≡ 6 →
    suite_or allowed entry None ≡ None → picked_suite allowed list ≡ picked_suite allowed rest
picked_after allowed entry rest list joined sized names =
    rw joined (picked_from_entry allowed entry rest sized
    ∙ passed (is_allowed allowed entry Cmac) (is_allowed allowed entry Hmac) Cmac Hmac
    (picked_suite allowed rest) names)
