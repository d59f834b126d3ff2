-- What a choice says of the kind, the suite or the list that is chosen.
use Rattle.std.proofs.Common.{◌≡◌, ℕ, ◌≤◌, true, false, List, [], ◌∷◌, length, Option, Some, arith}
use Rattle.login_policy.proofs.Finding.{among_there}
use Rattle.octet_lists.specs.Among.{is_among}
use Rattle.octet_lists.specs.Suite.{suite_number}
use Rattle.octet_lists.specs.declared.suite.Suite.{Suite}
use Rattle.login_policy.specs.Policy.{nak_of, picked_suite, next_kind}
use Rattle.login_policy.specs.Laws.{IsNext}
use Rattle.login_policy.proofs.Firsts.{next_is_first, picked_is_first}

-- the next method stands in the server's order
pub next_is_ordered : (order proposed : List ℕ) (nak : Option (List ℕ)) (kind : ℕ)
    → next_kind order proposed nak ≡ Some kind → is_among order kind ≡ true
next_is_ordered order proposed nak kind is =
    let next : IsNext order proposed nak kind = next_is_first order proposed nak kind is in
    rw next.stands (among_there next.before next.after kind)

-- the next method isn't proposed yet
pub next_is_unproposed : (order proposed : List ℕ) (nak : Option (List ℕ)) (kind : ℕ)
    → next_kind order proposed nak ≡ Some kind → is_among proposed kind ≡ false
next_is_unproposed order proposed nak kind is =
    (next_is_first order proposed nak kind is).unproposed

-- the suite that is picked is allowed
pub picked_is_allowed : (allowed list : List ℕ) (suite : Suite)
    → picked_suite allowed list ≡ Some suite → is_among allowed (suite_number suite) ≡ true
picked_is_allowed allowed list suite is = (picked_is_first allowed list suite is).allows

-- a Nak lists a Type or more
pub nak_lists_some : (methods : List ℕ) → 1 ≤ length (nak_of methods)
unfolding nak_of
nak_lists_some [] = omega arith
nak_lists_some (kind ∷ rest) = omega arith
