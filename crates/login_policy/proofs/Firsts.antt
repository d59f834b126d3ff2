-- Each choice is the first that is allowed, and none is made where none is allowed.
use Rattle.std.proofs.Common.{◌≡◌, ◌≢◌, ℕ, ◌<◌, Bool, true, false, not, ◌&&◌, cond, List, [], ◌∷◌}
use Rattle.std.proofs.Common.{◌++◌, length, Option, None, Some, refl, ap, sym, ◌∙◌, inl, inr, ◌⊎◌}
use Rattle.std.proofs.Common.{arith, append_assoc}
use Rattle.std.specs.List.{All, concat}
use Rattle.std.specs.Str.{bytes_eq}
use Rattle.std.proofs.lemmas.Bool.{cases_Bool, cond-true, and_parts, and_cases, and_left, and_right}
use Rattle.std.proofs.lemmas.Bool.{not-true, and_from, not_from_false, both_ways}
use Rattle.std.proofs.lemmas.List.Elements.{All-nil, All-cons, All-head, All-tail, All-weaker}
use Rattle.std.proofs.lemmas.Slice.Eq.{bytes_eq-Decides}
use Rattle.octet_lists.specs.Among.{is_among}
use Rattle.octet_lists.specs.Suite.{suite_number, suite_octets}
use Rattle.octet_lists.specs.declared.suite.Suite.{Suite}
use Rattle.octet_lists.specs.declared.suite.Suite.TheVariants.{Cmac, Hmac}
use Rattle.login_policy.specs.Policy.{nak_of, picked_suite, is_allowed, suite_or, is_desired}
use Rattle.login_policy.specs.Policy.{next_kind}
use Rattle.login_policy.specs.Laws.{IsPassed, IsNext, NextIsFirst, NoneIsNext, NamesNone, IsPicked}
use Rattle.login_policy.specs.Laws.{NamesOnlyOthers, PickedIsFirst, NoneIsPicked, NakIsAllowed}
use Rattle.login_policy.specs.Laws.{AllowedIsListed, NakListsSome}
use Rattle.login_policy.proofs.Entries.{picked_here, picked_after, picked_from_part}
use Rattle.login_policy.proofs.Finding.{IsFirst, finds_first, first_is_found, none_passes}
use Rattle.login_policy.proofs.Finding.{none_is_found}

-- whether a Type is desired and not yet proposed
abbrev is_open : List ℕ → Option (List ℕ) → ℕ → Bool
is_open proposed nak kind = not (is_among proposed kind) && is_desired nak kind

closed_test : (proposed desired : Bool) → (not proposed && desired) ≡ false → desired ≡ true
    → proposed ≡ true
closed_test true desired closed is = refl
closed_test false desired closed is = absurd (both_ways desired closed is)

passed_test : (proposed desired : Bool) → (desired ≡ true → proposed ≡ true)
    → (not proposed && desired) ≡ false
passed_test true desired passed = refl
passed_test false false passed = refl
passed_test false true passed = sym (passed refl)

-- what isn't open is passed
closed_is_passed : (proposed : List ℕ) (nak : Option (List ℕ)) (kind : ℕ)
    → is_open proposed nak kind ≡ false → IsPassed proposed nak kind
closed_is_passed proposed nak kind closed =
    closed_test (is_among proposed kind) (is_desired nak kind) closed

-- what is passed isn't open
passed_is_closed : (proposed : List ℕ) (nak : Option (List ℕ)) (kind : ℕ)
    → IsPassed proposed nak kind → is_open proposed nak kind ≡ false
passed_is_closed proposed nak kind passed =
    passed_test (is_among proposed kind) (is_desired nak kind) passed

all_passed : (proposed : List ℕ) (nak : Option (List ℕ)) (kinds : List ℕ)
    → All (λ kind. is_open proposed nak kind ≡ false) kinds → All (IsPassed proposed nak) kinds
all_passed proposed nak kinds closed =
    All-weaker (λ kind. is_open proposed nak kind ≡ false) (IsPassed proposed nak)
    (closed_is_passed proposed nak) kinds closed

all_closed : (proposed : List ℕ) (nak : Option (List ℕ)) (kinds : List ℕ)
    → All (IsPassed proposed nak) kinds → All (λ kind. is_open proposed nak kind ≡ false) kinds
all_closed proposed nak kinds passed =
    All-weaker (IsPassed proposed nak) (λ kind. is_open proposed nak kind ≡ false)
    (passed_is_closed proposed nak) kinds passed

next_from_first : (order proposed : List ℕ) (nak : Option (List ℕ)) (kind : ℕ)
    → IsFirst (is_open proposed nak) order kind → IsNext order proposed nak kind
next_from_first order proposed nak kind found =
    let parts : (not (is_among proposed kind) ≡ true) × (is_desired nak kind ≡ true) =
    and_parts (not (is_among proposed kind)) (is_desired nak kind) found.passes in
    record {
      before = found.before;
      after = found.after;
      stands = found.stands;
      desired = parts.1;
      unproposed = not-true (is_among proposed kind) parts.0;
      first = all_passed proposed nak found.before found.first;
    }

-- the next Type is the first of the order that is desired and not yet proposed
pub next_is_first : (order proposed : List ℕ) (nak : Option (List ℕ)) (kind : ℕ)
    → next_kind order proposed nak ≡ Some kind → IsNext order proposed nak kind
unfolding next_kind
next_is_first order proposed nak kind is =
    next_from_first order proposed nak kind (finds_first (is_open proposed nak) order kind is)

first_is_next : (order proposed : List ℕ) (nak : Option (List ℕ)) (kind : ℕ)
    → IsNext order proposed nak kind → next_kind order proposed nak ≡ Some kind
unfolding next_kind
first_is_next order proposed nak kind next =
    rw next.stands (first_is_found (is_open proposed nak) next.before next.after kind
    (and_from (not (is_among proposed kind)) (is_desired nak kind)
    (not_from_false (is_among proposed kind) next.unproposed) next.desired)
    (all_closed proposed nak next.before next.first))

pub next_is_the_first : NextIsFirst
next_is_the_first order proposed nak kind =
    (next_is_first order proposed nak kind, first_is_next order proposed nak kind)

pub none_is_next : NoneIsNext
unfolding next_kind
none_is_next order proposed nak = (
  λ is. all_passed proposed nak order (none_passes (is_open proposed nak) order is),
  λ passed. none_is_found (is_open proposed nak) order (all_closed proposed nak order passed),
)

-- an entry that isn't an allowed suite names none
fails_unallowed : (allowed entry : List ℕ) (suite : Suite) → is_allowed allowed entry suite ≡ false
    → entry ≡ suite_octets suite → is_among allowed (suite_number suite) ≡ false
fails_unallowed allowed entry suite fails is =
    elim (and_cases (bytes_eq entry (suite_octets suite))
    (is_among allowed (suite_number suite)) fails) [
      | inl differs ↦ absurd (both_ways (bytes_eq entry (suite_octets suite)) differs
          ((bytes_eq-Decides entry (suite_octets suite)).1 is))
      | inr unallowed ↦ unallowed
    ]

unallowed_fails : (allowed entry : List ℕ) (suite : Suite) → (entry ≡ suite_octets suite
    → is_among allowed (suite_number suite) ≡ false) → is_allowed allowed entry suite ≡ false
unallowed_fails allowed entry suite unallowed =
    elim (cases_Bool (bytes_eq entry (suite_octets suite))) [
      | inl same ↦ and_right (bytes_eq entry (suite_octets suite)) (is_among allowed
          (suite_number suite)) (unallowed ((bytes_eq-Decides entry (suite_octets suite)).0 same))
      | inr differs ↦ and_left (bytes_eq entry (suite_octets suite))
          (is_among allowed (suite_number suite)) differs
    ]

none_tests : (one other : Bool) (x y : Suite) → cond one (Some x) (cond other (Some y) None) ≡ None
    → (one ≡ false) × (other ≡ false)
none_tests true other x y is = absurd (cc)
none_tests false true x y is = absurd (cc)
none_tests false false x y is = (refl, refl)

tests_none : (one other : Bool) (x y : Suite) → one ≡ false → other ≡ false
    → cond one (Some x) (cond other (Some y) None) ≡ None
tests_none true other x y one_is other_is = absurd (cc)
tests_none false true x y one_is other_is = absurd (cc)
tests_none false false x y one_is other_is = refl

unallowed_each : (allowed entry : List ℕ) → (is_allowed allowed entry Cmac ≡ false)
    × (is_allowed allowed entry Hmac ≡ false) →
    (suite : Suite) → entry ≡ suite_octets suite → is_among allowed (suite_number suite) ≡ false
unallowed_each allowed entry fail Cmac is = fails_unallowed allowed entry Cmac fail.0 is
unallowed_each allowed entry fail Hmac is = fails_unallowed allowed entry Hmac fail.1 is

-- six octets from which nothing is chosen name no allowed suite
chooses_none : (allowed entry : List ℕ) → length entry ≡ 6 → suite_or allowed entry None ≡ None
    → NamesNone allowed entry
chooses_none allowed entry sized is =
    record {
      size = sized;
      unallowed = unallowed_each allowed entry
          (none_tests (is_allowed allowed entry Cmac) (is_allowed allowed entry Hmac) Cmac Hmac is);
    }

names_nothing : (allowed entry : List ℕ) → NamesNone allowed entry
    → suite_or allowed entry None ≡ None
names_nothing allowed entry names =
    tests_none (is_allowed allowed entry Cmac) (is_allowed allowed entry Hmac) Cmac Hmac
    (unallowed_fails allowed entry Cmac (names.unallowed Cmac))
    (unallowed_fails allowed entry Hmac (names.unallowed Hmac))

chosen_passes : (test : Suite → Bool) (one other : Bool) (suite : Suite) → test Cmac ≡ one
    → test Hmac ≡ other →
    cond one (Some Cmac) (cond other (Some Hmac) None) ≡ Some suite → test suite ≡ true
chosen_passes test true other suite one_is other_is is = cc
chosen_passes test false true suite one_is other_is is = cc
chosen_passes test false false suite one_is other_is is = absurd (cc)

-- the choice at an entry, with what is chosen behind it
choice_test : (one other : Bool) (x y suite : Suite) (otherwise : Option Suite)
    → cond one (Some x) (cond other (Some y) otherwise) ≡ Some suite →
    (cond one (Some x) (cond other (Some y) None) ≡ Some suite)
    ⊎ ((cond one (Some x) (cond other (Some y) None) ≡ None) × (otherwise ≡ Some suite))
choice_test true other x y suite otherwise is = inl is
choice_test false true x y suite otherwise is = inl is
choice_test false false x y suite otherwise is = inr (refl, is)

rest_test : (one other : Bool) (x y : Suite) (otherwise : Option Suite)
    → cond one (Some x) (cond other (Some y) otherwise) ≡ None →
    (cond one (Some x) (cond other (Some y) None) ≡ None) × (otherwise ≡ None)
rest_test true other x y otherwise is = absurd (cc)
rest_test false true x y otherwise is = absurd (cc)
rest_test false false x y otherwise is = (refl, is)

octets_named : (allowed : List ℕ) (suite : Suite) → is_among allowed (suite_number suite) ≡ true
    → suite_or allowed (suite_octets suite) None ≡ Some suite
octets_named allowed Cmac allows = cond-true (is_among allowed 1) (Some Cmac) None allows
octets_named allowed Hmac allows = cond-true (is_among allowed 2) (Some Hmac) None allows

picked_at : (allowed entry rest list : List ℕ) (suite : Suite) → list ≡ entry ++ rest
    → is_allowed allowed entry suite ≡ true → IsPicked allowed list suite
picked_at allowed entry rest list suite joined passes =
    let parts : (bytes_eq entry (suite_octets suite) ≡ true)
    × (is_among allowed (suite_number suite) ≡ true) = and_parts (bytes_eq entry
    (suite_octets suite)) (is_among allowed (suite_number suite)) passes in
    record {
      before = [];
      after = rest;
      stands =
          joined ∙ ap (λ z. z ++ rest) ((bytes_eq-Decides entry (suite_octets suite)).0 parts.0);
      allows = parts.1;
      first = All-nil (NamesNone allowed);
    }

picked_past : (allowed entry rest list : List ℕ) (suite : Suite) → list ≡ entry ++ rest
    → NamesNone allowed entry → IsPicked allowed rest suite → IsPicked allowed list suite
picked_past allowed entry rest list suite joined names picked =
    record {
      before = entry ∷ picked.before;
      after = picked.after;
      stands = joined ∙ (ap (λ z. entry ++ z) picked.stands
          ∙ sym (append_assoc entry (concat picked.before) (suite_octets suite ++ picked.after)));
      allows = picked.allows;
      first = All-cons (NamesNone allowed) entry picked.before names picked.first;
    }

-- the suite that is picked is the first of the list that is allowed
pub picked_is_first : (allowed list : List ℕ) (suite : Suite)
    → picked_suite allowed list ≡ Some suite → IsPicked allowed list suite
unfolding picked_suite
picked_is_first allowed (a ∷ b ∷ c ∷ d ∷ e ∷ f ∷ rest) suite is =
    let entry : List ℕ = a ∷ b ∷ c ∷ d ∷ e ∷ f ∷ [] in
    elim (choice_test (is_allowed allowed entry Cmac) (is_allowed allowed entry Hmac)
    Cmac Hmac suite (picked_suite allowed rest) is) [
      | inl here ↦ picked_at allowed entry rest (entry ++ rest) suite refl
          (chosen_passes (is_allowed allowed entry) (is_allowed allowed entry Cmac)
          (is_allowed allowed entry Hmac) suite refl refl here)
      | inr behind ↦ picked_past allowed entry rest (entry ++ rest) suite refl
          (chooses_none allowed entry refl behind.0) (picked_is_first allowed rest suite behind.1)
    ]
picked_is_first allowed octets suite is = absurd (cc)

first_is_picked : (allowed : List ℕ) (before : List (List ℕ)) (after list : List ℕ) (suite : Suite)
    → list ≡ concat before ++ (suite_octets suite ++ after) →
    is_among allowed (suite_number suite) ≡ true → All (NamesNone allowed) before
    → picked_suite allowed list ≡ Some suite
first_is_picked allowed [] after list suite stands allows first =
    picked_here allowed (suite_octets suite) after list suite stands refl
    (octets_named allowed suite allows)
first_is_picked allowed (entry ∷ before) after list suite stands allows first =
    let names : NamesNone allowed entry = All-head (NamesNone allowed) entry before first in
    let behind : List ℕ = concat before ++ (suite_octets suite ++ after) in
    picked_after allowed entry behind list (stands ∙ append_assoc entry (concat
    before) (suite_octets suite ++ after)) names.size (names_nothing allowed entry names)
    ∙ first_is_picked allowed before after behind suite refl allows
    (All-tail (NamesNone allowed) entry before first)

pub picked_is_the_first : PickedIsFirst
picked_is_the_first allowed list suite = (
  picked_is_first allowed list suite,
  λ picked. first_is_picked allowed picked.before picked.after list suite picked.stands
      picked.allows picked.first,
)

part_alone : (allowed list : List ℕ) → length list < 6 → NamesOnlyOthers allowed list
part_alone allowed list short =
    record {
      entries = [];
      after = list;
      stands = refl;
      part = short;
      others = All-nil (NamesNone allowed);
    }

others_past : (allowed entry rest list : List ℕ) → list ≡ entry ++ rest → NamesNone allowed entry
    → NamesOnlyOthers allowed rest → NamesOnlyOthers allowed list
others_past allowed entry rest list joined names others =
    record {
      entries = entry ∷ others.entries;
      after = others.after;
      stands = joined ∙ (ap (λ z. entry ++ z) others.stands
          ∙ sym (append_assoc entry (concat others.entries) others.after));
      part = others.part;
      others = All-cons (NamesNone allowed) entry others.entries names others.others;
    }

none_names_others : (allowed list : List ℕ) → picked_suite allowed list ≡ None
    → NamesOnlyOthers allowed list
unfolding picked_suite
none_names_others allowed (a ∷ b ∷ c ∷ d ∷ e ∷ f ∷ rest) is =
    let entry : List ℕ = a ∷ b ∷ c ∷ d ∷ e ∷ f ∷ [] in
    let parts : (suite_or allowed entry None ≡ None) × (picked_suite allowed rest ≡ None) =
    rest_test (is_allowed allowed entry Cmac) (is_allowed allowed entry Hmac) Cmac Hmac
    (picked_suite allowed rest) is in
    others_past allowed entry rest (entry ++ rest) refl (chooses_none allowed entry refl parts.0)
    (none_names_others allowed rest parts.1)
none_names_others allowed octets is = part_alone allowed _ (omega arith)

others_pick_none : (allowed : List ℕ) (entries : List (List ℕ)) (after list : List ℕ)
    → list ≡ concat entries ++ after → length after < 6 →
    All (NamesNone allowed) entries → picked_suite allowed list ≡ None
others_pick_none allowed [] after list stands part others =
    rw stands (picked_from_part allowed after part)
others_pick_none allowed (entry ∷ entries) after list stands part others =
    let names : NamesNone allowed entry = All-head (NamesNone allowed) entry entries others in
    let behind : List ℕ = concat entries ++ after in
    picked_after allowed entry behind list (stands ∙ append_assoc entry (concat entries) after)
    names.size (names_nothing allowed entry names)
    ∙ others_pick_none allowed entries after behind refl part
    (All-tail (NamesNone allowed) entry entries others)

pub none_is_picked : NoneIsPicked
none_is_picked allowed list = (
  none_names_others allowed list,
  λ names.
      others_pick_none allowed names.entries names.after list names.stands names.part names.others,
)

zero_alone : (kind : ℕ) → is_among (0 ∷ []) kind ≡ true → kind ≢ 0 → ⊥
zero_alone kind listed some = grind arith

pub nak_is_allowed : NakIsAllowed
unfolding nak_of
nak_is_allowed [] kind listed some = absurd (zero_alone kind listed some)
nak_is_allowed (first ∷ rest) kind listed some = listed

pub allowed_is_listed : AllowedIsListed
unfolding nak_of
allowed_is_listed [] kind allowed = absurd (cc)
allowed_is_listed (first ∷ rest) kind allowed = allowed

pub nak_lists_a_type : NakListsSome
unfolding nak_of
nak_lists_a_type [] is = absurd (cc)
nak_lists_a_type (first ∷ rest) is = absurd (cc)
