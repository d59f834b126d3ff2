-- What two ends that fit choose: the method, before and after a Nak, and the suite.
use Rattle.std.proofs.Common.{◌≡◌, ℕ, ◌<◌, ◌≤◌, List, [], ◌∷◌, length, Bool, true, false, cond}
use Rattle.std.proofs.Common.{Option, None, Some, refl, sym, ap, ◌∙◌, arith, inl, inr}
use Rattle.std.specs.Prelude.{◌==◌, ◌&&◌, ◌||◌, ◌⊎◌, not, find}
use Rattle.std.specs.List.{list_any, list_all}
use Rattle.std.proofs.lemmas.Bool.{and_parts, and_from, or_cases, or_parts, or_left, or_right}
use Rattle.std.proofs.lemmas.Bool.{eq-eqb, not-true, eqb-true, eqb-false, cond-true, cond-false}
use Rattle.std.proofs.lemmas.Bool.{cond_both, cases_Bool, both_ways}
use Rattle.std.proofs.lemmas.Option.{same_Some}
use Rattle.std.proofs.lemmas.Slice.Eq.{bytes_eq-Decides}
use Rattle.octet_lists.specs.declared.suite.Suite.{Suite}
use Rattle.octet_lists.specs.declared.suite.Suite.TheVariants.{Cmac, Hmac}
use Rattle.octet_lists.specs.Among.{is_among, are_distinct, is_filled}
use Rattle.login_setup.specs.Setup.{are_suites}
use Rattle.octet_lists.specs.Suite.{suite_octets}
use Rattle.eap_method.specs.GpskTags.{suite_list}
use Rattle.login_policy.specs.Policy.{is_allowed, picked_suite, nak_of, next_kind}

-- ---- short lists

pub either : (p q a : ℕ) → ((a == p) || (a == q)) ≡ true → (a ≡ p) ⊎ (a ≡ q)
either p q a h = elim (or_cases (a == p)
    (a == q) h) [ inl e ↦ inl (eqb-true a p e) | inr e ↦ inr (eqb-true a q e) ]

-- three numbers of two are not distinct
three_of_two : (p q a b c : ℕ) → (a ≡ p) ⊎ (a ≡ q) → (b ≡ p) ⊎ (b ≡ q) → (c ≡ p) ⊎ (c ≡ q)
    → (b ≡ a → ⊥) → (c ≡ a → ⊥) → (c ≡ b → ⊥) → ⊥
three_of_two p q a b c (inl x) (inl y) z ab ac bc = ab (y ∙ sym x)
three_of_two p q a b c (inl x) (inr y) (inl z) ab ac bc = ac (z ∙ sym x)
three_of_two p q a b c (inl x) (inr y) (inr z) ab ac bc = bc (z ∙ sym y)
three_of_two p q a b c (inr x) (inr y) z ab ac bc = ab (y ∙ sym x)
three_of_two p q a b c (inr x) (inl y) (inr z) ab ac bc = ac (z ∙ sym x)
three_of_two p q a b c (inr x) (inl y) (inl z) ab ac bc = bc (z ∙ sym y)

pub few_of : (p q : ℕ) (xs : List ℕ) → list_all (λ x. (x == p) || (x == q)) xs ≡ true
    → are_distinct xs ≡ true → length xs ≤ 2
few_of p q [] all apart = omega arith
few_of p q (a ∷ []) all apart = omega arith
few_of p q (a ∷ b ∷ []) all apart = omega arith
few_of p q (a ∷ b ∷ c ∷ rest) all apart =
    let is_a = and_parts ((a == p) || (a == q)) _ all in
    let is_b = and_parts ((b == p) || (b == q)) _ is_a.1 in
    let is_c = and_parts ((c == p) || (c == q)) _ is_b.1 in
    let from_a = and_parts (not (is_among (b ∷ c ∷ rest) a)) _ apart in
    let from_b = and_parts (not (is_among (c ∷ rest) b)) _ from_a.1 in
    let a_apart = or_parts (b == a) _ (not-true (is_among (b ∷ c ∷ rest) a) from_a.0) in
    let c_from_a = or_parts (c == a) _ a_apart.1 in
    let c_from_b = or_parts (c == b) _ (not-true (is_among (c ∷ rest) b) from_b.0) in
    absurd (three_of_two p q a b c (either p q a is_a.0) (either p q b is_b.0) (either p q c is_c.0)
    (eqb-false b a a_apart.0) (eqb-false c a c_from_a.0) (eqb-false c b c_from_b.0))

pub few_suites : (suites : List ℕ) → are_suites suites ≡ true → length suites ≤ 2
few_suites suites h =
    let filled = and_parts (is_filled suites) _ h in
    let both = and_parts (list_all (λ suite. (suite == 1) || (suite == 2)) suites)
    (are_distinct suites) filled.1 in
    few_of 1 2 suites both.0 both.1

pub some_suites : (suites : List ℕ) → are_suites suites ≡ true → 0 < length suites
some_suites [] h = cc
some_suites (suite ∷ rest) h = omega arith

-- ---- the method

-- what is found passes, and is one of them
pub found_passes : (p : ℕ → Bool) (xs : List ℕ) (x : ℕ) → find p xs ≡ Some x → p x ≡ true
found_passes p [] x h = cc
found_passes p (y ∷ rest) x h =
    elim (cases_Bool (p y)) [
      | inl passes ↦ (let e = same_Some y x (sym (cond-true (p y) (Some y) (find p rest) passes)
          ∙ h) in ap p (sym e) ∙ passes)
      | inr fails ↦ found_passes p rest x (sym (cond-false (p y) (Some y) (find p rest) fails) ∙ h)
    ]

pub found_as_all : (p q : ℕ → Bool) (xs : List ℕ) (x : ℕ) → find p xs ≡ Some x
    → list_all q xs ≡ true → q x ≡ true
found_as_all p q [] x h all = cc
found_as_all p q (y ∷ rest) x h all =
    let both = and_parts (q y) (list_all q rest) all in
    elim (cases_Bool (p y)) [
      | inl passes ↦ (let e = same_Some y x (sym (cond-true (p y) (Some y) (find p rest) passes)
          ∙ h) in ap q (sym e) ∙ both.0)
      | inr fails ↦
          found_as_all p q rest x (sym (cond-false (p y) (Some y) (find p rest) fails) ∙ h) both.1
    ]

pub found_among : (p : ℕ → Bool) (xs : List ℕ) (x : ℕ) → find p xs ≡ Some x → is_among xs x ≡ true
found_among p [] x h = cc
found_among p (y ∷ rest) x h =
    elim (cases_Bool (p y)) [
      | inl passes ↦ or_left (y == x) _
          (eq-eqb y x (same_Some y x (sym (cond-true (p y) (Some y) (find p rest) passes) ∙ h)))
      | inr fails ↦ or_right (y == x) _
          (found_among p rest x (sym (cond-false (p y) (Some y) (find p rest) fails) ∙ h))
    ]

same_find : (p q : ℕ → Bool) (xs : List ℕ) → ((x : ℕ) → p x ≡ q x) → find p xs ≡ find q xs
same_find p q [] same = refl
same_find p q (x ∷ rest) same =
    ap (λ (b : Bool). cond b (Some x) (find p rest)) (same x)
    ∙ ap (λ (o : Option ℕ). cond (q x) (Some x) o) (same_find p q rest same)

-- the first method of the order is proposed first
pub first_is_next : (first : ℕ) (rest : List ℕ) → next_kind (first ∷ rest) [] None ≡ Some first
unfolding next_kind
first_is_next first rest = refl

-- one that the peer allows is the one that both have
pub allowed_is_common : (allowed : List ℕ) (first kind : ℕ) (rest : List ℕ)
    → is_among allowed first ≡ true
    → find (is_among allowed) (first ∷ rest) ≡ Some kind → first ≡ kind
allowed_is_common allowed first kind rest h common =
    same_Some first kind (sym (cond-true (is_among allowed first) (Some first)
    (find (is_among allowed) rest) h) ∙ common)

desired_else : (allowed : List ℕ) (refused x : ℕ) (b : Bool) → (refused == x) ≡ b
    → is_among allowed refused ≡ false
    → (not ((refused == x) || false) && is_among allowed x) ≡ is_among allowed x
desired_else allowed refused x true same barred =
    ap (λ (t : Bool). not (t || false) && is_among allowed x) same ∙ sym barred
    ∙ ap (is_among allowed) (eqb-true refused x same)
desired_else allowed refused x false other barred =
    ap (λ (t : Bool). not (t || false) && is_among allowed x) other

-- after a Nak of the first, the one that both have
pub common_is_next : (allowed : List ℕ) (refused kind : ℕ) (rest : List ℕ)
    → is_among allowed refused ≡ false
    → find (is_among allowed) (refused ∷ rest) ≡ Some kind
    → next_kind (refused ∷ rest) (refused ∷ []) (Some (nak_of allowed)) ≡ Some kind
unfolding next_kind nak_of
common_is_next [] refused kind rest barred common =
    cc (found_passes (is_among []) (refused ∷ rest) kind common)
common_is_next (first ∷ more) refused kind rest barred common =
    same_find (λ x. not ((refused == x) || false) && is_among (first ∷ more) x)
    (is_among (first ∷ more)) (refused ∷ rest)
    (λ x. desired_else (first ∷ more) refused x (refused == x) refl barred)
    ∙ common

-- ---- the suite

-- some suite is picked
pub record Picks (found : Option Suite) : Type 0 where
  pub suite : Suite
  pub is : found ≡ Some suite

entry : ℕ → List ℕ
entry suite = 0 ∷ 0 ∷ 0 ∷ 0 ∷ 0 ∷ suite ∷ []

neither : (allowed : List ℕ) (suite : ℕ) → ((suite == 1) || (suite == 2)) ≡ true
    → is_among allowed suite ≡ true
    → is_allowed allowed (entry suite) Cmac ≡ false
    → is_allowed allowed (entry suite) Hmac ≡ false → ⊥
unfolding entry
neither allowed suite is among not_cmac not_hmac =
    elim (either 1 2 suite is) [
      | inl e ↦ both_ways (is_allowed allowed (entry suite) Cmac) not_cmac
          (and_from _ _ ((bytes_eq-Decides (entry suite) (suite_octets Cmac)).1 (ap entry e))
          (ap (is_among allowed) (sym e) ∙ among))
      | inr e ↦ both_ways (is_allowed allowed (entry suite) Hmac) not_hmac
          (and_from _ _ ((bytes_eq-Decides (entry suite) (suite_octets Hmac)).1 (ap entry e))
          (ap (is_among allowed) (sym e) ∙ among))
    ]

pub some_picked : (allowed suites : List ℕ) → list_all (λ suite.
    (suite == 1) || (suite == 2)) suites ≡ true → list_any (is_among allowed) suites ≡ true
    → Picks (picked_suite allowed (suite_list suites))
unfolding suite_list picked_suite entry
some_picked allowed [] all any = cc
some_picked allowed (suite ∷ rest) all any =
    let both = and_parts ((suite == 1) || (suite == 2)) _ all in
    cond_both (is_allowed allowed (entry suite) Cmac) _ _ Picks
    (λ _. record { suite = Cmac; is = refl }) (λ not_cmac. cond_both
    (is_allowed allowed (entry suite) Hmac) _ _ Picks (λ _. record { suite = Hmac; is = refl })
    (λ not_hmac. elim (or_cases (is_among allowed suite) (list_any (is_among allowed) rest) any) [
      | inl here ↦ absurd (neither allowed suite both.0 here not_cmac not_hmac)
      | inr later ↦ some_picked allowed rest both.1 later
    ]))
