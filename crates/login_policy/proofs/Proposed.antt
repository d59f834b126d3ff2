-- The Types that a server has proposed are of its order, each at most once: so there are fewer of
-- them than the order has where one isn't proposed yet.
use Rattle.std.proofs.Common.{◌≡◌, ℕ, ◌≤◌, ◌<◌, suc, List, [], ◌∷◌, ◌++◌, length, Bool, true, false}
use Rattle.std.proofs.Common.{Option, None, Some, refl, sym, ap, ◌∙◌, arith, inl, inr}
use Rattle.std.proofs.Common.{length-append}
use Rattle.std.specs.Prelude.{◌==◌, ◌||◌, not, if◌then◌else◌, IsSome}
use Rattle.std.specs.List.{list_all}
use Rattle.std.proofs.lemmas.Bool.{cases_Bool, and_parts, and_from, or_parts, eqb-true, eqb-false}
use Rattle.std.proofs.lemmas.Bool.{ne_eqb, not-true, cond-true, cond-false}
use Rattle.octet_lists.specs.Among.{is_among, are_distinct}
use Rattle.login_policy.specs.Policy.{next_kind}
use Rattle.login_policy.proofs.Choices.{next_is_ordered, next_is_unproposed}

or_rest : (a b : Bool) → a ≡ false → (a || b) ≡ true → b ≡ true
or_rest true b e both = absurd cc
or_rest false b e both = both

-- ---- the order without a Type of it

without : ℕ → List ℕ → List ℕ
without x [] = []
without x (y ∷ rest) = if y == x then rest else y ∷ without x rest

without_shorter : (x : ℕ) (order : List ℕ) → is_among order x ≡ true
    → length order ≡ suc (length (without x order))
unfolding without
without_shorter x [] among = absurd cc
without_shorter x (y ∷ rest) among = elim (cases_Bool (y == x)) [
  | inl is ↦ ap (λ (l : List ℕ). suc (length l)) (sym (cond-true _ _ _ is))
  | inr is ↦ ap suc (without_shorter x rest (or_rest (y == x) (is_among rest x) is among))
      ∙ ap (λ (l : List ℕ). suc (length l)) (sym (cond-false _ _ _ is))
]

still_among : (x z : ℕ) (order : List ℕ) → (x == z) ≡ false → is_among order z ≡ true
    → is_among (without x order) z ≡ true
unfolding without
still_among x z [] other among = among
still_among x z (y ∷ rest) other among = elim (cases_Bool (y == x)) [
  | inl is ↦ rw (cond-true (y == x) rest (y ∷ without x rest) is)
      (or_rest (y == z) (is_among rest z) (ap (λ (n : ℕ). n == z) (eqb-true y x is) ∙ other) among)
  | inr is ↦ rw (cond-false (y == x) rest (y ∷ without x rest) is)
      (still_in (y == z) (is_among rest z) (is_among (without x rest) z) (still_among x z rest other)
      among)
]
  where
    still_in : (a b c : Bool) → (b ≡ true → c ≡ true) → (a || b) ≡ true → (a || c) ≡ true
    still_in true b c h e = refl
    still_in false b c h e = h e

still_all : (x : ℕ) (order proposed : List ℕ) → is_among proposed x ≡ false
    → list_all (is_among order) proposed ≡ true
    → list_all (is_among (without x order)) proposed ≡ true
still_all x order [] absent ordered = refl
still_all x order (z ∷ rest) absent ordered =
    let apart = or_parts (z == x) (is_among rest x) absent in
    let both = and_parts (is_among order z) (list_all (is_among order) rest) ordered in
    and_from (is_among (without x order) z) (list_all (is_among (without x order)) rest)
    (still_among x z order (ne_eqb x z (λ same. eqb-false z x apart.0 (sym same))) both.0)
    (still_all x order rest apart.1 both.1)

-- distinct Types of an order are at most as many as it has
few_of_order : (order proposed : List ℕ) → are_distinct proposed ≡ true
    → list_all (is_among order) proposed ≡ true → length proposed ≤ length order
few_of_order order [] once ordered = omega arith
few_of_order order (x ∷ rest) once ordered =
    let apart = and_parts (not (is_among rest x)) (are_distinct rest) once in
    let both = and_parts (is_among order x) (list_all (is_among order) rest) ordered in
    let less = few_of_order (without x order) rest apart.1
    (still_all x order rest (not-true (is_among rest x) apart.0) both.1) in
    omega (arith, less, without_shorter x order both.0)

-- ---- one Type more

pub distinct_grow : (proposed : List ℕ) (kind : ℕ) → are_distinct proposed ≡ true
    → is_among proposed kind ≡ false → are_distinct (proposed ++ kind ∷ []) ≡ true
distinct_grow [] kind once unproposed = refl
distinct_grow (x ∷ rest) kind once unproposed =
    let apart = and_parts (not (is_among rest x)) (are_distinct rest) once in
    let fresh = or_parts (x == kind) (is_among rest kind) unproposed in
    and_from (not (is_among (rest ++ kind ∷ []) x)) (are_distinct (rest ++ kind ∷ []))
    (ap not (unlike rest x kind (not-true (is_among rest x) apart.0)
    (ne_eqb kind x (λ same. eqb-false x kind fresh.0 (sym same)))))
    (distinct_grow rest kind apart.1 fresh.1)
  where
    unlike : (rest : List ℕ) (x kind : ℕ) → is_among rest x ≡ false → (kind == x) ≡ false
        → is_among (rest ++ kind ∷ []) x ≡ false
    unlike [] x kind absent other = rw other refl
    unlike (y ∷ rest) x kind absent other =
        let parts = or_parts (y == x) (is_among rest x) absent in
        rw parts.0 (unlike rest x kind parts.1 other)

pub ordered_grow : (order proposed : List ℕ) (kind : ℕ) → list_all (is_among order) proposed ≡ true
    → is_among order kind ≡ true → list_all (is_among order) (proposed ++ kind ∷ []) ≡ true
ordered_grow order [] kind ordered is = rw is refl
ordered_grow order (x ∷ rest) kind ordered is =
    let both = and_parts (is_among order x) (list_all (is_among order) rest) ordered in
    and_from (is_among order x) (list_all (is_among order) (rest ++ kind ∷ [])) both.0
    (ordered_grow order rest kind both.1 is)

-- the next Type finds room among those proposed
pub next_has_capacity : (order proposed : List ℕ) (nak : Option (List ℕ)) (next : Option ℕ)
    → next ≡ next_kind order proposed nak → length order ≤ 2 → IsSome next
    → are_distinct proposed ≡ true → list_all (is_among order) proposed ≡ true
    → length proposed < 2
next_has_capacity order proposed nak None is few some once ordered = absurd (cc some)
next_has_capacity order proposed nak (Some kind) is few some once ordered =
    let count = few_of_order order (proposed ++ kind ∷ [])
    (distinct_grow proposed kind once (next_is_unproposed order proposed nak kind (sym is)))
    (ordered_grow order proposed kind ordered
    (next_is_ordered order proposed nak kind (sym is))) in
    omega (arith, count, few, length-append proposed (kind ∷ []))
