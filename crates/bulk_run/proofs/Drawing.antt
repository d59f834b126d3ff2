-- The draws go on place by place.
use Rattle.std.proofs.Common.{◌≡◌, ℕ, zero, suc, ◌+◌, List, [], ◌∷◌, ◌++◌, length, refl, ap, ◌∙◌}
use Rattle.std.proofs.Common.{arith, add-one}
use Rattle.std.proofs.lemmas.List.{length-append}
use Rattle.bulk_run.specs.Draws.{next_state, state_at, octet_at, octets_after}

-- the first state is the number itself
pub begins : (number : ℕ) → number ≡ state_at number 0
unfolding state_at
begins number = refl

-- the next place
pub goes_on : (number place before now : ℕ) → before ≡ state_at number place
    → now ≡ next_state before → now ≡ state_at number (place + 1)
unfolding state_at
goes_on number place before now is step = rw add-one (step ∙ ap next_state is)

-- the same place by another sum
pub same_place : (number place other now : ℕ) → now ≡ state_at number place → place ≡ other
    → now ≡ state_at number other
same_place number place other now is same = is ∙ ap (state_at number) same

-- one more octet
pub one_more : (number place count : ℕ) (octets : List ℕ) (octet : ℕ)
    → octets ≡ octets_after number place count
    → octet ≡ octet_at number (place + count + 1)
    → octets ++ octet ∷ [] ≡ octets_after number place (count + 1)
unfolding octets_after
one_more number place count octets octet are is =
    let e : place + count + 1 ≡ place + suc count = omega arith in
    rw add-one (ap (λ (o : List ℕ). o ++ octet ∷ []) are
    ∙ ap (λ (x : ℕ). octets_after number place count ++ x ∷ []) (is ∙ ap (octet_at number) e))

-- so many are drawn
pub are_so_many : (number place count : ℕ) → length (octets_after number place count) ≡ count
unfolding octets_after
are_so_many number place zero = refl
are_so_many number place (suc count) =
    length-append (octets_after number place count) (octet_at number (place + suc count) ∷ [])
    ∙ let h = are_so_many number place count in omega (arith, h)

-- no octet yet
pub none_drawn : (number place : ℕ) (octets : List ℕ) → octets ≡ []
    → octets ≡ octets_after number place 0
unfolding octets_after
none_drawn number place octets is = is
