-- The lines of an input are its pieces, up to the first octet past a limit.
use Rattle.std.proofs.Common.{◌≡◌, ℕ, ◌+◌, ◌<◌, ◌≤◌, true, false, not, ◌&&◌, cond, List, [], ◌∷◌}
use Rattle.std.proofs.Common.{◌++◌, length, eqb, leb, refl, ap, ◌∙◌, sym, arith, inl, inr}
use Rattle.std.proofs.Common.{append_assoc, append-nil, length-append}
use Rattle.std.proofs.lemmas.Bool.{leb-true, leb-false, le-leb, lt-leb, and_parts, and_from}
use Rattle.std.proofs.lemmas.Bool.{cases_Bool, cond_both}
use Rattle.std.specs.List.{onto_first}
use Rattle.octet_io.specs.Lines.{Lines, lines_from, without_cr}
use Rattle.octet_io.specs.Lines.Lines.{too_long, too_much, line}
use Rattle.octet_io.specs.Cutting.{pieces, last_of, whole_lines, last_line, pieces_bounded}
use Rattle.octet_io.specs.Cutting.{is_within, FirstPast, is_past_line, LinesAreThePieces}
use Rattle.octet_io.specs.Cutting.{LinesEndAtALimit, SomeOctetIsPast}

-- there is always a piece
abbrev Filled : List (List ℕ) → Type 0
Filled [] = ⊥
Filled (p ∷ ps) = Unit {0}

onto_first_filled : (x : ℕ) (ps : List (List ℕ)) → Filled (onto_first x ps)
onto_first_filled x [] = tt
onto_first_filled x (p ∷ ps) = tt

pieces_filled : (octets : List ℕ) → Filled (pieces octets)
pieces_filled [] = tt
pieces_filled (x ∷ rest) = cond_both (eqb x 10) ([] ∷ pieces rest) (onto_first x (pieces rest))
    Filled (λ e. tt) (λ e. onto_first_filled x (pieces rest))

-- the pieces of two lists, one behind the other
abbrev joined : List (List ℕ) → List (List ℕ) → List (List ℕ)
joined [] qs = qs
joined (p ∷ []) [] = p ∷ []
joined (p ∷ []) (q ∷ qs) = (p ++ q) ∷ qs
joined (p ∷ r ∷ ps) qs = p ∷ joined (r ∷ ps) qs

joined_none : (qs : List (List ℕ)) → Filled qs → qs ≡ joined ([] ∷ []) qs
joined_none [] some = absurd some
joined_none (q ∷ qs) some = refl

joined_cons : (p : List ℕ) (ps qs : List (List ℕ)) → Filled ps
    → p ∷ joined ps qs ≡ joined (p ∷ ps) qs
joined_cons p [] qs some = absurd some
joined_cons p (r ∷ ps) qs some = refl

joined_onto : (x : ℕ) (ps qs : List (List ℕ)) → Filled ps
    → onto_first x (joined ps qs) ≡ joined (onto_first x ps) qs
joined_onto x [] qs some = absurd some
joined_onto x (p ∷ []) [] some = refl
joined_onto x (p ∷ []) (q ∷ qs) some = refl
joined_onto x (p ∷ r ∷ ps) qs some = refl

pieces_append : (front rest : List ℕ) → pieces (front ++ rest) ≡ joined (pieces front) (pieces rest)
pieces_append [] rest = joined_none (pieces rest) (pieces_filled rest)
pieces_append (x ∷ front) rest =
    let on = pieces_append front rest in
    elim (cases_Bool (eqb x 10)) [
      | inl e ↦ rw (e, on) (joined_cons [] (pieces front) (pieces rest) (pieces_filled front))
      | inr e ↦ rw (e, on) (joined_onto x (pieces front) (pieces rest) (pieces_filled front))
    ]

-- an LF ends a piece that is begun, another octet goes on with it
pieces_lf : (begun front : List ℕ) (x : ℕ) → pieces begun ≡ begun ∷ [] → eqb x 10 ≡ true
    → pieces (begun ++ x ∷ front) ≡ begun ∷ pieces front
pieces_lf begun front x one e =
    pieces_append begun (x ∷ front) ∙ rw (one, e) (ap (λ p. p ∷ pieces front) (append-nil begun))

pieces_more : (begun : List ℕ) (x : ℕ) → pieces begun ≡ begun ∷ [] → eqb x 10 ≡ false
    → pieces (begun ++ x ∷ []) ≡ (begun ++ x ∷ []) ∷ []
pieces_more begun x one e = pieces_append begun (x ∷ []) ∙ rw (one, e) refl

-- a line of which more comes has room
fits_first : (p : List ℕ) (ps : List (List ℕ)) → pieces_bounded (p ∷ ps) ≡ true → length p ≤ 4096
fits_first p ps fit =
    leb-true (length p) 4096 (and_parts (leb (length p) 4096) (pieces_bounded ps) fit).0

room_onto : (begun : List ℕ) (x : ℕ) (ps : List (List ℕ))
    → pieces_bounded (joined (begun ∷ []) (onto_first x ps)) ≡ true → length begun < 4096
room_onto begun x [] fit =
    omega (arith, fits_first (begun ++ x ∷ []) [] fit, length-append begun (x ∷ []))
room_onto begun x (q ∷ qs) fit =
    omega (arith, fits_first (begun ++ x ∷ q) qs fit, length-append begun (x ∷ q))

room : (begun front : List ℕ) (x : ℕ) → pieces begun ≡ begun ∷ [] → eqb x 10 ≡ false
    → pieces_bounded (pieces (begun ++ x ∷ front)) ≡ true → length begun < 4096
room begun front x one e fit =
    let is : pieces (begun ++ x ∷ front) ≡ joined (begun ∷ []) (onto_first x (pieces front)) =
    pieces_append begun (x ∷ front) ∙ rw (one, e) refl in
    room_onto begun x (pieces front) (rw is at fit)

-- one octet of the definition
from_lf : (taken : ℕ) (begun rest : List ℕ) (x : ℕ) → eqb x 10 ≡ true → taken < 16777216
    → lines_from taken begun (x ∷ rest) ≡ line (without_cr begun) (lines_from (taken + 1) [] rest)
unfolding lines_from
from_lf taken begun rest x e few =
    let more : leb 16777216 taken ≡ false = lt-leb 16777216 taken few in rw (e, more) refl

from_octet : (taken : ℕ) (begun rest : List ℕ) (x : ℕ)
    → eqb x 10 ≡ false → length begun < 4096 → taken < 16777216 → lines_from taken begun (x ∷ rest)
    ≡ lines_from (taken + 1) (begun ++ x ∷ []) rest
unfolding lines_from
from_octet taken begun rest x e short few =
    let fits : leb 4096 (length begun) ≡ false = lt-leb 4096 (length begun) short in
    let more : leb 16777216 taken ≡ false = lt-leb 16777216 taken few in
    rw (e, fits, more) refl

whole_lines_cons : (p : List ℕ) (ps : List (List ℕ)) (then_these : Lines) → Filled ps
    → line (without_cr p) (whole_lines ps then_these) ≡ whole_lines (p ∷ ps) then_these
whole_lines_cons p [] then_these some = absurd some
whole_lines_cons p (q ∷ qs) then_these some = refl

last_of_cons : (p : List ℕ) (ps : List (List ℕ)) → Filled ps → last_of (p ∷ ps) ≡ last_of ps
last_of_cons p [] some = absurd some
last_of_cons p (q ∷ qs) some = refl

-- octets within the limits are lines, and the last piece is begun where they end
run : (taken : ℕ) (begun front rest : List ℕ) → pieces begun ≡ begun ∷ []
    → taken + length front ≤ 16777216 → pieces_bounded (pieces (begun ++ front)) ≡ true
    → lines_from taken begun (front ++ rest) ≡ whole_lines (pieces (begun ++ front)) (lines_from
    (taken + length front) (last_of (pieces (begun ++ front))) rest)
run taken begun [] rest one few fit =
    let here : taken + 0 ≡ taken = omega arith in
    rw (append-nil begun, one, here) refl
run taken begun (x ∷ front) rest one few fit =
    let there : taken + length (x ∷ front) ≡ taken + 1 + length front = omega arith in
    elim (cases_Bool (eqb x 10)) [
      | inl e ↦
          let is = pieces_lf begun front x one e in
          let some = pieces_filled front in
          let on = run (taken + 1) [] front rest refl (omega arith) ((and_parts
          (leb (length begun) 4096) (pieces_bounded (pieces front)) (rw is at fit)).1) in
          from_lf taken begun (front ++ rest) x e (omega arith) ∙ ap (line (without_cr begun)) on
          ∙ rw (is, there, last_of_cons begun (pieces front) some)
          (whole_lines_cons begun (pieces front) _ some)
      | inr e ↦
          let is : (begun ++ x ∷ []) ++ front ≡ begun ++ x ∷ front =
          append_assoc begun (x ∷ []) front in
          let on = run (taken + 1) (begun ++ x ∷ []) front rest (pieces_more begun x one e)
          (omega arith) (rw is fit) in
          from_octet taken begun (front ++ rest) x e (room begun front x one e fit) (omega arith)
          ∙ on ∙ rw (is, there) refl
    ]

-- the same from the begin of the input
record Within (octets : List ℕ) : Type 0 where
  pub few : length octets ≤ 16777216
  pub fit : pieces_bounded (pieces octets) ≡ true

within_from : (octets : List ℕ) → is_within octets ≡ true → Within octets
unfolding is_within
within_from octets e =
    let parts = and_parts (leb (length octets) 16777216) (pieces_bounded (pieces octets)) e in
    record { few = leb-true (length octets) 16777216 (parts.0); fit = parts.1 }

within_is : (octets : List ℕ) → length octets ≤ 16777216 → pieces_bounded (pieces octets) ≡ true
    → is_within octets ≡ true
unfolding is_within
within_is octets few fit = and_from (leb (length octets) 16777216) (pieces_bounded (pieces octets))
    (le-leb (length octets) 16777216 few) fit

run_all : (front rest : List ℕ) → Within front → lines_from 0 [] (front ++ rest)
    ≡ whole_lines (pieces front) (lines_from (length front) (last_of (pieces front)) rest)
run_all front rest w =
    let here : 0 + length front ≡ length front = omega arith in
    run 0 [] front rest refl (omega (arith, w.few)) (w.fit) ∙ rw here refl

from_end : (taken : ℕ) (begun : List ℕ) → lines_from taken begun [] ≡ last_line begun
unfolding lines_from
from_end taken [] = refl
from_end taken (b ∷ begun) = refl

pub lines_are_the_pieces : LinesAreThePieces
lines_are_the_pieces octets e =
    let all = run_all octets [] (within_from octets e) in
    ap (lines_from 0 []) (sym (append-nil octets)) ∙ all
    ∙ ap (whole_lines (pieces octets)) (from_end (length octets) (last_of (pieces octets)))

-- one more octet keeps within the limit of a line, but where it is past it
more_fits : (x : ℕ) (ps : List (List ℕ)) → Filled ps
    → pieces_bounded ps ≡ true → (not (eqb x 10) && leb 4096 (length (last_of ps))) ≡ false
    → pieces_bounded (joined ps (pieces (x ∷ []))) ≡ true
more_fits x [] some fit in_line = absurd some
more_fits x (p ∷ q ∷ ps) some fit in_line =
    let parts = and_parts (leb (length p) 4096) (pieces_bounded (q ∷ ps)) fit in
    and_from (leb (length p) 4096) _ (parts.0) (more_fits x (q ∷ ps) tt (parts.1) in_line)
more_fits x (p ∷ []) some fit in_line =
    elim (cases_Bool (eqb x 10)) [
      | inl e ↦ rw (e, append-nil p) fit
      | inr e ↦
          let short : length p < 4096 = leb-false 4096 (length p) (rw e at in_line) in
          let small : leb (length (p ++ x ∷ [])) 4096 ≡ true =
          le-leb (length (p ++ x ∷ [])) 4096 (omega (arith, length-append p (x ∷ []))) in
          rw (e, small) refl
    ]

-- the first octet past a limit ends the lines
from_past : (taken : ℕ) (begun rest : List ℕ) (x : ℕ) → ((not (eqb x 10) && leb 4096 (length begun))
    ≡ false → leb 16777216 taken ≡ true) → lines_from taken begun (x ∷ rest)
    ≡ cond (not (eqb x 10) && leb 4096 (length begun)) too_long too_much
unfolding lines_from
from_past taken begun rest x much =
    elim (cases_Bool (not (eqb x 10) && leb 4096 (length begun))) [
      | inl e ↦ rw e refl
      | inr e ↦ let full = much e in rw (e, full) refl
    ]

past_much : (front : List ℕ) (x : ℕ) → Within front → is_within (front ++ x ∷ []) ≡ false
    → is_past_line front x ≡ false → leb 16777216 (length front) ≡ true
past_much front x w past in_line =
    elim (cases_Bool (leb 16777216 (length front))) [
      | inl e ↦ e
      | inr e ↦
          let few : length front < 16777216 = leb-false 16777216 (length front) e in
          let fit = more_fits x (pieces front) (pieces_filled front) (w.fit) in_line in
          let within = within_is (front ++ x ∷ []) (omega (arith, length-append front (x ∷ [])))
          (rw (pieces_append front (x ∷ [])) fit) in
          cc
    ]

pub lines_end_at_a_limit : LinesEndAtALimit
lines_end_at_a_limit octets at =
    let w = within_from (at.front) (at.within) in
    ap (lines_from 0 []) (at.joined) ∙ run_all (at.front) (at.octet ∷ at.rest) w
    ∙ ap (whole_lines (pieces at.front)) (from_past (length at.front) (last_of (pieces at.front))
    (at.rest) (at.octet) (past_much (at.front) (at.octet) w (at.past)))

-- the first octet past a limit, behind octets that are within them
first_past : (front octets : List ℕ) → is_within front ≡ true → is_within (front ++ octets) ≡ false
    → FirstPast (front ++ octets)
first_past front [] within past = let same = append-nil front in absurd cc
first_past front (x ∷ rest) within past =
    let is : (front ++ x ∷ []) ++ rest ≡ front ++ x ∷ rest = append_assoc front (x ∷ []) rest in
    elim (cases_Bool (is_within (front ++ x ∷ []))) [
      | inl e ↦ rw (← is) (first_past (front ++ x ∷ []) rest e (rw is past))
      | inr e ↦
          record { front = front; octet = x; rest = rest; joined = refl; within = within; past = e }
    ]

within_none : is_within [] ≡ true
unfolding is_within
within_none = refl

pub some_octet_is_past : SomeOctetIsPast
some_octet_is_past octets past = first_past [] octets within_none past
