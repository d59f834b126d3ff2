-- A line of a text, step by step: it is the header, or passed over, or its keyword, its words and
-- its place decide.
use Rattle.std.proofs.Common.{◌≡◌, ℕ, Bool, true, false, cond, not, ◌||◌, List, Option, Some, None}
use Rattle.std.proofs.Common.{is_some, unwrap_or, find, Ok, Err, inl, inr, refl, sym, ap, ap₂}
use Rattle.std.proofs.Common.{subst}
use Rattle.std.proofs.lemmas.Bool.{cases_Bool, or_parts, not-false}
use Rattle.text_tables.specs.Phases.{may_occur}
use Rattle.text_tables.specs.Rows.{Row, faults, unless, first_word, line_has}
use Rattle.text_tables.specs.Texts.{AreJudged, ReadLine, Table, body_has, entry_in, has_at}
use Rattle.text_tables.specs.Texts.{place_has, read_at, read_first_line, read_body, read_line}
use Rattle.text_tables.specs.Texts.{read_words, line_of, says_at, take, word_of}
use Rattle.text_tables.specs.Words.{words, is_passed_over}
use Rattle.text_tables.specs.declared.fault.LineFault.{LineFault}
use Rattle.text_tables.specs.declared.fault.LineFault.TheVariants as fault
use Rattle.text_tables.specs.declared.phase.Phase.{Phase}
use Rattle.text_tables.specs.declared.phase.Phase.TheVariants as phase
use Rattle.text_tables.proofs.Bounded.{no_fault, none_found, unless_ok}
use Rattle.text_tables.proofs.Judging.{begins, body_fault, body_words, body_judged, judges}

-- what stands where it may has no Order
stands_or : (before missing stands : Bool) →
    cond before (Some fault.Repeated)
    (cond missing (Some fault.Missing) (cond stands None (Some fault.Order)))
    ≡ cond before (Some fault.Repeated)
    (cond missing (Some fault.Missing) (cond (not stands) (Some fault.Order) None))
stands_or before missing true = refl
stands_or before missing false = refl

module _ {K E S I : Type 0} (row : K → Row) (t : Table K E S I) where
  -- the header of a text, or none
  header_judged : (s : S) (begun : Option S) → read_first_line row t begun
      ≡ unless (cond (not (is_some begun)) (Some fault.NoHeader) None)
      (line_of t.nothing (unwrap_or begun s))
  header_judged s None = refl
  header_judged s (Some after) = refl

  module _ (s : S) (line : List ℕ) where
    -- a line that is passed over
    pub read_body_passed : is_passed_over line ≡ true
        → read_body row t s line ≡ Ok (line_of t.nothing s)
    unfolding read_body
    read_body_passed e = rw e refl

    -- the keyword is none
    pub read_body_bad : (f : LineFault) → is_passed_over line ≡ false
        → first_word row (t.keywords s) line ≡ Err f → read_body row t s line ≡ Err f
    unfolding read_body body_has
    read_body_bad f not_passed e =
        body_fault row (t.keywords s) line (place_has row t s (word_of row t s line)
        (entry_in row t s line)) (refl, refl, refl, refl, refl, refl)
        (is_passed_over line) not_passed _ _ f e

    -- else its words, and then its place
    pub read_body_words : (k : K) → is_passed_over line ≡ false
        → first_word row (t.keywords s) line ≡ Ok k
        → read_body row t s line ≡ read_words row t s k (words line)
    unfolding read_body body_has take
    read_body_words k not_passed e =
        let b = begins row (t.keywords s) line k e in
        let told = t.entry k (words line) in
        let same : k ≡ word_of row t s line =
        sym (ap (λ found. unwrap_or found t.none) (b.found)) in
        subst
        (λ w. cond (is_passed_over line) (Ok (line_of t.nothing s))
        (unless (find (λ f. line_has row (t.keywords s) line f || place_has row t s w (t.entry w
        (words line)) f) faults) (t.taken s (t.entry w (words line))))
        ≡ read_words row t s k (words line))
        same
        (body_words row (t.keywords s) line (place_has row t s k told)
        (refl, refl, refl, refl, refl, refl) (is_passed_over line) not_passed _
        (t.taken s told) k b told (take row t s)
        (ap (λ first. unless first (t.taken s told)) (stands_or (t.occurred_before s told)
        (t.is_missing s told) (may_occur (t.phase s) (t.part told)))))

    at_judged : (p : Phase) → read_at row t p s line
        ≡ unless (find (has_at row t p s line) faults) (says_at row t p s line)
    unfolding read_body
    at_judged phase.Unread = header_judged s (t.begun s line)
    at_judged other = body_judged (is_passed_over line) (body_has row t s line)
        (line_of t.nothing s) (t.taken s (entry_in row t s line))

    -- nothing keeps a line from standing where it does
    pub record MayOccur : Type 0 where
      pub few : t.is_crowded s (word_of row t s line) ≡ false
      pub fresh : t.occurred_before s (entry_in row t s line) ≡ false
      pub whole : t.is_missing s (entry_in row t s line) ≡ false
      pub stands : may_occur (t.phase s) (t.part (entry_in row t s line)) ≡ true

    -- a line after the first that is read is passed over, or has no fault and is taken
    pub data Stepped : ReadLine I S → Type 0 where
      Passed : is_passed_over line ≡ true → Stepped (line_of t.nothing s)
      Entered : is_passed_over line ≡ false
          → ((f : LineFault) → line_has row (t.keywords s) line f ≡ false) → MayOccur
          → Stepped (t.taken s (entry_in row t s line))

    may_stand : ((f : LineFault)
        → place_has row t s (word_of row t s line) (entry_in row t s line) f ≡ false) → MayOccur
    may_stand none = record {
      few = none fault.BadCount;
      fresh = none fault.Repeated;
      whole = none fault.Missing;
      stands =
          not-false (may_occur (t.phase s) (t.part (entry_in row t s line))) (none fault.Order);
    }

    no_place : MayOccur → (f : LineFault)
        → place_has row t s (word_of row t s line) (entry_in row t s line) f ≡ false
    no_place m fault.BadCount = m.few
    no_place m fault.Repeated = m.fresh
    no_place m fault.Missing = m.whole
    no_place m fault.Order = ap not (m.stands)
    no_place m other = refl

    pub stepped : (out : ReadLine I S) → read_body row t s line ≡ Ok out → Stepped out
    unfolding read_body body_has
    stepped out e =
        elim (cases_Bool (is_passed_over line)) [
          | inl k ↦
              let over : Ok (line_of t.nothing s) ≡ Ok out = rw k at e in
              let is : line_of t.nothing s ≡ out = cc in
              subst Stepped is (Passed k)
          | inr k ↦
              let u = unless_ok (find (body_has row t s line) faults)
              (t.taken s (entry_in row t s line)) out (rw k at e) in
              let none : (f : LineFault) → body_has row t s line f ≡ false =
              no_fault (body_has row t s line) (u.0) in
              subst Stepped (u.1)
              (Entered k (λ f. (or_parts (line_has row (t.keywords s) line f) _ (none f)).0)
              (may_stand (λ f. (or_parts (line_has row (t.keywords s) line f) _ (none f)).1)))
        ]

    -- and what has no fault is taken
    pub enters : is_passed_over line ≡ false
        → ((f : LineFault) → line_has row (t.keywords s) line f ≡ false) → MayOccur
        → read_body row t s line ≡ Ok (t.taken s (entry_in row t s line))
    unfolding read_body body_has
    enters k own m =
        let none : find (body_has row t s line) faults ≡ None = none_found (body_has row t s
        line) faults (λ f. ap₂ (λ a b. a || b) (own f) (no_place m f)) in
        rw (k, none) refl

  pub are_judged : AreJudged row t
  unfolding read_line
  are_judged s line =
      judges (read_line row t s line) (has_at row t (t.phase s) s line)
      (says_at row t (t.phase s) s line) (at_judged s line (t.phase s))
