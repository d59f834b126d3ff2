-- A line is refused with the first fault that it has, by its keyword, its words and its place, and
-- taken where it has none.
use Rattle.std.proofs.Common.{◌≡◌, ℕ, Bool, true, false, cond, ◌||◌, ◌&&◌, not, List, [], ◌∷◌, ◌++◌}
use Rattle.std.proofs.Common.{Option, Some, None, find, ok_or, Result, Ok, Err, IsOk, inl, inr}
use Rattle.std.proofs.Common.{refl, sym, ap, ◌∙◌}
use Rattle.std.proofs.lemmas.Bool.{cases_Bool}
use Rattle.std.proofs.lemmas.List.Elements.{All-nil, All-cons, recursion_from_All}
use Rattle.std.specs.List.{AllByRecursion}
use Rattle.std.specs.Option.{option_or}
use Rattle.text_tables.specs.Words.{words, is_printable}
use Rattle.text_tables.specs.Fields.{◌>>=◌}
use Rattle.text_tables.specs.Rows.{Row, faults, unless, fault_of_words, keyword_in, first_word}
use Rattle.text_tables.specs.Rows.{has_bad_word, line_has}
use Rattle.text_tables.specs.Laws.{IsFirstOf, Judges}
use Rattle.text_tables.specs.declared.fault.LineFault.{LineFault}
use Rattle.text_tables.specs.declared.fault.LineFault.TheVariants as fault
use Rattle.text_tables.proofs.Bounded.{no_fault, none_found}

-- a printable line that begins with a keyword
pub record StartsAt {K : Type 0} (row : K → Row) (keywords : List K) (line : List ℕ)
    (k : K) : Type 0 where
  pub printable : is_printable line ≡ true
  pub found : keyword_in row keywords (words line) ≡ Some k

-- one that doesn't
pub record IsBad {K : Type 0} (row : K → Row) (keywords : List K) (line : List ℕ)
    (f : LineFault) : Type 0 where
  pub bad : has_bad_word row keywords line ≡ true
  pub is : f ≡ fault.BadWord

found_some : {A : Type 0} (found : Option A) (f : LineFault) (a : A) → ok_or found f ≡ Ok a
    → found ≡ Some a
found_some None f a e = absurd cc
found_some (Some b) f a e = cc

found_none : {A : Type 0} (found : Option A) (f e : LineFault) → ok_or found f ≡ Err e
    → (found ≡ None) × (e ≡ f)
found_none None f e h = (refl, cc)
found_none (Some b) f e h = absurd cc

module _ {K : Type 0} (row : K → Row) (keywords : List K) (line : List ℕ) where
  pub begins : (k : K) → first_word row keywords line ≡ Ok k → StartsAt row keywords line k
  unfolding first_word
  begins k e =
      elim (cases_Bool (is_printable line)) [
        | inl p ↦ record {
          printable = p;
          found = found_some (keyword_in row keywords (words line)) fault.BadWord k (rw p at e);
        }
        | inr p ↦ let bad = rw p at e in absurd cc
      ]

  pub bad_word : (f : LineFault) → first_word row keywords line ≡ Err f → IsBad row keywords line f
  unfolding first_word
  bad_word f e =
      elim (cases_Bool (is_printable line)) [
        | inl p ↦
            let none =
            found_none (keyword_in row keywords (words line)) fault.BadWord f (rw p at e) in
            let found = none.0 in
            record { bad = rw (p, found) refl; is = none.1 }
        | inr p ↦ let bad = rw p at e in record { bad = rw p refl; is = cc }
      ]

-- the first of ten faults, of which the words have six and the place four
join : (bc c bch bn bh bs again before lacks out : Bool) →
    cond (bc || c) (Some fault.BadCount)
    (cond (bch || false) (Some fault.BadChoice) (cond (bn || false) (Some fault.BadNumber)
    (cond (bh || false) (Some fault.BadHex) (cond (bs || false) (Some fault.BadSize)
    (cond (again || before) (Some fault.Repeated)
    (cond lacks (Some fault.Missing) (cond out (Some fault.Order) None)))))))
    ≡ cond c (Some fault.BadCount) (option_or (cond bc (Some fault.BadCount)
    (cond bch (Some fault.BadChoice) (cond bn (Some fault.BadNumber) (cond bh (Some fault.BadHex)
    (cond bs (Some fault.BadSize) (cond again (Some fault.Repeated) None))))))
    (cond before (Some fault.Repeated)
    (cond lacks (Some fault.Missing) (cond out (Some fault.Order) None))))
join true true bch bn bh bs again before lacks out = refl
join true false bch bn bh bs again before lacks out = refl
join false true bch bn bh bs again before lacks out = refl
join false false true bn bh bs again before lacks out = refl
join false false false true bh bs again before lacks out = refl
join false false false false true bs again before lacks out = refl
join false false false false false true again before lacks out = refl
join false false false false false false true before lacks out = refl
join false false false false false false false before lacks out = refl

unless_either : {A B : Type 0} (c : Bool) (x y : Option LineFault) (told : B) (value : A)
    (f : B → Result A LineFault) →
    f told ≡ unless y value → unless (cond c (Some fault.BadCount) (option_or x y)) value
    ≡ cond c (Err fault.BadCount) (unless x told >>= f)
unless_either true x y told value f e = refl
unless_either false None y told value f e = sym e
unless_either false (Some g) y told value f e = refl

-- the first fault of a place; it has none of those that the words alone have
abbrev pub placed : (LineFault → Bool) → Option LineFault
placed place = cond (place fault.Repeated) (Some fault.Repeated) (cond (place fault.Missing)
    (Some fault.Missing) (cond (place fault.Order) (Some fault.Order) None))

abbrev pub IsPlace : (LineFault → Bool) → Type 0
IsPlace place =
    (place fault.NoHeader ≡ false) × (place fault.BadWord ≡ false) × (place fault.BadChoice ≡ false)
    × (place fault.BadNumber ≡ false)
    × (place fault.BadHex ≡ false) × (place fault.BadSize ≡ false)

-- a line after the first that isn't passed over
module _ {K A : Type 0} (row : K → Row) (keywords : List K) (line : List ℕ) (place : LineFault
    → Bool) (o : IsPlace place) (passed : Bool) (n : passed ≡ false) (over value : A) where
  abbrev has : LineFault → Bool
  has f = line_has row keywords line f || place f

  abbrev body : Result A LineFault
  body = cond passed (Ok over) (unless (find has faults) value)

  -- no keyword
  pub body_bad : has_bad_word row keywords line ≡ true → body ≡ Err fault.BadWord
  unfolding line_has
  body_bad h = rw (n, o.0, h) refl

  pub body_fault : (f : LineFault) → first_word row keywords line ≡ Err f → body ≡ Err f
  body_fault f e = let b = bad_word row keywords line f e in rw b.is (body_bad b.bad)

  -- else its words, and then its place
  body_known : (k : K) → StartsAt row keywords line k →
      find has faults ≡ cond (place fault.BadCount) (Some fault.BadCount) (option_or
      (fault_of_words (row k).least (row k).fields (words line)) (placed place))
  unfolding line_has fault_of_words
  body_known k b =
      rw (b.printable, b.found, o.0, o.1, o.2, o.3, o.4, o.5) (join _ _ _ _ _ _ _ _ _ _)

  pub body_words : {B : Type 0} (k : K) → StartsAt row keywords line k
      → (told : B) (f : B → Result A LineFault) → f told ≡ unless (placed place) value →
      body ≡ cond (place fault.BadCount) (Err fault.BadCount) (unless (fault_of_words (row k).least
      (row k).fields (words line)) told >>= f)
  body_words k b told f e =
      rw (n, body_known k b) (unless_either (place fault.BadCount)
      (fault_of_words (row k).least (row k).fields (words line)) (placed place) told value f e)

-- the first of a list that passes
found : (has : LineFault → Bool) (list : List LineFault) (f : LineFault) → find has list ≡ Some f
    → IsFirstOf list has f
found has [] f e = absurd cc
found has (x ∷ rest) f e =
    elim (cases_Bool (has x)) [
      | inl h ↦
          let same : x ≡ f = let here = rw h at e in cc in
          record {
            before = [];
            after = rest;
            order = ap (λ y. y ∷ rest) same;
            met = rw (← same) h;
            none_before = All-nil (λ e. has e ≡ false);
          }
      | inr h ↦
          let s = found has rest f (rw h at e) in
          record {
            before = x ∷ s.before;
            after = s.after;
            order = ap (λ l. x ∷ l) (s.order);
            met = s.met;
            none_before = All-cons (λ e. has e ≡ false) x s.before h s.none_before;
          }
    ]

first_found : (has : LineFault → Bool) (before after : List LineFault) (f : LineFault) → has f
    ≡ true → AllByRecursion (λ e. has e ≡ false) before → find has (before ++ f ∷ after) ≡ Some f
first_found has [] after f met none = rw met refl
first_found has (x ∷ before) after f met none =
    let h = none.0 in rw h (first_found has before after f met (none.1))

refused_by : {A : Type 0} (first : Option LineFault) (value : A) (f : LineFault)
    → unless first value ≡ Err f → first ≡ Some f
refused_by None value f e = absurd cc
refused_by (Some g) value f e = cc

taken_by : {A : Type 0} (first : Option LineFault) (value : A) → IsOk (unless first value)
    → first ≡ None
taken_by None value e = refl
taken_by (Some g) value e = absurd cc

pub judges : {A : Type 0} (answer : Result A LineFault) (has : LineFault → Bool) (value : A)
    → answer ≡ unless (find has faults) value → Judges answer has value
judges answer has value is = record {
  refused = λ f e. found has faults f (refused_by (find has faults) value f (sym is ∙ e));
  first = λ f s.
      let found : find has faults ≡ Some f =
      ap (find has) (s.order) ∙ first_found has (s.before) (s.after) f (s.met) (recursion_from_All
      (λ x. has x ≡ false) (s.before) (s.none_before)) in
      is ∙ ap (λ first. unless first value) found;
  taken = λ ok. no_fault has (taken_by (find has faults) value (rw is at ok));
  faultless = λ none. is ∙ ap (λ first. unless first value) (none_found has faults none);
}

-- a line after the first is passed over or not
pub body_judged : {A : Type 0} (passed : Bool) (has : LineFault → Bool) (over value : A) →
    cond passed (Ok over) (unless (find has faults) value)
    ≡ unless (find (λ f. not passed && has f) faults) (cond passed over value)
body_judged true has over value = refl
body_judged false has over value = refl
