-- The first of a list of faults, and what the words of a line without one are.
use Rattle.text_tables.specs.Fields.{word_in, number, is_decimal, spells_number, octets_of}
use Rattle.text_tables.specs.IsValidRow.{IsFaultlessAt, AreFaultless, IsNumber, IsValidField, Where}
use Rattle.text_tables.specs.IsValidRow.{AreValidFields, IsValidRow}
use Rattle.text_tables.specs.Rows.{faults, unless, Row, is_within, field_has, any_has, words_have}
use Rattle.text_tables.specs.Rows.{fault_of_words, keyword_in, line_has}
use Rattle.text_tables.specs.Words.{words, is_printable}
use Rattle.text_tables.specs.declared.fault.LineFault.TheVariants as fault
use Rattle.text_tables.specs.declared.fault.LineFault.{LineFault}
use Rattle.text_tables.specs.declared.rows.Field.TheVariants as field
use Rattle.text_tables.specs.declared.rows.Field.{Field}
use Rattle.std.proofs.Common.{◌≡◌, Bool, true, false, List, [], ◌∷◌, Option, Some, None, find, cond}
use Rattle.std.proofs.Common.{Ok, refl, ℕ, ◌+◌, ◌-◌, ◌<◌, ◌≤◌, not, ◌&&◌, ◌||◌, length, unwrap_or}
use Rattle.std.proofs.Common.{leb, ltb, arith}
use Rattle.std.proofs.lemmas.Bool.{leb-true, leb-false, ltb-false, lt-ltb, and_parts, or_parts}
use Rattle.std.proofs.lemmas.Bool.{not-false}

abbrev AllFail : {X : Type 0} → (X → Bool) → List X → Type 0
AllFail p [] = Unit {0}
AllFail p (x ∷ xs) = (p x ≡ false) × AllFail p xs

fail_from : {X : Type 0} (b : Bool) (x : X) (found : Option X) (Rest : Type 0)
    → (found ≡ None → Rest) → cond b (Some x) found ≡ None → (b ≡ false) × Rest
fail_from true x found Rest rest e = absurd cc
fail_from false x found Rest rest e = (refl, rest e)

find_none : {X : Type 0} (p : X → Bool) (xs : List X) → find p xs ≡ None → AllFail p xs
find_none p [] e = tt
find_none p (x ∷ xs) e = fail_from (p x) x (find p xs) (AllFail p xs) (find_none p xs) e

-- no fault at all
pub no_fault : (p : LineFault → Bool) → find p faults ≡ None → (f : LineFault) → p f ≡ false
no_fault p e fault.NoHeader = (find_none p faults e).0
no_fault p e other = assumption (find_none p faults e)

pub none_found : (p : LineFault → Bool) (list : List LineFault) → ((f : LineFault) → p f ≡ false)
    → find p list ≡ None
none_found p [] none = refl
none_found p (x ∷ rest) none = let h = none x in rw h (none_found p rest none)

-- a value that no fault keeps back
pub unless_ok : {A : Type 0} (first : Option LineFault) (value out : A)
    → unless first value ≡ Ok out → (first ≡ None) × (value ≡ out)
unless_ok None value out e = (refl, cc)
unless_ok (Some f) value out e = absurd cc

record Between (count low high : ℕ) : Type 0 where
  pub least : low ≤ count
  pub most : count ≤ high

within : (count low high : ℕ) → not (is_within count low high) ≡ false → Between count low high
within count low high e =
    let parts =
    and_parts (leb low count) (leb count high) (not-false (is_within count low high) e) in
    record { least = leb-true low count (parts.0); most = leb-true count high (parts.1) }

number_fits : (low high : ℕ) (word : List ℕ) → not (spells_number word low high) ≡ false
    → IsNumber low high word
unfolding spells_number
number_fits low high word e =
    let n = number word in
    let parts = and_parts (is_decimal word && leb low n) (leb n high)
    (not-false (is_decimal word && leb low n && leb n high) e) in
    record {
      least = leb-true low n ((and_parts (is_decimal word) (leb low n) (parts.0)).1);
      most = leb-true n high (parts.1);
    }

field_fits : (f : Field) (place : ℕ) (ws : List (List ℕ)) → IsFaultlessAt f place ws
    → IsValidField f place ws
field_fits (field.Choice c) place ws h = not-false _ (h fault.BadChoice)
field_fits (field.Number low high) place ws h =
    number_fits low high (word_in ws place) (h fault.BadNumber)
field_fits (field.OtherKind p) place ws h =
    record { spelled = not-false _ (h fault.BadNumber); differs = h fault.Repeated }
field_fits (field.OtherSuite p) place ws h =
    record { spelled = not-false _ (h fault.BadNumber); differs = h fault.Repeated }
field_fits field.Name place ws h = let b = within (length (word_in ws place)) 1 253
    (h fault.BadSize) in record { some = b.least; few = b.most }
field_fits (field.Hex low high) place ws h =
    let b = within (length (octets_of (word_in ws place))) low high (h fault.BadSize) in
    record { hex = not-false _ (h fault.BadHex); least = b.least; most = b.most }
field_fits (field.Key p) place ws h =
    record { hex = not-false _ (h fault.BadHex); fits = not-false _ (h fault.BadSize) }
field_fits other place ws h = not-false _ (h fault.BadNumber)

there : (place count : ℕ) (b : Bool) → place < count → (ltb place count && b) ≡ false → b ≡ false
there place count b h e = let is : ltb place count ≡ true = lt-ltb place count h in rw is at e

first_fits : (f : Field) (rest : List Field) (place : ℕ) (ws : List (List ℕ))
    → AreFaultless (f ∷ rest) place ws → place < length ws → IsValidField f place ws
first_fits f rest place ws h in_line =
    field_fits f place ws (λ e. there place (length ws) _ in_line ((or_parts _ _ (h e)).0))

where_by : (b : Bool) (There IsValidRow : Type 0) → (b ≡ true → There) → (There → IsValidRow)
    → Where b There IsValidRow
where_by true There IsValidRow always fits = fits (always refl)
where_by false There IsValidRow always fits = fits

fields_fit : (least place : ℕ) (fields : List Field) (ws : List (List ℕ)) → least < length ws
    → AreFaultless fields place ws → AreValidFields least place fields ws
fields_fit least place [] ws some h = tt
fields_fit least place (f ∷ rest) ws some h = (
  where_by (leb place least) (place < length ws) (IsValidField f place ws)
      (λ e. omega (arith, leb-true place least e)) (first_fits f rest place ws h),
  fields_fit least (place + 1) rest ws some (λ e. (or_parts _ _ (h e)).1),
)

neither : (b : Bool) → (b && false || false) ≡ false
neither true = refl
neither false = refl

none_at : (e : LineFault) (place : ℕ) (fields : List Field) (ws : List (List ℕ))
    → ((f : Field) (p : ℕ) → field_has e f p ws ≡ false) → any_has e place fields ws ≡ false
none_at e place [] ws none = refl
none_at e place (f ∷ rest) ws none = let here = none f place in let more =
    none_at e (place + 1) rest ws none in rw (here, more) (neither (ltb place (length ws)))

of_words : (r : Row) (ws : List (List ℕ))
    → ((f : LineFault) → words_have r.least r.fields ws f ≡ false) → AreFaultless r.fields 1 ws
of_words r ws none fault.NoHeader = none_at fault.NoHeader 1 r.fields ws (λ f p. refl)
of_words r ws none fault.BadWord = none_at fault.BadWord 1 r.fields ws (λ f p. refl)
of_words r ws none fault.BadCount = none_at fault.BadCount 1 r.fields ws (λ f p. refl)
of_words r ws none fault.Missing = none_at fault.Missing 1 r.fields ws (λ f p. refl)
of_words r ws none fault.Order = none_at fault.Order 1 r.fields ws (λ f p. refl)
of_words r ws none other = none other

words_fit : (r : Row) (ws : List (List ℕ))
    → ((f : LineFault) → words_have r.least r.fields ws f ≡ false) → IsValidRow r ws
words_fit r ws none =
    let count = or_parts (leb (length ws) r.least) (ltb (length r.fields) (length ws - 1))
    (none fault.BadCount) in
    let some : r.least < length ws = leb-false (length ws) r.least (count.0) in
    let few : length ws - 1 ≤ length r.fields =
    ltb-false (length r.fields) (length ws - 1) (count.1) in
    record {
      least = some;
      most = omega arith;
      fields = fields_fit r.least 1 r.fields ws some (of_words r ws none);
    }

pub fits : (r : Row) (ws : List (List ℕ)) → fault_of_words r.least r.fields ws ≡ None
    → IsValidRow r ws
unfolding fault_of_words
fits r ws e = words_fit r ws (no_fault (words_have r.least r.fields ws) e)

-- the words of a line without a fault fit the row of its keyword
module _ {K : Type 0} (row : K → Row) (keywords : List K) (default : K) (line : List ℕ) where
  words_none : (k : K) → keyword_in row keywords (words line) ≡ Some k
      → ((f : LineFault) → line_has row keywords line f ≡ false) →
      (f : LineFault) → words_have (row k).least (row k).fields (words line) f ≡ false
  unfolding line_has
  words_none k e own fault.NoHeader = refl
  words_none k e own fault.BadWord = refl
  words_none k e own other = rw e at (own other)

  found_fits : (found : Option K) → keyword_in row keywords (words line) ≡ found
      → ((f : LineFault) → line_has row keywords line f ≡ false)
      → IsValidRow (row (unwrap_or found default)) (words line)
  unfolding line_has
  found_fits None e own =
      let bad = (or_parts (not (is_printable line)) _ (rw e at (own fault.BadWord))).1 in absurd cc
  found_fits (Some k) e own = words_fit (row k) (words line) (words_none k e own)

  pub faultless_fits : ((f : LineFault) → line_has row keywords line f ≡ false)
      → IsValidRow (row (unwrap_or (keyword_in row keywords (words line)) default)) (words line)
  faultless_fits = found_fits (keyword_in row keywords (words line)) refl
