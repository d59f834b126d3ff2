-- Texts of whole lines, none of which begins with certain octets.
use Rattle.std.proofs.Common.{◌≡◌, ℕ, zero, suc, ◌≤◌, ◌<◌, ◌+◌, ◌%◌, ◌/◌, List, [], ◌∷◌, ◌++◌, Bool}
use Rattle.std.proofs.Common.{true, false, cond, eqb, if◌then◌else◌, ◌&&◌, ◌||◌, ◌==◌, refl, sym}
use Rattle.std.proofs.Common.{ap, subst, ◌∙◌, append_assoc, arith, get_or, decimal}
use Rattle.std.proofs.lemmas.Bool.{eqb-true, ne_eqb, lt-ltb, true≢false}
use Rattle.std.specs.Fmt.{digits, digits_onto, digit_glyph}
use Rattle.hex.specs.Hex.{encode_with, encode_lower, lower_digits}
use Rattle.answer_text.specs.Lines.{HasLine, later}
use Rattle.answer_text.proofs.Scanning.{begins_with, has_mark}

pub after_test : (t next : Bool) → (if t then false else next) ≡ true → (t ≡ false) × (next ≡ true)
after_test true next e = absurd (true≢false (sym e))
after_test false next e = (refl, e)

-- no octet is an LF
abbrev pub is_within : List ℕ → Bool
is_within [] = true
is_within (o ∷ rest) = if o == 10 then false else is_within rest

module _ (bad : ℕ → Bool) where
  -- a text ends with its line, and no line begins with a bad octet
  abbrev pub plain : Bool → List ℕ → Bool
  plain begins [] = begins
  plain begins (o ∷ rest) = if begins && bad o then false else plain (o == 10) rest

  -- what is found after a plain text is found without it
  module _ (m : ℕ) (mark : List ℕ) (is_bad : bad m ≡ true) where
    unlike : (t : Bool) (o : ℕ) (text : List ℕ) → (m == o) ≡ t → bad o ≡ false
        → (t && begins_with mark text) ≡ false
    unlike true o text e h = absurd (true≢false (sym is_bad ∙ ap bad (eqb-true m o e) ∙ h))
    unlike false o text e h = refl

    not_here : (begins : Bool) (o : ℕ) (text : List ℕ) → (begins && bad o) ≡ false
        → (begins && begins_with (m ∷ mark) (o ∷ text)) ≡ false
    not_here false o text h = refl
    not_here true o text h = unlike (m == o) o text refl h

    pub over : (text rest : List ℕ) (begins : Bool) → plain begins text ≡ true
        → has_mark (m ∷ mark) begins (text ++ rest) ≡ has_mark (m ∷ mark) true rest
    over [] rest begins h = ap (λ (b : Bool). has_mark (m ∷ mark) b rest) h
    over (o ∷ text) rest begins h =
        let parts = after_test (begins && bad o) (plain (o == 10) text) h in
        ap (λ (t : Bool). t || has_mark (m ∷ mark) (o == 10) (text ++ rest)) (not_here begins o
        (text ++ rest) parts.0) ∙ over text rest (o == 10) parts.1

    -- a plain text has no line that begins with a bad octet
    pub none : (text : List ℕ) (begins : Bool) → plain begins text ≡ true
        → has_mark (m ∷ mark) begins text ≡ false
    none [] begins h = refl
    none (o ∷ text) begins h =
        let parts = after_test (begins && bad o) (plain (o == 10) text) h in
        ap (λ (t : Bool). t || has_mark (m ∷ mark) (o == 10) text) (not_here begins o text parts.0)
        ∙ none text (o == 10) parts.1

  -- plain texts, one after the other
  pub join : (text rest : List ℕ) (begins : Bool) → plain begins text ≡ true
      → plain true rest ≡ true → plain begins (text ++ rest) ≡ true
  join [] rest begins h k = ap (λ (b : Bool). plain b rest) h ∙ k
  join (o ∷ text) rest begins h k =
      let parts = after_test (begins && bad o) (plain (o == 10) text) h in
      ap (λ (t : Bool). if t then false else plain (o == 10) (text ++ rest)) parts.0
      ∙ join text rest (o == 10) parts.1 k

  -- within a line
  pub through : (piece rest : List ℕ) → is_within piece ≡ true → plain false rest ≡ true
      → plain false (piece ++ rest) ≡ true
  through [] rest h k = k
  through (o ∷ piece) rest h k =
      let parts = after_test (o == 10) (is_within piece) h in
      ap (λ (b : Bool). plain b (piece ++ rest)) parts.0 ∙ through piece rest parts.1 k

-- a line that stands after a plain text stands in both
module _ (bad : ℕ → Bool) (line : List ℕ) where
  after_octet : (ends : Bool) (o : ℕ) (passed rest : List ℕ) → (o == 10) ≡ ends
      → (ends ≡ true → HasLine line rest)
      → (ends ≡ false → HasLine line ((passed ++ (o ∷ [])) ++ rest))
      → HasLine line (passed ++ (o ∷ rest))
  after_octet true o passed rest e at_end within =
      subst (λ (x : ℕ). HasLine line (passed ++ (x ∷ rest))) (sym (eqb-true o 10 e))
      (later passed rest (at_end refl))
  after_octet false o passed rest e at_end within =
      subst (λ (x : List ℕ). HasLine line x) (append_assoc passed (o ∷ []) rest) (within refl)

  passes_from : (begins : Bool) (passed text rest : List ℕ) → (begins ≡ true → passed ≡ [])
      → plain bad begins text ≡ true → HasLine line rest
      → HasLine line (passed ++ (text ++ rest))
  passes_from true passed [] rest empty h k =
      subst (λ (x : List ℕ). HasLine line (x ++ rest)) (sym (empty refl)) k
  passes_from false passed [] rest empty h k = absurd (true≢false (sym h))
  passes_from begins passed (o ∷ text) rest empty h k =
      let next = (after_test (begins && bad o) (plain bad (o == 10) text) h).1 in
      after_octet (o == 10) o passed (text ++ rest) refl
      (λ e. passes_from true [] text rest (λ _. refl)
      (ap (λ (b : Bool). plain bad b text) (sym e) ∙ next) k)
      (λ e. passes_from false (passed ++ (o ∷ [])) text rest (λ b. absurd (true≢false (sym b)))
      (ap (λ (b : Bool). plain bad b text) (sym e) ∙ next) k)

  pub passes : (text rest : List ℕ) → plain bad true text ≡ true → HasLine line rest
      → HasLine line (text ++ rest)
  passes text rest h k = passes_from true [] text rest (λ _. refl) h k

pub skips : (t : Bool) (next : Bool) → t ≡ false → next ≡ true → (if t then false else next) ≡ true
skips true next h k = absurd (true≢false h)
skips false next h k = k

pub within_join : (piece rest : List ℕ) → is_within piece ≡ true → is_within rest ≡ true
    → is_within (piece ++ rest) ≡ true
within_join [] rest h k = k
within_join (o ∷ piece) rest h k =
    let parts = after_test (o == 10) (is_within piece) h in
    skips (o == 10) (is_within (piece ++ rest)) parts.0 (within_join piece rest parts.1 k)

-- what is found after a piece of a line is found without it
pub has_through : (mark piece rest : List ℕ) → is_within piece ≡ true
    → has_mark mark false (piece ++ rest) ≡ has_mark mark false rest
has_through mark [] rest h = refl
has_through mark (o ∷ piece) rest h =
    let parts = after_test (o == 10) (is_within piece) h in
    ap (λ (b : Bool). has_mark mark b (piece ++ rest)) parts.0 ∙ has_through mark piece rest parts.1

-- ---- octets of hex

table_within : (table : List ℕ) (i : ℕ) → is_within table ≡ true → (get_or table i 0 == 10) ≡ false
table_within [] i h = refl
table_within (o ∷ table) zero h = (after_test (o == 10) (is_within table) h).0
table_within (o ∷ table) (suc i) h =
    table_within table i (after_test (o == 10) (is_within table) h).1

pub encoded_within : (octets : List ℕ) → is_within (encode_lower octets) ≡ true
unfolding encode_with
encoded_within [] = refl
encoded_within (o ∷ octets) =
    skips _ _ (table_within lower_digits (o / 16) refl)
    (skips _ _ (table_within lower_digits (o % 16) refl) (encoded_within octets))

-- ---- numbers

abbrev AreDigits : List ℕ → Type 0
AreDigits [] = Unit {0}
AreDigits (o ∷ rest) = (48 ≤ o) × (o ≤ 57) × AreDigits rest

-- at least one digit
abbrev IsNumber : List ℕ → Type 0
IsNumber [] = ⊥
IsNumber (o ∷ rest) = AreDigits (o ∷ rest)

either_number : (t : Bool) (xs ys : List ℕ) → IsNumber xs → IsNumber ys → IsNumber (cond t xs ys)
either_number true xs ys p q = p
either_number false xs ys p q = q

glyph_is : (d : ℕ) → d < 10 → digit_glyph false d ≡ 48 + d
glyph_is d h = ap (λ (t : Bool). cond t (48 + d) (87 + d)) (lt-ltb d 10 h)

glyph_before : (n : ℕ) (acc : List ℕ) → AreDigits acc → IsNumber (digit_glyph false (n % 10) ∷ acc)
glyph_before n acc h =
    let is = glyph_is (n % 10) (omega arith) in (omega (arith, is), omega (arith, is), h)

onto_number : (k n o : ℕ) (acc : List ℕ) → IsNumber (o ∷ acc)
    → IsNumber (digits_onto k 10 false n (o ∷ acc))
onto_number zero n o acc h = h
onto_number (suc k) n o acc h =
    let more = glyph_before n (o ∷ acc) h in
    either_number (eqb (n / 10) 0) _ _ more
    (onto_number k (n / 10) (digit_glyph false (n % 10)) (o ∷ acc) more)

digits_number : (k n : ℕ) → IsNumber (digits_onto (suc k) 10 false n [])
digits_number k n =
    let first = glyph_before n [] tt in
    either_number (eqb (n / 10) 0) _ _ first
    (onto_number k (n / 10) (digit_glyph false (n % 10)) [] first)

decimal_number : (n : ℕ) → IsNumber (decimal n)
unfolding digits
decimal_number n = digits_number 63 n

digits_within : (ds : List ℕ) → AreDigits ds → is_within ds ≡ true
digits_within [] h = refl
digits_within (o ∷ ds) h =
    skips (o == 10) (is_within ds) (ne_eqb o 10 (λ e. omega (arith, h.0, e))) (digits_within ds h.2)

number_within : (ds : List ℕ) → IsNumber ds → is_within ds ≡ true
number_within [] h = refl
number_within (o ∷ ds) h = digits_within (o ∷ ds) h

pub decimal_within : (n : ℕ) → is_within (decimal n) ≡ true
decimal_within n = number_within (decimal n) (decimal_number n)

module _ (bad : ℕ → Bool) (no_digit : (o : ℕ) → 48 ≤ o → o ≤ 57 → bad o ≡ false) where
  number_first : (ds rest : List ℕ) → IsNumber ds → plain bad false rest ≡ true
      → plain bad true (ds ++ rest) ≡ true
  number_first [] rest h k = absurd h
  number_first (o ∷ ds) rest h k =
      skips (bad o) (plain bad (o == 10) (ds ++ rest)) (no_digit o h.0 h.1)
      (ap (λ (b : Bool). plain bad b (ds ++ rest)) (ne_eqb o 10 (λ e. omega (arith, h.0, e)))
      ∙ through bad ds rest (digits_within ds h.2) k)

  -- a line that begins with a number
  pub decimal_first : (n : ℕ) (rest : List ℕ) → plain bad false rest ≡ true
      → plain bad true (decimal n ++ rest) ≡ true
  decimal_first n rest k = number_first (decimal n) rest (decimal_number n) k

  -- a line in two parts
  pub numbered : (n : ℕ) (tail rest : List ℕ) → is_within tail ≡ true → plain bad false rest ≡ true
      → plain bad true ((decimal n ++ tail) ++ rest) ≡ true
  numbered n tail rest h k =
      subst (λ (text : List ℕ). plain bad true text ≡ true) (sym (append_assoc
      (decimal n) tail rest)) (decimal_first n (tail ++ rest) (through bad tail rest h k))
