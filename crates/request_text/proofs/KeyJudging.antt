-- What a line asks for: it is refused with the first fault of its words, and taken where they have
-- none.
use Rattle.std.proofs.Common.{◌≡◌, ℕ, List, Option, Some, None, find, Result, Ok, Err, refl, sym}
use Rattle.std.proofs.Common.{unwrap_or, subst}
use Rattle.text_tables.specs.Words.{words}
use Rattle.text_tables.specs.Fields.{◌>>=◌}
use Rattle.text_tables.specs.Rows.{faults, unless, fault_of_words, keyword_in, first_word, line_has}
use Rattle.text_tables.specs.declared.fault.LineFault.{LineFault}
use Rattle.text_tables.proofs.Bounded.{no_fault, unless_ok, faultless_fits}
use Rattle.text_tables.proofs.Judging.{StartsAt, bad_word, judges}
use Rattle.request_text.specs.Keys.{row_of, requests, asked_of, asked_by, has_fault, HasSizes}
use Rattle.request_text.specs.Keys.{key_line}
use Rattle.request_text.specs.Laws.{RequestsAreJudged}
use Rattle.request_text.specs.declared.key_line.KeyLine.{KeyLine}
use Rattle.request_text.specs.declared.key_line.Request.{Request}
use Rattle.request_text.specs.declared.key_line.Request.TheVariants as request
use Rattle.request_text.proofs.GpskSizes.{asked_of_sizes}

-- what a line asks for, behind its request
pub asked_by_known : (line : List ℕ) (r : Request) → StartsAt row_of requests line r
    → asked_by line ≡ unless (fault_of_words (row_of r).least (row_of r).fields
    (words line)) (asked_of r (words line))
unfolding asked_by line_has fault_of_words
asked_by_known line r b = let p = b.printable in let q = b.found in rw (p, q) refl

pub asked_by_unknown : (line : List ℕ) (f : LineFault) → first_word row_of requests line ≡ Err f
    → asked_by line ≡ Err f
unfolding asked_by line_has
asked_by_unknown line f e =
    let b = bad_word row_of requests line f e in
    let bad = b.bad in
    rw (bad, b.is) refl

-- what is read has its sizes
pub request_sizes : (line : List ℕ) (asked : KeyLine) → Ok asked ≡ asked_by line → HasSizes asked
unfolding asked_by
request_sizes line asked h =
    let r = unwrap_or (keyword_in row_of requests (words line)) request.Name in
    let u = unless_ok (find (has_fault line) faults) (asked_of r (words line)) asked (sym h) in
    subst HasSizes (u.1) (asked_of_sizes r (words line)
    (faultless_fits row_of requests request.Name line (no_fault (has_fault line) (u.0))))

some_unless : {A : Type 0} (first : Option LineFault) (value : A) (answer : Result A LineFault)
    → answer ≡ unless first value → (answer >>= λ a. Ok (Some a)) ≡ unless first (Some value)
some_unless None value answer e = rw e refl
some_unless (Some f) value answer e = rw e refl

pub requests_are_judged : RequestsAreJudged
unfolding key_line asked_by
requests_are_judged line not_passed =
    let asked =
    asked_of (unwrap_or (keyword_in row_of requests (words line)) request.Name) (words line) in
    judges (key_line line) (has_fault line) (Some asked)
    (rw not_passed (some_unless (find (has_fault line) faults) asked (asked_by line) refl))
