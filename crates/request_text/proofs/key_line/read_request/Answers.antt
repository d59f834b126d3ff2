-- A line asks for nothing, or for what its request makes of its words.
use Rattle.std.proofs.Common.{◌≡◌, Some, None, Ok, refl, ap, ◌∙◌, sym}
use Rattle.text_tables.specs.Words.{words}
use Rattle.text_tables.specs.Rows.{fault_of_words}
use Rattle.request_text.specs.Keys.{row_of, requests}
use Rattle.text_tables.proofs.Bounded.{fits}
use Rattle.text_tables.proofs.Judging.{begins}
use Rattle.request_text.proofs.KeyJudging.{asked_by_known, asked_by_unknown}
use Rattle.request_text.proofs.key_line.read_request.Goals as goal

pub returns-in-Err-clause-value : goal.returns-in-Err-clause-value
returns-in-Err-clause-value c =
    sym (asked_by_unknown c.args.line.now c.in-Err.fault (sym c.read_keyword.ensures ∙ c.in-Err.is))

pub ask-requires : goal.ask-requires
ask-requires c =
    let r = c.in-Ok.request in
    let none : fault_of_words (row_of r).least (row_of r).fields (words c.args.line.now)
    ≡ None = cc in
    fits (row_of r) (words c.args.line.now) none

pub returns-in-Some-clause-value : goal.returns-in-Some-clause-value
returns-in-Some-clause-value c =
    let r = c.in-Ok.request in
    let first : fault_of_words (row_of r).least (row_of r).fields (words c.args.line.now)
    ≡ Some c.in-Some.fault = cc in
    sym (asked_by_known c.args.line.now r (begins row_of requests c.args.line.now r
    (sym c.read_keyword.ensures ∙ c.in-Ok.is)) ∙ rw first refl)

pub returns-in-None-clause-value : goal.returns-in-None-clause-value
returns-in-None-clause-value c =
    let r = c.in-Ok.request in
    let none : fault_of_words (row_of r).least (row_of r).fields (words c.args.line.now)
    ≡ None = cc in
    ap Ok c.ask.ensures ∙ sym (asked_by_known c.args.line.now r (begins row_of requests
    c.args.line.now r (sym c.read_keyword.ensures ∙ c.in-Ok.is)) ∙ rw none refl)
