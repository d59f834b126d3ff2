-- A line is passed over, or begins with no keyword, or is what its words and its place make of it.
use Rattle.std.proofs.Common.{ap, sym, Ok, ◌∙◌}
use Rattle.text_tables.specs.Texts.{line_of}
use Rattle.text_tables.proofs.Reading.{read_body_passed, read_body_bad, read_body_words}
use Rattle.text_tables.proofs.text.read_body.Goals as goal

pub returns-then-is_comment-clause-read : goal.returns-then-is_comment-clause-read
returns-then-is_comment-clause-read g c =
    read_body_passed _ _ _ _ (sym c.is_comment.ensures ∙ c.if-is_comment.true)
    ∙ ap (λ i. Ok (line_of i c.args.text.now))
    (sym (c.nothing.ensures.item c.args.text.now c.args.event.now))

pub returns-in-Err-clause-read : goal.returns-in-Err-clause-read
returns-in-Err-clause-read g c =
    read_body_bad _ _ _ _ c.in-Err.fault (sym c.is_comment.ensures ∙ c.if-is_comment.false)
    (rw (← c.keywords.ensures) (sym c.read_keyword.ensures ∙ c.in-Err.is))

pub returns-in-Ok-clause-read : goal.returns-in-Ok-clause-read
returns-in-Ok-clause-read g c =
    read_body_words _ _ _ _ c.in-Ok.word (sym c.is_comment.ensures ∙ c.if-is_comment.false)
    (rw (← c.keywords.ensures) (sym c.read_keyword.ensures ∙ c.in-Ok.is))
    ∙ c.read_words.ensures.read
