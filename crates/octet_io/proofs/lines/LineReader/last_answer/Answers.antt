use Rattle.std.proofs.Common.{◌≡◌, ◌≢◌, [], true, false, Bool, ap, ◌∙◌}
use Rattle.octet_io.specs.Lines.{LineReading}
use Rattle.octet_io.proofs.LineLaws.{ends_input, ends_last_line}
use Rattle.octet_io.proofs.lines.LineReader.last_answer.Goals as goal

true_false : (b : Bool) → b ≡ true → b ≡ false → ⊥
true_false b is other = cc

pub returns-then-is_empty-clause-lines : goal.returns-then-is_empty-clause-lines
returns-then-is_empty-clause-lines c left nothing =
    let inside_empty = c.is_empty.ensures.0 c.if-is_empty.true in
    let empty : c.args.self.now.line ≡ [] = cc in
    ends_input c.args.self.now left c.requires empty nothing

pub returns-else-is_empty-clause-lines : goal.returns-else-is_empty-clause-lines
returns-else-is_empty-clause-lines c left nothing =
    let some : c.args.self.now.line ≢ [] =
    λ empty. let inside_empty : c.self.inside.line ≡ [] =
    ap (λ (r : LineReading). r.line) c.self.view_is ∙ empty in
    true_false c.is_empty.result (c.is_empty.ensures.1 inside_empty) c.if-is_empty.false in
    ends_last_line c.args.self.now left c.requires some nothing
