use Rattle.std.proofs.Common.{◌≡◌, ◌≢◌, [], ◌∷◌, ◌+◌, ◌≤◌, ◌<◌, length, drop, List, ℕ, arith, false}
use Rattle.octet_io.specs.Lines.{without_cr}
use Rattle.octet_io.specs.LineSteps.{StopsAt}
use Rattle.octet_io.proofs.LineLaws.{passes_line, passes_input, ends_line}
use Rattle.octet_io.proofs.lines.LineReader.meet.Goals as goal
use Rattle.octet_io.proofs.lines.LineReader.meet.Goals.{else-octet-ne-LF-via-then-octet-ne-LF+else-len-ge-MAX_LINE}
use Rattle.octet_io.proofs.lines.LineReader.meet.Goals.{else-octet-ne-LF-via-else-octet-ne-LF}

-- what stands where an octet is held
at_octet : (held line : List ℕ) (taken x : ℕ) (rest : List ℕ) → held ≡ x ∷ rest
    → StopsAt held line taken → x ≢ 10 → length line < 4096 → 16777216 ≤ taken
at_octet [] line taken x rest is stops other = absurd cc
at_octet (y ∷ held) line taken x rest is stops other = stops (λ lf. other cc)

pub returns-then-len-ge-MAX_LINE-clause-lines : goal.returns-then-len-ge-MAX_LINE-clause-lines
returns-then-len-ge-MAX_LINE-clause-lines c left =
    let line_is : c.args.self.now.line ≡ c.self.inside.line = cc in
    let long : 4096 ≤ length c.args.self.now.line = rw line_is (omega arith) in
    passes_line c.args.self.now c.args.self.now c.args.octet (drop 1 c.args.self.now.held)
    left c.requires.next c.if-octet-ne-LF.true long

pub returns-then-self-ge-MAX_INPUT-clause-lines : goal.returns-then-self-ge-MAX_INPUT-clause-lines
returns-then-self-ge-MAX_INPUT-clause-lines c left =
    let line_is : c.args.self.now.line ≡ c.self.inside.line = cc in
    let taken_is : c.args.self.now.taken ≡ c.self.inside.taken = cc in
    let much : 16777216 ≤ c.args.self.now.taken = omega arith in
    let short : c.args.octet ≢ 10 → length c.args.self.now.line < 4096 =
    elim c.else-octet-ne-LF.branch [
      | else-octet-ne-LF-via-then-octet-ne-LF+else-len-ge-MAX_LINE w ↦
          λ other. rw line_is (omega arith)
      | else-octet-ne-LF-via-else-octet-ne-LF w ↦ λ other. absurd (omega arith)
    ] in
    passes_input c.args.self.now c.args.self.now c.args.octet (drop 1 c.args.self.now.held)
    left c.requires.next short much

pub returns-clause-lines : goal.returns-clause-lines
returns-clause-lines c left =
    let line_is : c.args.self.now.line ≡ c.self.inside.line = cc in
    let taken_is : c.args.self.now.taken ≡ c.self.inside.taken = cc in
    let held_is : c.args.self.now.held ≡ c.self.inside.ahead = cc in
    let few : c.args.self.now.taken < 16777216 = omega arith in
    let next : c.self.inside.taken + 1 ≡ c.args.self.now.taken + 1 = omega arith in
    let dropped : c.drop_cr.new.line ≡ without_cr c.args.self.now.line = cc in
    let lf : c.args.octet ≡ 10 =
    elim c.else-octet-ne-LF.branch [
      | else-octet-ne-LF-via-then-octet-ne-LF+else-len-ge-MAX_LINE w ↦
          let short : length c.args.self.now.line < 4096 = rw line_is (omega arith) in
          let much = at_octet c.args.self.now.held
          c.args.self.now.line c.args.self.now.taken c.args.octet (drop 1 c.args.self.now.held)
          c.requires.next c.requires.stops w.if-octet-ne-LF.true short in
          absurd (omega arith)
      | else-octet-ne-LF-via-else-octet-ne-LF w ↦ omega arith
    ] in
    let rest : c.args.self.now.held ≡ c.args.octet ∷ c.skip.new.self = cc in
    ends_line c.args.self.now (record {
      taken = c.self.inside.taken + 1;
      held = c.skip.new.self;
      line = c.drop_cr.new.line;
      number = 0;
      over = false;
    }) c.args.octet left rest lf few next dropped
