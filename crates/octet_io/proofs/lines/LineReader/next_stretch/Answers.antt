use Rattle.std.proofs.Common.{◌≡◌, ◌≤◌, ◌+◌, ◌++◌, ◌==◌, false, length, take, drop, arith}
use Rattle.std.proofs.lemmas.List.{length-take, length-append}
use Rattle.std.specs.List.{position_or_len}
use Rattle.octet_io.proofs.LineLaws.{goes_on, stretch_stops}
use Rattle.octet_io.proofs.lines.LineReader.next_stretch.Goals as goal

pub returns-clause-lines : goal.returns-clause-lines
returns-clause-lines c left =
    let n = c.min-count.result in
    let held = c.as_slice-held.result.now in
    let line_is : c.args.self.now.line ≡ c.self.inside.line = cc in
    let taken_is : c.args.self.now.taken ≡ c.self.inside.taken = cc in
    let held_is : c.args.self.now.held ≡ held = cc in
    let cut : length (take n held) ≡ n = omega (arith, length-take n held) in
    let most : n ≤ position_or_len (λ b. b == 10) held = omega arith in
    let short : length c.self.inside.line + n ≤ 4096 = omega arith in
    let little : c.self.inside.taken + n ≤ 16777216 = omega arith in
    let appended : c.append.new.self ≡ c.self.inside.line ++ take n held =
    c.append.ensures.appended (omega arith) in
    let taken_now : c.self.inside.taken + n ≡ c.args.self.now.taken + n = cc in
    let line_now : c.append.new.self ≡ c.args.self.now.line ++ take n c.args.self.now.held = cc in
    let held_now : c.skip.new.self ≡ drop n c.args.self.now.held = cc in
    goes_on c.args.self.now (record {
      taken = c.self.inside.taken + n;
      held = c.skip.new.self;
      line = c.append.new.self;
      number = 0;
      over = false;
    }) n left
    (rw held_is most) (rw line_is short) (rw taken_is little) taken_now line_now held_now

pub returns-clause-stops : goal.returns-clause-stops
returns-clause-stops c =
    let n = c.min-count.result in
    let held = c.as_slice-held.result.now in
    let cut : length (take n held) ≡ n = omega (arith, length-take n held) in
    let most : n ≤ position_or_len (λ b. b == 10) held = omega arith in
    let short : length c.self.inside.line + n ≤ 4096 = omega arith in
    let appended : c.append.new.self ≡ c.self.inside.line ++ take n held =
    c.append.ensures.appended (omega arith) in
    let longer : length c.append.new.self ≡ length c.self.inside.line + n =
    rw appended (omega (arith, length-append c.self.inside.line (take n held))) in
    let left : c.skip.new.self ≡ drop n held = cc in
    rw left (stretch_stops n held c.append.new.self (c.self.inside.taken + n) most
    (λ less room. omega arith))
