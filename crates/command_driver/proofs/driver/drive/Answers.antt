use Rattle.std.proofs.Common.{ℕ, arith, sym, ◌∙◌, subst, rules}
use Rattle.command_driver.proofs.Driving.{underway_proceeds, underway_stops, underway_cut}
use Rattle.command_driver.proofs.Driving.{underway_lacks, underway_rests, underway_ends}
use Rattle.command_driver.proofs.Driving.{underway_too_long, underway_too_much}
use Rattle.command_driver.proofs.Responding.{finished, cut, unreadable, lacked}
use Rattle.command_driver.proofs.driver.drive.Goals as goal

pub loop-command-preserved : goal.loop-command-preserved
loop-command-preserved g c = record {
  not_over = c.in-Line.ensures.over;
  bounded = c.in-Line.ensures.bounded;
  few_lines = omega (arith, c.in-Line.ensures.number, c.in-Line.ensures.consumes);
  holds = subst (λ (k : ℕ). g.C.Command.is_valid_after c.handle_line.new.self k)
      (sym c.in-Line.ensures.number) (c.in-Ok-Proceed.ensures.valid_after
      c.loop-command.reader.number c.loop-command.invariant.holds);
  underway = λ octets e. underway_proceeds _ _ _ _ _ _ _ _ _ _ _ _ _ _ _ _
      (c.loop-command.invariant.underway octets e) c.in-Line.ensures.lines c.in-Line.ensures.number
      c.line.ensures.same (rw c.in-Ok-Proceed.field-0-is at c.in-Ok-Proceed.ensures.answers.takes);
  read_faults = c.in-Line.ensures.read ∙ c.loop-command.invariant.read_faults;
  write_faults = c.in-Ok-Proceed.ensures.answers.uncounted ∙ c.loop-command.invariant.write_faults;
}

pub returns-in-Ok-Refuses-clause-responds : goal.returns-in-Ok-Refuses-clause-responds
returns-in-Ok-Refuses-clause-responds g c =
    let same = c.loop-command.invariant in
    finished c.refuse.ensures.finishes
    (λ octets e. underway_stops _ _ _ _ _ _ _ _ _ _ _ _ _ _ _ _ _ _ _
    (same.underway octets e) c.in-Line.ensures.lines (c.number.ensures ∙ c.in-Line.ensures.number)
    c.line.ensures.same (rw c.in-Ok-Refuses.field-0-is at c.in-Ok-Refuses.ensures.answers.takes)
    c.refuse.ensures.finishes.ends) (c.refuse.ensures.drains _) (c.in-Line.ensures.read
    ∙ same.read_faults) (c.in-Ok-Refuses.ensures.answers.uncounted ∙ same.write_faults)

pub returns-in-Err-Write-clause-responds : goal.returns-in-Err-Write-clause-responds
returns-in-Err-Write-clause-responds g c =
    let same = c.loop-command.invariant in
    cut
    (λ octets e. underway_cut _ _ _ _ _ _ _ _ _ _ _ _ _ _ (same.underway octets e)
    c.in-Line.ensures.lines c.line.ensures.same c.in-Err-Write.ensures.answers.takes)
    (c.in-Line.ensures.read ∙ same.read_faults) same.write_faults
    (rw c.in-Err-Write.field-0-is at c.in-Err-Write.ensures.answers.trouble)

pub returns-in-Err-Memory-clause-responds : goal.returns-in-Err-Memory-clause-responds
returns-in-Err-Memory-clause-responds g c =
    let same = c.loop-command.invariant in
    let uncounted = rw c.in-Err-Memory.field-0-is at c.in-Err-Memory.ensures.answers.uncounted in
    lacked
    (λ octets e. underway_cut _ _ _ _ _ _ _ _ _ _ _ _ _ _ (same.underway octets e)
    c.in-Line.ensures.lines c.line.ensures.same c.in-Err-Memory.ensures.answers.takes)
    (c.in-Line.ensures.read ∙ same.read_faults) (uncounted ∙ same.write_faults)
    (λ octets e. underway_lacks _ _ _ _ _ _ _ _ _ _ _ _ _
    (same.underway octets e) c.in-Line.ensures.lines c.line.ensures.same
    (rw c.in-Err-Memory.field-0-is at c.in-Err-Memory.ensures.answers.trouble))

pub returns-in-End-clause-responds : goal.returns-in-End-clause-responds
returns-in-End-clause-responds g c =
    let same = c.loop-command.invariant in
    finished c.close.ensures
    (λ octets e. underway_ends _ _ _ _ _ _ _ _ _ _ _ _ _ _ (same.underway octets e)
    c.in-End.ensures.lines (c.number-in-End.ensures ∙ c.in-End.ensures.number) c.close.ensures.ends)
    (search rules) (c.in-End.ensures.read ∙ same.read_faults) same.write_faults

pub returns-in-TooLong-clause-responds : goal.returns-in-TooLong-clause-responds
returns-in-TooLong-clause-responds g c =
    let same = c.loop-command.invariant in
    finished c.refuse-in-TooLong.ensures.finishes
    (λ octets e. underway_too_long _ _ _ _ _ _ _ _ _ _ _ _ _ _ (same.underway octets e)
    c.in-TooLong.ensures.lines (c.number-in-TooLong.ensures ∙ c.in-TooLong.ensures.number)
    c.refuse-in-TooLong.ensures.finishes.ends) (c.refuse-in-TooLong.ensures.drains _)
    (c.in-TooLong.ensures.read ∙ same.read_faults) same.write_faults

pub returns-in-TooMuch-clause-responds : goal.returns-in-TooMuch-clause-responds
returns-in-TooMuch-clause-responds g c =
    let same = c.loop-command.invariant in
    finished c.refuse-in-TooMuch.ensures.finishes
    (λ octets e. underway_too_much _ _ _ _ _ _ _ _ _ _ _ _ _ _ (same.underway octets e)
    c.in-TooMuch.ensures.lines (c.number-in-TooMuch.ensures ∙ c.in-TooMuch.ensures.number)
    c.refuse-in-TooMuch.ensures.finishes.ends) (c.refuse-in-TooMuch.ensures.drains _)
    (c.in-TooMuch.ensures.read ∙ same.read_faults) same.write_faults

pub returns-in-Read-clause-responds : goal.returns-in-Read-clause-responds
returns-in-Read-clause-responds g c =
    let same = c.loop-command.invariant in
    unreadable (λ octets e. underway_rests _ _ _ _ _ _ _ _ _ _ (same.underway octets e))
    same.read_faults (search rules) same.write_faults

pub handle_line-requires : goal.handle_line-requires
handle_line-requires g c = record {
  lines = c.loop-command.reader.number;
  few = omega arith;
  fact = c.loop-command.invariant.holds;
}

pub returns-in-Err-Memory-clause-wanting : goal.returns-in-Err-Memory-clause-wanting
returns-in-Err-Memory-clause-wanting g c _ = record {
  command = g.C.Command.seen c.loop-command.command;
  text = c.line.result.now;
  wanting = rw c.in-Err-Memory.field-0-is at c.in-Err-Memory.ensures.answers.trouble;
}
