use Rattle.std.proofs.Common.{◌≡◌, ◌≤◌, ◌-◌, ℕ, List, Some, false}
use Rattle.octet_io.specs.Lines.{lines, lines_left, max_input}
use Rattle.command_driver.proofs.Driving.{Underway}
use Rattle.command_driver.proofs.driver.drive.Given as goal

abbrev pub invariant-loop-command : goal.invariant-loop-command
invariant-loop-command g l = record {
  not_over : l.reader.over ≡ false;
  bounded : l.reader.taken ≤ max_input;
  few_lines : l.reader.number ≤ l.reader.taken;
  holds : g.C.Command.is_valid_after l.command l.reader.number;
  underway : (octets : List ℕ) → g.S.Source.shown.octets l.initial.source ≡ Some octets
      → Underway g.C.Command.line_result g.C.Command.closing g.C.Command.lacks
      (g.W.Sink.shown.octets l.initial.sink) (g.W.Sink.shown.octets l.sink)
      (g.C.Command.seen l.initial.command) (lines octets) l.reader.number
      (g.C.Command.seen l.command) (lines_left l.reader (g.S.Source.shown.octets l.source));
  read_faults : g.S.Source.shown.faults l.source ≡ g.S.Source.shown.faults l.initial.source;
  write_faults : g.W.Sink.shown.faults l.sink ≡ g.W.Sink.shown.faults l.initial.sink;
}

abbrev pub decreases-loop-command : goal.decreases-loop-command
decreases-loop-command g l = max_input - l.reader.taken
