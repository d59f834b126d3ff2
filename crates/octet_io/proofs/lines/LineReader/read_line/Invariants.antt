use Rattle.std.proofs.Common.{◌-◌}
use Rattle.octet_io.specs.Lines.{max_input}
use Rattle.octet_io.proofs.LineState.{InLine}
use Rattle.octet_io.proofs.lines.LineReader.read_line.Given as goal

abbrev pub invariant-loop-self : goal.invariant-loop-self
invariant-loop-self g l =
    InLine l.fn.self l.self (g.S.Source.shown.octets l.fn.source) (g.S.Source.shown.octets l.source)
    (g.S.Source.shown.faults l.fn.source) (g.S.Source.shown.faults l.source)

abbrev pub decreases-loop-self : goal.decreases-loop-self
decreases-loop-self g l = max_input - l.self.taken
