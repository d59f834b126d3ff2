use Rattle.std.proofs.Common.{◌≡◌, ◌≤◌, ◌-◌, ℕ, List, Some, false}
use Rattle.octet_io.specs.Lines.{max_input}
use Rattle.eapol_capture.specs.Files.{contents}
use Rattle.eapol_capture.specs.Reading.{contents_left}
use Rattle.capture_commands.specs.PcapSteps.{HasFound}
use Rattle.capture_commands.proofs.PcapDriving.{Underway}
use Rattle.capture_commands.proofs.pcap.judge_file.Given as goal

abbrev pub invariant-loop-found : goal.invariant-loop-found
invariant-loop-found g l = record {
  not_over : l.reader.over ≡ false;
  bounded : l.reader.taken ≤ max_input;
  few_records : l.reader.number ≤ l.reader.taken;
  holds : HasFound l.found l.reader.number;
  underway : (octets : List ℕ) → g.S.Source.shown.octets l.initial.source ≡ Some octets
      → Underway l.users (g.W.Sink.shown.octets l.initial.sink)
      (g.W.Sink.shown.octets l.sink) (contents octets) l.reader.number l.found
      (contents_left l.reader (g.S.Source.shown.octets l.source));
  read_faults : g.S.Source.shown.faults l.source ≡ g.S.Source.shown.faults l.initial.source;
  write_faults : g.W.Sink.shown.faults l.sink ≡ g.W.Sink.shown.faults l.initial.sink;
}

abbrev pub decreases-loop-found : goal.decreases-loop-found
decreases-loop-found g l = max_input - l.reader.taken
