use Rattle.eax_mode.proofs.Stream.{IsCombinedFor}
use Rattle.eax_mode.proofs.apply_key_stream.Given as goal

abbrev pub invariant-counters : goal.invariant-counters
invariant-counters l = IsCombinedFor l.cipher l.start l.index l.initial.text l.text
