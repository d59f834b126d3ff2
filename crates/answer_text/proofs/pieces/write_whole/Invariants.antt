use Rattle.std.proofs.Common.{length}
use Rattle.answer_text.proofs.Fronts.{Appending}
use Rattle.answer_text.proofs.pieces.write_whole.Given as goal

abbrev pub invariant-loop-rest : goal.invariant-loop-rest
invariant-loop-rest g l = Appending g.W.Sink.shown l.initial.sink l.sink l.octets l.rest

abbrev pub decreases-loop-rest : goal.decreases-loop-rest
decreases-loop-rest g l = length l.rest
