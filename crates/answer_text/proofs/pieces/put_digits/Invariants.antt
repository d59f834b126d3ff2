use Rattle.std.proofs.Common.{length}
use Rattle.hex.specs.Hex.{encode_lower}
use Rattle.answer_text.proofs.Putting.{Putting}
use Rattle.answer_text.proofs.pieces.put_digits.Given as goal

abbrev pub invariant-loop-rest : goal.invariant-loop-rest
invariant-loop-rest g l =
    Putting g.W.Sink.shown l.initial.sink l.sink l.initial.line l.line
    (encode_lower l.octets) (encode_lower l.rest)

abbrev pub decreases-loop-rest : goal.decreases-loop-rest
decreases-loop-rest g l = length l.rest
