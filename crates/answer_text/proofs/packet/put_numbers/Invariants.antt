use Rattle.std.proofs.Common.{drop}
use Rattle.answer_text.specs.Packets.{numbers_text}
use Rattle.answer_text.proofs.Putting.{Putting}
use Rattle.answer_text.proofs.packet.put_numbers.Given as goal

abbrev pub invariant-loop-octet : goal.invariant-loop-octet
invariant-loop-octet g l =
    Putting g.W.Sink.shown l.initial.sink l.sink l.initial.line l.line
    (numbers_text l.octets) (numbers_text (drop l.octet-index l.octets))
