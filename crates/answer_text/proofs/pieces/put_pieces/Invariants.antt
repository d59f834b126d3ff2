use Rattle.std.proofs.Common.{drop}
use Rattle.answer_text.specs.Pieces.{text_of_pieces}
use Rattle.answer_text.proofs.Putting.{Putting}
use Rattle.answer_text.proofs.pieces.put_pieces.Given as goal

abbrev pub invariant-loop-piece : goal.invariant-loop-piece
invariant-loop-piece g l =
    Putting g.W.Sink.shown l.initial.sink l.sink l.initial.line l.line
    (text_of_pieces l.pieces) (text_of_pieces (drop l.piece-index l.pieces))
