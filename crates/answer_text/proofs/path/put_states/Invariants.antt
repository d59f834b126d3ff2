use Rattle.std.proofs.Common.{drop}
use Rattle.answer_text.specs.Paths.{states_text}
use Rattle.answer_text.proofs.Putting.{Putting}
use Rattle.answer_text.proofs.path.put_states.Given as goal

abbrev pub invariant-loop-state : goal.invariant-loop-state
invariant-loop-state g l =
    Putting g.W.Sink.shown l.initial.sink l.sink l.initial.line l.line
    (states_text l.states) (states_text (drop l.state-index l.states))
