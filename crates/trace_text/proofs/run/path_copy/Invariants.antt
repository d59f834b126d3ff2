use Rattle.std.proofs.Common.{◌≡◌, take}
use Rattle.trace_text.proofs.run.path_copy.Given as goal

abbrev pub invariant-loop-state : goal.invariant-loop-state
invariant-loop-state l = l.copied ≡ take l.state-index l.path
