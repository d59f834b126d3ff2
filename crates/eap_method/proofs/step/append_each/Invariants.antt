use Rattle.std.proofs.Common.{◌≡◌, ◌++◌, take}
use Rattle.eap_method.proofs.step.append_each.Given as goal

abbrev pub invariant-loop-state : goal.invariant-loop-state
invariant-loop-state l = l.path ≡ l.initial.path ++ take l.state-index l.states
