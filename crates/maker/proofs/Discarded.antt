-- What a discard leaves, of a call that is one step of the server's table.
use Rattle.std.proofs.Common.{◌≡◌, ℕ, List, subst}
use Rattle.std.specs.Prelude.{IsSome}
use Rattle.server_machine.proofs.Discards.{discards_change_nothing}
use Rattle.server_machine.specs.Expanded.{server_receives}
use Rattle.server_machine.specs.Inputs.{octets}
use Rattle.server_machine.specs.Laws.{PreservesTheServer}
use Rattle.server_machine.specs.ServerTable.{ServerNow, ServerAnswer}

-- the law of the server's crate, of what a call answers
pub discarded : (now : ServerNow) (packet : List ℕ) (out : ServerAnswer)
    → server_receives now packet ≡ out → IsSome out.step.cause → PreservesTheServer now out
discarded now packet out same = subst (λ out. IsSome out.step.cause → PreservesTheServer now out)
    same (discards_change_nothing now (octets packet))
