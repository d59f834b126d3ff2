-- What a discard leaves, of a call that is one step of the peer's table.
use Rattle.std.proofs.Common.{◌≡◌, ℕ, List, subst}
use Rattle.std.specs.Prelude.{IsSome}
use Rattle.peer_machine.proofs.Discards.{discards_change_nothing}
use Rattle.peer_machine.specs.Expanded.{peer_receives}
use Rattle.peer_machine.specs.Inputs.{octets}
use Rattle.peer_machine.specs.Laws.{PreservesThePeer}
use Rattle.peer_machine.specs.PeerTable.{PeerNow, PeerAnswer}

-- the law of the peer's crate, of what a call answers
pub discarded : (now : PeerNow) (packet : List ℕ) (out : PeerAnswer)
    → peer_receives now packet ≡ out → IsSome out.step.cause → PreservesThePeer now out
discarded now packet out same = subst (λ out. IsSome out.step.cause → PreservesThePeer now out) same
    (discards_change_nothing now (octets packet))
