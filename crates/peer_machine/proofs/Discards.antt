-- A discard changes nothing.
use Rattle.std.proofs.Common.{◌≡◌, ℕ, List, Option, Some, None, refl}
use Rattle.std.specs.Prelude.{IsSome}
use Rattle.peer_machine.specs.Expanded.{expanded_answer}
use Rattle.peer_machine.specs.Inputs.{PeerInput, octets, idle, alt_accept, alt_reject, restart}
use Rattle.peer_machine.specs.Inputs.{peer_answers}
use Rattle.peer_machine.specs.Laws.{PreservesThePeer, DiscardsChangeNothing}
use Rattle.peer_machine.specs.PeerTable.{PeerNow, PeerAnswer, peer_restart}
use Rattle.peer_machine.specs.Rows.{PeerRow, begins, ended, rests, drops, waits, identifies}
use Rattle.peer_machine.specs.Rows.{notifies, naks, resends, ends_well, ends_badly, method_replies}
use Rattle.peer_machine.specs.Rows.{method_fails}
use Rattle.peer_machine.proofs.Receiving.{PeerReceiving, as_it_is, bad, again, expresses}
use Rattle.peer_machine.proofs.Receiving.{peer_receives_so}
use Rattle.peer_machine.proofs.PeerRows.{peer_answers_are_rows}

row_keeps : (now : PeerNow) (input : PeerInput) (out : PeerAnswer) → PeerRow now input out
    → IsSome out.step.cause → PreservesThePeer now out
unfolding peer_restart
row_keeps now _ _ (ended bytes over) is_discard = record { all = refl; sent = refl; tags = refl }
row_keeps now _ _ (drops bytes path c going why) is_discard =
    record { all = refl; sent = refl; tags = refl }
row_keeps now _ _ (rests report no_octets no_restart over) is_discard = cc is_discard
row_keeps now _ _ (begins nonce) is_discard = cc is_discard
row_keeps now _ _ (waits going fails goes_on) is_discard = cc is_discard
row_keeps now _ _ (identifies bytes id kind body heard unselected is_identity) is_discard =
    cc is_discard
row_keeps now _ _ (notifies bytes id kind body heard unselected is_notification) is_discard =
    cc is_discard
row_keeps now _ _ (naks bytes id kind body heard unselected no_identity no_notification barred)
    is_discard = cc is_discard
row_keeps now _ _ (resends bytes id kind body heard) is_discard = cc is_discard
row_keeps now _ _ (ends_well input entered going sure why) is_discard = cc is_discard
row_keeps now _ _ (ends_badly input entered going why) is_discard = cc is_discard
row_keeps now _ _ (method_replies bytes selects id kind body packet m d tags views heard calls turn
    goes_on) is_discard = cc is_discard
row_keeps now _ _ (method_fails bytes selects id kind body packet m d tags views heard calls turn
    has_failed) is_discard = cc is_discard

answer_keeps : (now : PeerNow) (input : PeerInput) → IsSome (peer_answers now input).step.cause
    → PreservesThePeer now (peer_answers now input)
answer_keeps now input =
    row_keeps now input (peer_answers now input) (peer_answers_are_rows now input)

-- what is expressed is no discard, since it is sent
expressed_keeps : (now : PeerNow) (out : PeerAnswer) → (IsSome out.step.cause
    → PreservesThePeer now out) → (sent : Option (List ℕ)) → out.step.sent ≡ sent
    → IsSome (expanded_answer out sent).step.cause → PreservesThePeer now (expanded_answer out sent)
expressed_keeps now out keeps None is is_discard = keeps is_discard
expressed_keeps now out keeps (Some packet) is is_discard =
    let none = (keeps is_discard).sent in cc (none, is)

receiving_keeps : (now : PeerNow) (bytes : List ℕ) (out : PeerAnswer) → PeerReceiving now bytes out
    → IsSome out.step.cause → PreservesThePeer now out
receiving_keeps now bytes _ as_it_is is_discard = answer_keeps now (octets bytes) is_discard
receiving_keeps now bytes _ (bad id kind body asks is_bad) is_discard =
    record { all = refl; sent = refl; tags = refl }
receiving_keeps now bytes _ (again id kind body asks last) is_discard =
    answer_keeps now (octets _) is_discard
receiving_keeps now bytes _ (expresses id kind body asks new) is_discard =
    expressed_keeps now _ (answer_keeps now (octets _)) _ refl is_discard

pub discards_change_nothing : DiscardsChangeNothing
discards_change_nothing now (octets bytes) is_discard =
    receiving_keeps now bytes _ (peer_receives_so now bytes) is_discard
discards_change_nothing now idle is_discard = answer_keeps now idle is_discard
discards_change_nothing now alt_accept is_discard = answer_keeps now alt_accept is_discard
discards_change_nothing now alt_reject is_discard = answer_keeps now alt_reject is_discard
discards_change_nothing now (restart nonce) is_discard = answer_keeps now (restart nonce) is_discard
