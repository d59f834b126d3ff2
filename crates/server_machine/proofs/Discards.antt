-- A discard changes nothing.
use Rattle.std.proofs.Common.{◌≡◌, ℕ, List, Option, Some, None, refl}
use Rattle.std.specs.Prelude.{◌==◌}
use Rattle.std.proofs.lemmas.Bool.{cond_both}
use Rattle.std.specs.Prelude.{IsSome}
use Rattle.eap_packet.specs.Fault.{code_of}
use Rattle.server_machine.specs.Expanded.{discards_bad, wraps_sent}
use Rattle.server_machine.specs.Inputs.{ServerInput, start, timeout, octets, restart}
use Rattle.server_machine.specs.Inputs.{server_answers}
use Rattle.server_machine.specs.Laws.{PreservesTheServer, DiscardsChangeNothing}
use Rattle.server_machine.specs.Rows.{ServerRow, ended, rests, goes_on, drops, starts, begins}
use Rattle.server_machine.specs.Rows.{resends, times_out, proposes, proposes_without, proposes_none}
use Rattle.server_machine.specs.Rows.{requests, succeeds, method_fails}
use Rattle.server_machine.specs.ServerTable.{ServerNow, ServerAnswer, is_backend, awaits_first}
use Rattle.server_machine.specs.ServerTable.{server_restart, server_start}
use Rattle.server_machine.proofs.Receiving.{ServerReceiving, as_it_is, bad, wrapping}
use Rattle.server_machine.proofs.Receiving.{server_receives_so}
use Rattle.server_machine.proofs.ServerRows.{server_answers_are_rows}

-- neither answer of a restart is a discard
restart_keeps : (now : ServerNow) (nonce : List ℕ) → IsSome (server_restart now nonce).step.cause
    → PreservesTheServer now (server_restart now nonce)
unfolding server_restart server_start
restart_keeps now nonce =
    cond_both (is_backend now.vars) _ _
    (λ (out : ServerAnswer). IsSome out.step.cause → PreservesTheServer now out)
    (λ _ is_discard. cc is_discard) (λ _ is_discard. cc is_discard)

row_keeps : (now : ServerNow) (input : ServerInput) (out : ServerAnswer) → ServerRow now input out
    → IsSome out.step.cause → PreservesTheServer now out
row_keeps now _ _ (ended bytes over) is_discard = record { all = refl; sent = refl; tags = refl }
row_keeps now _ _ (drops bytes path c going why) is_discard =
    record { all = refl; sent = refl; tags = refl }
row_keeps now _ _ (rests over) is_discard = cc is_discard
row_keeps now _ _ (goes_on is_initiated) is_discard = cc is_discard
row_keeps now _ _ (starts unstarted) is_discard = cc is_discard
row_keeps now _ _ (begins nonce) is_discard = restart_keeps now nonce is_discard
row_keeps now _ _ (resends going in_time) is_discard = cc is_discard
row_keeps now _ _ (times_out going late) is_discard = cc is_discard
row_keeps now _ _ (proposes bytes id kind body entered vars desired next packet views heard selects
    next_is) is_discard = cc is_discard
row_keeps now _ _ (proposes_without bytes id kind body entered vars desired next views heard selects
    next_is) is_discard = cc is_discard
row_keeps now _ _ (proposes_none bytes id kind body entered vars desired heard selects none)
    is_discard = cc is_discard
row_keeps now _ _ (requests bytes id kind body packet tags views heard turned) is_discard =
    cc is_discard
row_keeps now _ _ (succeeds bytes id kind body tags views heard turned) is_discard = cc is_discard
row_keeps now _ _ (method_fails bytes id kind body tags views heard turned) is_discard =
    cc is_discard

answer_keeps : (now : ServerNow) (input : ServerInput) → IsSome (server_answers now
    input).step.cause → PreservesTheServer now (server_answers now input)
answer_keeps now input =
    row_keeps now input (server_answers now input) (server_answers_are_rows now input)

-- what is wrapped is no discard, since it is sent
wraps_keep : (now : ServerNow) (out : ServerAnswer) → (IsSome out.step.cause
    → PreservesTheServer now out) → (sent : Option (List ℕ)) → out.step.sent ≡ sent
    → IsSome (wraps_sent out sent).step.cause → PreservesTheServer now (wraps_sent out sent)
wraps_keep now out keeps None is = keeps
wraps_keep now out keeps (Some packet) is =
    cond_both (code_of packet == 1) _ _
    (λ (next : ServerAnswer). IsSome next.step.cause → PreservesTheServer now next)
    (λ _ is_discard. let none = (keeps is_discard).sent in cc (none, is)) (λ _. keeps)

bad_keeps : (now : ServerNow) → PreservesTheServer now (discards_bad now)
bad_keeps now =
    cond_both (awaits_first now.vars) _ _ (PreservesTheServer now)
    (λ _. record { all = refl; sent = refl; tags = refl })
    (λ _. record { all = refl; sent = refl; tags = refl })

receiving_keeps : (now : ServerNow) (bytes : List ℕ) (out : ServerAnswer)
    → ServerReceiving now bytes out → IsSome out.step.cause → PreservesTheServer now out
receiving_keeps now bytes _ as_it_is is_discard = answer_keeps now (octets bytes) is_discard
receiving_keeps now bytes _ (bad id kind body answers is_bad) is_discard = bad_keeps now
receiving_keeps now bytes _ (wrapping id kind body answers good) is_discard =
    wraps_keep now _ (answer_keeps now (octets _)) _ refl is_discard

pub discards_change_nothing : DiscardsChangeNothing
discards_change_nothing now start is_discard = answer_keeps now start is_discard
discards_change_nothing now timeout is_discard = answer_keeps now timeout is_discard
discards_change_nothing now (octets bytes) is_discard =
    receiving_keeps now bytes _ (server_receives_so now bytes) is_discard
discards_change_nothing now (restart nonce) is_discard = answer_keeps now (restart nonce) is_discard
