-- By EAP-PSK a peer whose decision isn't FAIL has decided for a success that nothing can undo.
use Rattle.std.proofs.Common.{◌≡◌, ℕ, List, true, false, Option, Some, None, refl, subst}
use Rattle.octet_lists.specs.Among.{psk_kind}
use Rattle.eap_method.specs.BothPeers.{psk_in}
use Rattle.eap_method.specs.PeerTurn.{PeerTurn}
use Rattle.eap_method.specs.PeerTurn.{Discard, Reply}
use Rattle.eap_method.specs.Peer.{PeerViews, peer_turn}
use Rattle.eap_method.specs.PskPeer as psk
use Rattle.eap_method.specs.Turns.{PeerOutcome}
use Rattle.eap_method.specs.Tags.{Tags}
use Rattle.eap_method.specs.declared.values.Decision.{Decision}
use Rattle.eap_method.specs.declared.values.MethodState.{MethodState}
use Rattle.method_laws.specs.PskPeerRows.{PskPeerRow, drops, answers, confirms_success}
use Rattle.method_laws.specs.PskPeerRows.{confirms_failure}
use Rattle.peer_machine.specs.Expanded.{expanded_answer}
use Rattle.peer_machine.specs.Inputs.{PeerInput, octets, restart}
use Rattle.peer_machine.specs.Inputs.{peer_accepts, peer_answers}
use Rattle.peer_machine.specs.PeerTable.{PeerNow, PeerAnswer, is_done, is_fail, is_uncond}
use Rattle.peer_machine.specs.PeerTable.{peer_restart}
use Rattle.peer_machine.specs.Rows as rows
use Rattle.peer_machine.specs.Rows.{PeerRow}
use Rattle.peer_machine.proofs.Receiving.{PeerReceiving, as_it_is, bad, expresses}
use Rattle.peer_machine.proofs.Receiving as receiving
use Rattle.peer_machine.proofs.PeerRows.{peer_answers_are_rows}
use Rattle.eap_world.specs.World.{Call, Parties, WorldNow, WorldOutcome, act_of_call, start_call}
use Rattle.eap_world.specs.World.{to_pass, to_peer, to_server, world_start}
use Rattle.method_laws.specs.Both.{PeerHasBoth}
use Rattle.world_laws.specs.Runs.{initial_world}
use Rattle.login_laws.specs.UnconditionalPsk.{IsUnconditional, PskSuccessIsUnconditional}
use Rattle.world_laws.proofs.Accepting.{peer_accepted_tags}
use Rattle.world_laws.proofs.Acting.{Steps, calls, peer_restarts, run_preserves, server_restarts}
use Rattle.world_laws.proofs.Acting.{skips}
use Rattle.world_laws.proofs.EndInvariants.{InvariantSoFar, start_invariant, step_invariant}
use Rattle.method_laws.proofs.OneMethod.{some_same}
use Rattle.method_laws.proofs.PeerByMethod.{TurnOf, kinds_apart, of_gpsk, of_none, of_psk, turn_of}
use Rattle.world_laws.proofs.PeerPreserves.{peer_initiates}

-- ---- a turn

abbrev IsSure : PeerTurn → Type 0
IsSure (Discard c) = Unit {0}
IsSure (Reply packet m d tags) = is_fail d ≡ false → (is_uncond d ≡ true) × (is_done m ≡ true)

psk_sure : (view : psk.View) (bytes : List ℕ) (out : PeerOutcome psk.View)
    → PskPeerRow view bytes out → IsSure out.turn
psk_sure view bytes _ (drops cause) = tt
psk_sure view bytes _ (answers cred nonce rand_s id_s in_view is_read accepted) = λ e. cc e
psk_sure view bytes _ (confirms_success login rand_s mac nonce tag sealed in_view is_read
    their_nonce is_first tags_right has_mac has_seal has_tag is_plain is_success) =
    λ e. (refl, refl)
psk_sure view bytes _
    (confirms_failure login rand_s mac nonce tag sealed in_view is_read their_nonce is_first
    tags_right has_mac has_seal has_tag is_plain has_result no_success is_failure) =
    λ e. cc e

turn_sure : (kind : ℕ) (views : PeerViews) (bytes : List ℕ) (out : PeerOutcome PeerViews)
    → TurnOf kind views bytes out → kind ≡ psk_kind → IsSure out.turn
turn_sure kind views bytes _ (of_psk same out row) is = psk_sure (psk_in views) bytes out row
turn_sure kind views bytes _ (of_gpsk same out row) is = kinds_apart kind is same
turn_sure kind views bytes _ (of_none c) is = tt

reply_sure : {methods : List ℕ} (kind : ℕ) (views after : PeerViews) → PeerHasBoth methods views
    → (bytes packet : List ℕ) (m : MethodState) (d : Decision) (tags : Tags)
    → peer_turn kind views bytes ≡ record { turn = Reply packet m d tags; after = after }
    → Some kind ≡ Some psk_kind → is_fail d ≡ false
    → (is_uncond d ≡ true) × (is_done m ≡ true)
reply_sure kind views after both bytes packet m d tags turn is =
    subst (λ (o : PeerOutcome PeerViews). IsSure o.turn) turn (turn_sure kind views bytes
    (peer_turn kind views bytes) (turn_of kind views bytes both) (some_same kind psk_kind is))

-- ---- the peer

module _ {methods : List ℕ} (now : PeerNow) (both : PeerHasBoth methods now.views)
    (h : IsUnconditional now) where
  row_sure : (input : PeerInput) (out : PeerAnswer) → PeerRow now input out
      → IsUnconditional out.after
  unfolding peer_restart
  row_sure _ _ (rows.ended bytes over) = h
  row_sure _ _ (rows.drops bytes path c going why) = h
  row_sure _ _ (rows.rests report no_octets no_new over) = h
  row_sure _ _ (rows.begins nonce) =
      record { sure = λ is fails. cc fails; over = λ is fails. cc fails }
  row_sure _ _ (rows.waits going fails goes_on) = h
  row_sure _ _ (rows.identifies bytes id kind body heard unselected is_identity) =
      record { sure = h.sure; over = h.over }
  row_sure _ _ (rows.notifies bytes id kind body heard unselected is_notification) =
      record { sure = h.sure; over = h.over }
  row_sure _ _ (rows.naks bytes id kind body heard unselected no_identity no_notification barred) =
      record { sure = h.sure; over = h.over }
  row_sure _ _ (rows.resends bytes id kind body heard) = h
  row_sure _ _ (rows.ends_well input entered going sure why) =
      record { sure = h.sure; over = h.over }
  row_sure _ _ (rows.ends_badly input entered going why) = record { sure = h.sure; over = h.over }
  row_sure _ _ (rows.method_replies bytes selects id kind body packet m d tags views heard called
      turn goes_on) = record {
        sure = λ is fails. (reply_sure kind now.views views both _ packet m d tags turn is fails).0;
        over = λ is fails. (reply_sure kind now.views views both _ packet m d tags turn is fails).1;
      }
  row_sure _ _ (rows.method_fails bytes selects id kind body packet m d tags views heard called turn
      has_failed) = record {
        sure = λ is fails. (reply_sure kind now.views views both _ packet m d tags turn is fails).0;
        over = λ is fails. (reply_sure kind now.views views both _ packet m d tags turn is fails).1;
      }

  answer_sure : (input : PeerInput) → IsUnconditional (peer_answers now input).after
  answer_sure input = row_sure input (peer_answers now input) (peer_answers_are_rows now input)

  of_octets : (bytes : List ℕ) → IsUnconditional (peer_answers now (octets bytes)).after
  of_octets bytes = answer_sure (octets bytes)

  expanded_sure : (out : PeerAnswer) → IsUnconditional out.after → (sent : Option (List ℕ))
      → IsUnconditional (expanded_answer out sent).after
  expanded_sure out wins None = wins
  expanded_sure out wins (Some packet) = record { sure = wins.sure; over = wins.over }

  receiving_sure : (bytes : List ℕ) (out : PeerAnswer) → PeerReceiving now bytes out
      → IsUnconditional out.after
  receiving_sure bytes _ as_it_is = of_octets bytes
  receiving_sure bytes _ (bad id kind body asks is_bad) = h
  receiving_sure bytes _ (receiving.again id kind body asks last) = of_octets _
  receiving_sure bytes _ (expresses id kind body asks new) = expanded_sure _ (of_octets _) _

  accepts_sure : (input : PeerInput) → IsUnconditional (peer_accepts now input).after
  accepts_sure =
      peer_accepted_tags now (λ input out. IsUnconditional out.after) answer_sure receiving_sure

-- ---- the world

call_sure : {methods : List ℕ} (parties : Parties) (call : Call)
    → PeerHasBoth methods parties.peer.views → IsUnconditional parties.peer
    → IsUnconditional (act_of_call parties call).after.peer
call_sure parties (to_peer input) both h = accepts_sure parties.peer both h input
call_sure parties (to_server input) both h = h
call_sure parties (to_pass input) both h = h

step_sure : {methods : List ℕ} (w : WorldNow) (out : WorldOutcome)
    → Steps w out → PeerHasBoth methods w.parties.peer.views → IsUnconditional w.parties.peer
    → IsUnconditional out.after.parties.peer
step_sure w _ (skips skip) both h = h
step_sure w _ (calls call later same) both h = call_sure w.parties call both h
step_sure w _ (peer_restarts one left next) both h =
    accepts_sure w.parties.peer both h (restart one.nonce)
step_sure w _ (server_restarts one left next) both h = h

started_sure : {methods : List ℕ} (w : WorldNow) → PeerHasBoth methods w.parties.peer.views
    → IsUnconditional w.parties.peer → IsUnconditional (world_start w).after.parties.peer
unfolding world_start
started_sure w both h = call_sure w.parties (start_call w.parties.mode) both h

-- By EAP-PSK a reply whose decision isn't FAIL has UNCOND_SUCC and DONE (`reply_sure`). No other
-- row of the peer's table changes methodState or decision but a restart, which sets FAIL. So it
-- holds from the start on, step by step.
pub psk_success_is_unconditional : PskSuccessIsUnconditional
psk_success_is_unconditional setup events =
    (run_preserves (λ (w : WorldNow). InvariantSoFar setup w × IsUnconditional w.parties.peer)
    (λ w out steps was. (
      step_invariant setup w out steps was.0,
      step_sure w out steps was.0.both.peer_invariant.objects was.1,
    ))
    (world_start (initial_world setup)).after events (
      start_invariant setup,
      started_sure (initial_world setup) (peer_initiates setup.peer).objects
          (record { sure = λ is fails. cc fails; over = λ is fails. cc fails }),
    )).1
