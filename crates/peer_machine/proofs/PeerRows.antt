-- What the peer makes of an input is one of the rows of its table.
use Rattle.std.proofs.Common.{◌≡◌, ℕ, List, [], Bool, true, false, ◌&&◌, Option, Some, None, Result}
use Rattle.std.proofs.Common.{Ok, Err, refl, sym, ap, ◌∙◌}
use Rattle.std.specs.Prelude.{◌==◌}
use Rattle.std.proofs.lemmas.Bool.{cond_both, eqb-true}
use Rattle.octet_lists.specs.Among.{is_among}
use Rattle.eap_packet.specs.Fault.{packet_of}
use Rattle.eap_packet.specs.Packet.{PacketValue, request, response, success, failure, spelled}
use Rattle.eap_packet.specs.declared.cause.Cause.{Cause}
use Rattle.eap_method.specs.PeerTurn.{PeerTurn}
use Rattle.eap_method.specs.PeerTurn.{Discard, Reply}
use Rattle.eap_method.specs.declared.values.Decision.{Decision}
use Rattle.eap_method.specs.declared.values.Decision.TheVariants as decision
use Rattle.eap_method.specs.Peer.{PeerViews, peer_turn}
use Rattle.eap_method.specs.Steps.{is_end}
use Rattle.peer_machine.specs.Inputs.{PeerInput, octets, idle, alt_accept, alt_reject, restart}
use Rattle.peer_machine.specs.Inputs.{unless_ended}
use Rattle.peer_machine.specs.PeerTable.{PeerNow, PeerAnswer, is_cont, is_done, is_fail, is_last_id}
use Rattle.peer_machine.specs.PeerTable.{is_uncond, method_answers, peer_method, new_request}
use Rattle.peer_machine.specs.PeerTable.{peer_success, peer_failure, peer_row, peer_deliver}
use Rattle.peer_machine.specs.PeerTable.{peer_idle, peer_alt_accept, peer_alt_reject, peer_ends}
use Rattle.peer_machine.specs.Rows.{no_packet, no_request, other_success, other_failure}
use Rattle.peer_machine.specs.Rows.{early_success, late_failure, early_failure, late_notification}
use Rattle.peer_machine.specs.Rows.{other_method, done_method, by_method, Receives, Calls, first}
use Rattle.peer_machine.specs.Rows.{again, by_success, by_idle, by_accept, late_success, by_failure}
use Rattle.peer_machine.specs.Rows.{by_idle_unsure, late_accept, by_reject, PeerRow, begins, ended}
use Rattle.peer_machine.specs.Rows.{rests, drops, waits, identifies, notifies, naks, resends}
use Rattle.peer_machine.specs.Rows.{ends_well, ends_badly, method_replies, method_fails}
use Rattle.peer_machine.specs.Rows.{PeerAnswersAreRows}

uncond_is_sure : (d : Decision) → is_uncond d ≡ true → is_fail d ≡ false
uncond_is_sure decision.Fail sure = cc
uncond_is_sure decision.CondSucc sure = refl
uncond_is_sure decision.UncondSucc sure = refl

module _ (now : PeerNow) where
  module _ (bytes : List ℕ) (going : is_end now.vars.state ≡ false) where
    -- what comes of these octets is a row
    abbrev IsRow : PeerAnswer → Type 0
    IsRow out = PeerRow now (octets bytes) out

    module _ (id kind : ℕ) (body : List ℕ)
        (heard : Receives now bytes id (request id kind body) false) where
      answers_row : (selects : Bool) → Calls now kind selects
          → (turn : PeerTurn) (views : PeerViews)
          → peer_turn kind now.views (spelled (request id kind body))
          ≡ record { turn = turn; after = views }
          → IsRow (method_answers selects now kind id views turn)
      answers_row selects calls (Discard c) views turned =
          drops bytes _ c going (by_method selects id kind body c views heard calls turned)
      answers_row selects calls (Reply packet m d tags) views turned =
          cond_both (is_done m && is_fail d) _ _ IsRow
          (λ failed.
          method_fails bytes selects id kind body packet m d tags views heard calls turned failed)
          (λ goes_on. method_replies bytes selects id kind body packet m d tags views heard calls
          turned goes_on)

      method_row : (selects : Bool) → Calls now kind selects
          → IsRow (peer_method selects now kind id (spelled (request id kind body)))
      unfolding peer_method
      method_row selects calls = answers_row selects calls _ _ refl

      new_row : (selected : Option ℕ) → now.vars.selected ≡ selected
          → IsRow (new_request now id kind (spelled (request id kind body)) selected)
      new_row None none =
          cond_both (kind == 1) _ _ IsRow
          (λ is. identifies bytes id kind body heard none (eqb-true kind 1 is))
          (λ no_identity. cond_both (kind == 2) _ _ IsRow
          (λ is. notifies bytes id kind body heard none (eqb-true kind 2 is))
          (λ no_notification. cond_both (is_among now.vars.setup.methods kind) _ _ IsRow
          (λ allowed. method_row true (first none allowed))
          (λ barred. naks bytes id kind body heard none no_identity no_notification barred)))
      new_row (Some selected) is =
          cond_both (kind == 2) _ _ IsRow (λ two. drops bytes _ _ going
          (late_notification id kind selected body heard is (eqb-true kind 2 two)))
          (λ no_notification. cond_both (kind == selected) _ _ IsRow
          (λ equal.
          let same : now.vars.selected ≡ Some kind =
          is ∙ sym (ap (λ (k : ℕ). Some k) (eqb-true kind selected equal)) in
          cond_both (is_done now.vars.method_state) _ _ IsRow
          (λ over. drops bytes _ _ going (done_method id kind body heard same over))
          (λ undone. method_row false (again same undone)))
          (λ other. drops bytes _ _ going
          (other_method id kind selected body heard is other no_notification)))

    success_row : (id : ℕ) → Receives now bytes id (success id) true → IsRow (peer_success now)
    success_row id heard =
        cond_both (is_fail now.vars.decision) _ _ IsRow
        (λ fails. cond_both (is_cont now.vars.method_state) _ _ IsRow
        (λ goes_on. drops bytes _ _ going (early_success id heard fails goes_on))
        (λ over. ends_badly _ _ going (late_success bytes id heard fails over)))
        (λ sure. ends_well _ _ going sure (by_success bytes id heard))

    failure_row : (id : ℕ) → Receives now bytes id (failure id) true → IsRow (peer_failure now)
    failure_row id heard =
        cond_both (is_uncond now.vars.decision) _ _ IsRow
        (λ sure. drops bytes _ _ going (late_failure id heard sure))
        (λ unsure. cond_both (is_cont now.vars.method_state) _ _ IsRow
        (λ goes_on. drops bytes _ _ going (early_failure id heard unsure goes_on))
        (λ over. ends_badly _ _ going (by_failure bytes id heard unsure over)))

    packet_row : (packet : Result PacketValue Cause) → packet_of bytes ≡ packet
        → IsRow (peer_row now packet)
    packet_row (Err c) is = drops bytes _ c going (no_packet c is)
    packet_row (Ok (request id kind body)) is =
        cond_both (is_last_id now.vars.last_id id) _ _ IsRow
        (λ last. resends bytes id kind body (record { going = going; is_packet = is; last = last }))
        (λ new. new_row id kind body (record { going = going; is_packet = is; last = new })
        now.vars.selected refl)
    packet_row (Ok (response id kind body)) is = drops bytes _ _ going (no_request id kind body is)
    packet_row (Ok (success id)) is =
        cond_both (is_last_id now.vars.last_id id) _ _ IsRow
        (λ last. success_row id (record { going = going; is_packet = is; last = last }))
        (λ new. drops bytes _ _ going
        (other_success id (record { going = going; is_packet = is; last = new })))
    packet_row (Ok (failure id)) is =
        cond_both (is_last_id now.vars.last_id id) _ _ IsRow
        (λ last. failure_row id (record { going = going; is_packet = is; last = last }))
        (λ new. drops bytes _ _ going
        (other_failure id (record { going = going; is_packet = is; last = new })))

  octets_row : (bytes : List ℕ) → PeerRow now (octets bytes) (peer_deliver now bytes)
  unfolding peer_deliver
  octets_row bytes =
      cond_both (is_end now.vars.state) _ _ (PeerRow now (octets bytes)) (λ over. ended bytes over)
      (λ going. packet_row bytes going (packet_of bytes) refl)

  report_row : (report : PeerInput) (out : PeerAnswer) → ((bytes : List ℕ) → report ≡ octets bytes
      → ⊥) → ((nonce : List ℕ) → report ≡ restart nonce → ⊥)
      → (is_end now.vars.state ≡ false → PeerRow now report out)
      → PeerRow now report (unless_ended now out)
  report_row report out no_octets no_restart row =
      cond_both (is_end now.vars.state) _ _ (PeerRow now report)
      (λ over. rests report no_octets no_restart over) row

  idle_row : is_end now.vars.state ≡ false → PeerRow now idle (peer_idle now)
  unfolding peer_idle
  idle_row going =
      cond_both (is_uncond now.vars.decision) _ _ (λ s. PeerRow now idle (peer_ends now [] s))
      (λ sure. ends_well _ _ going (uncond_is_sure now.vars.decision sure) (by_idle sure))
      (λ unsure. ends_badly _ _ going (by_idle_unsure unsure))

  accept_row : is_end now.vars.state ≡ false → PeerRow now alt_accept (peer_alt_accept now)
  unfolding peer_alt_accept
  accept_row going =
      cond_both (is_fail now.vars.decision) _ _ (PeerRow now alt_accept)
      (λ fails. cond_both (is_cont now.vars.method_state) _ _ (PeerRow now alt_accept)
      (λ goes_on. waits going fails goes_on)
      (λ over. ends_badly _ _ going (late_accept fails over)))
      (λ sure. ends_well _ _ going sure by_accept)

  reject_row : is_end now.vars.state ≡ false → PeerRow now alt_reject (peer_alt_reject now)
  unfolding peer_alt_reject
  reject_row going = ends_badly _ _ going by_reject

pub peer_answers_are_rows : PeerAnswersAreRows
peer_answers_are_rows now (octets bytes) = octets_row now bytes
peer_answers_are_rows now idle =
    report_row now idle _ (λ bytes e. cc e) (λ nonce e. cc e) (idle_row now)
peer_answers_are_rows now alt_accept =
    report_row now alt_accept _ (λ bytes e. cc e) (λ nonce e. cc e) (accept_row now)
peer_answers_are_rows now alt_reject =
    report_row now alt_reject _ (λ bytes e. cc e) (λ nonce e. cc e) (reject_row now)
peer_answers_are_rows now (restart nonce) = begins nonce
