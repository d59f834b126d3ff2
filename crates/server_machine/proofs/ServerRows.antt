-- What the server makes of an input is one of the rows of its table.
use Rattle.std.proofs.Common.{◌≡◌, ℕ, ◌+◌, List, true, false, ◌&&◌, Option, Some, None, Result, Ok}
use Rattle.std.proofs.Common.{Err, refl, ap, ◌∙◌}
use Rattle.std.specs.Prelude.{◌==◌, nat_le}
use Rattle.std.proofs.lemmas.Bool.{cond_both, and_parts, eqb-true}
use Rattle.octet_lists.specs.Among.{identity_kind, nak_kind}
use Rattle.eap_packet.specs.Fault.{packet_of}
use Rattle.eap_packet.specs.Packet.{PacketValue, request, response, success, failure, spelled}
use Rattle.eap_packet.specs.declared.cause.Cause.{Cause}
use Rattle.eap_packet.specs.declared.state.State.{State}
use Rattle.login_policy.specs.Policy.{next_kind}
use Rattle.eap_method.specs.ServerTurn.{ServerTurn}
use Rattle.eap_method.specs.ServerTurn as turn
use Rattle.eap_method.specs.Server.{ServerViews}
use Rattle.eap_method.specs.Steps.{is_end}
use Rattle.server_machine.specs.Inputs.{start, timeout, octets, restart}
use Rattle.server_machine.specs.Rows.{outside, received, no_packet, no_response, other_id}
use Rattle.server_machine.specs.Rows.{other_method, by_method, Receives, Selects, after_identity}
use Rattle.server_machine.specs.Rows.{after_nak, first_identity, first_nak, first_other, Proposes}
use Rattle.server_machine.specs.Rows.{Turns, ServerRow, ended, rests, goes_on, drops, starts}
use Rattle.server_machine.specs.Rows.{begins, resends, times_out, proposes, proposes_without}
use Rattle.server_machine.specs.Rows.{proposes_none, requests, succeeds, method_fails}
use Rattle.server_machine.specs.Rows.{ServerAnswersAreRows}
use Rattle.server_machine.specs.ServerTable as table
use Rattle.server_machine.specs.ServerTable.{ServerNow, ServerAnswer, offers, select_action}
use Rattle.server_machine.specs.ServerTable.{method_answers, server_method, is_awaited, is_proposed}
use Rattle.server_machine.specs.ServerTable.{is_started, awaits_first, current_response}
use Rattle.server_machine.specs.ServerTable.{first_response, pick_up, server_row, server_start}
use Rattle.server_machine.specs.ServerTable.{server_deliver, server_timeout}
use Rattle.server_machine.specs.Variables.{ServerVariables}

awaited : (held : Option ℕ) (number : ℕ) → is_awaited held number ≡ true → held ≡ Some number
awaited None number is = cc
awaited (Some other) number is = ap (λ (n : ℕ). Some n) (eqb-true other number is)

module _ (now : ServerNow) where
  module _ (bytes : List ℕ) where
    -- what comes of these octets is a row
    abbrev IsRow : ServerAnswer → Type 0
    IsRow out = ServerRow now (octets bytes) out

    module _ (id kind : ℕ) (body : List ℕ) (heard : Receives now bytes id kind body) where
      module _ (entered : List State) (vars : ServerVariables) (desired : Option (List ℕ))
          (selects : Selects now id kind body entered vars desired) where
        offers_row : (next : ℕ) (packet : Option (List ℕ)) (views : ServerViews)
            → Proposes now vars desired next (record { packet = packet; after = views })
            → IsRow (offers entered vars views id next packet)
        offers_row next None views next_is = proposes_without bytes id kind body entered vars
            desired next views heard selects next_is
        offers_row next (Some packet) views next_is =
            proposes bytes id kind body entered vars desired next packet views heard selects next_is

        proposes_row : (next : Option ℕ) → next_kind vars.setup.methods vars.proposed desired ≡ next
            → IsRow (table.proposes entered vars now.views id next)
        proposes_row None none =
            proposes_none bytes id kind body entered vars desired heard selects none
        proposes_row (Some next) is_next =
            offers_row next _ _ (record { is_next = is_next; is_offer = refl })

        select_row : IsRow (select_action entered vars now.views id desired)
        unfolding select_action
        select_row = proposes_row (next_kind vars.setup.methods vars.proposed desired) refl

      answers_row : (turn : ServerTurn) (views : ServerViews) → Turns now id kind body turn views
          → IsRow (method_answers now id views turn)
      answers_row (turn.Discard c) views turned =
          drops bytes _ c heard.going (by_method id kind body c views heard turned)
      answers_row (turn.Request packet tags) views turned =
          requests bytes id kind body packet tags views heard turned
      answers_row (turn.Done true tags) views turned =
          succeeds bytes id kind body tags views heard turned
      answers_row (turn.Done false tags) views turned =
          method_fails bytes id kind body tags views heard turned

      method_row : now.vars.current_id ≡ Some id → now.vars.current ≡ Some kind
          → (kind == identity_kind) ≡ false
          → ((kind == nak_kind) && is_proposed now.vars.progress) ≡ false
          → awaits_first now.vars ≡ false
          → IsRow (server_method now id kind (spelled (response id kind body)))
      unfolding server_method
      method_row is_id is_current no_identity no_nak unawaited =
          answers_row _ _ (record {
            is_id = is_id;
            is_current = is_current;
            no_identity = no_identity;
            no_nak = no_nak;
            is_turn = refl;
            unawaited = unawaited;
          })

      current_row : awaits_first now.vars ≡ false → now.vars.current_id ≡ Some id
          → IsRow (current_response now id kind body)
      current_row unawaited is_id =
          cond_both ((kind == nak_kind) && is_proposed now.vars.progress) _ _ IsRow
          (λ is.
          let parts = and_parts (kind == nak_kind) (is_proposed now.vars.progress) is in
          select_row _ _ _ (after_nak is_id (eqb-true kind nak_kind parts.0) parts.1 unawaited))
          (λ no_nak. cond_both (is_awaited now.vars.current kind) _ _ IsRow
          (λ is_current. cond_both (kind == identity_kind) _ _ IsRow
          (λ is.
          let same = eqb-true kind identity_kind is in
          select_row _ _ _ (after_identity is_id same
          (awaited now.vars.current kind is_current ∙ ap (λ (k : ℕ). Some k) same) unawaited))
          (λ no_identity. method_row is_id (awaited now.vars.current kind is_current)
          no_identity no_nak unawaited)) (λ other. drops bytes _ _ heard.going
          (other_method id kind body heard is_id other no_nak unawaited)))

      first_row : awaits_first now.vars ≡ true → IsRow (first_response now id kind body)
      first_row awaited =
          cond_both (kind == nak_kind) _ _ IsRow
          (λ is. select_row _ _ _ (first_nak awaited (eqb-true kind nak_kind is)))
          (λ no_nak. cond_both (kind == identity_kind) _ _ IsRow
          (λ is. select_row _ _ _ (first_identity awaited (eqb-true kind identity_kind is)))
          (λ no_identity. select_row _ _ _ (first_other awaited no_nak no_identity)))

    pick_row : is_end now.vars.state ≡ false → awaits_first now.vars ≡ true
        → (packet : Result PacketValue Cause) → packet_of bytes ≡ packet
        → IsRow (pick_up now packet)
    pick_row going awaited (Err c) is = drops bytes _ c going (no_packet c is _ (outside awaited))
    pick_row going awaited (Ok (request id kind body)) is =
        drops bytes _ _ going (no_response _ is (λ id kind body e. cc e) _ (outside awaited))
    pick_row going awaited (Ok (response id kind body)) is =
        first_row id kind body (record { going = going; is_packet = is }) awaited
    pick_row going awaited (Ok (success id)) is =
        drops bytes _ _ going (no_response _ is (λ id kind body e. cc e) _ (outside awaited))
    pick_row going awaited (Ok (failure id)) is =
        drops bytes _ _ going (no_response _ is (λ id kind body e. cc e) _ (outside awaited))

    packet_row : is_end now.vars.state ≡ false → awaits_first now.vars ≡ false
        → (packet : Result PacketValue Cause) → packet_of bytes ≡ packet
        → IsRow (server_row now packet)
    packet_row going unawaited (Err c) is =
        drops bytes _ c going (no_packet c is _ (received unawaited))
    packet_row going unawaited (Ok (request id kind body)) is =
        drops bytes _ _ going (no_response _ is (λ id kind body e. cc e) _ (received unawaited))
    packet_row going unawaited (Ok (response id kind body)) is =
        cond_both (is_awaited now.vars.current_id id) _ _ IsRow
        (λ current. current_row id kind body (record { going = going; is_packet = is }) unawaited
        (awaited now.vars.current_id id current))
        (λ other. drops bytes _ _ going (other_id id kind body is other unawaited))
    packet_row going unawaited (Ok (success id)) is =
        drops bytes _ _ going (no_response _ is (λ id kind body e. cc e) _ (received unawaited))
    packet_row going unawaited (Ok (failure id)) is =
        drops bytes _ _ going (no_response _ is (λ id kind body e. cc e) _ (received unawaited))

    octets_row : IsRow (server_deliver now bytes)
    unfolding server_deliver
    octets_row =
        cond_both (is_end now.vars.state) _ _ IsRow (λ over. ended bytes over)
        (λ going. cond_both (awaits_first now.vars) _ _ IsRow
        (λ awaited. pick_row going awaited (packet_of bytes) refl)
        (λ unawaited. packet_row going unawaited (packet_of bytes) refl))

  timeout_row : is_end now.vars.state ≡ false → ServerRow now timeout (server_timeout now)
  unfolding server_timeout
  timeout_row going =
      cond_both (nat_le (now.vars.retrans_count + 1) now.vars.max_retrans) _ _
      (ServerRow now timeout) (λ in_time. resends going in_time) (λ late. times_out going late)

pub server_answers_are_rows : ServerAnswersAreRows
unfolding server_start
server_answers_are_rows now start =
    cond_both (is_started now.vars) _ _ (ServerRow now start) (λ is_initiated. goes_on is_initiated)
    (λ unstarted. starts unstarted)
server_answers_are_rows now timeout =
    cond_both (is_end now.vars.state) _ _ (ServerRow now timeout) (λ over. rests over)
    (λ going. timeout_row now going)
server_answers_are_rows now (octets bytes) = octets_row now bytes
server_answers_are_rows now (restart nonce) = begins nonce
