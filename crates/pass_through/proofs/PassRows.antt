-- What the pass-through makes of an input is one of the rows of its table.
use Rattle.std.proofs.Common.{◌≡◌, ℕ, ◌+◌, List, Bool, true, ◌||◌, Option, Some, None, Result, Ok}
use Rattle.std.proofs.Common.{Err, refl, ap, sym, ◌∙◌}
use Rattle.std.specs.Prelude.{◌==◌, nat_le}
use Rattle.std.proofs.lemmas.Bool.{cond_both, eqb-true, false≢true}
use Rattle.octet_lists.specs.Among.{identity_kind}
use Rattle.eap_packet.specs.Fault.{packet_of}
use Rattle.eap_packet.specs.Packet.{PacketValue, request, response, success, failure}
use Rattle.eap_packet.specs.declared.cause.Cause.{Cause}
use Rattle.eap_packet.specs.declared.state.State.{State}
use Rattle.eap_packet.specs.declared.state.State.TheVariants as state
use Rattle.pass_through.specs.Inputs.{start, timeout, aaa_timeout, aaa_noreq, from_peer}
use Rattle.pass_through.specs.Inputs.{from_backend, restart}
use Rattle.pass_through.specs.Rows.{second_start, no_timer, unasked_timeout, unasked_noreq, in_idle}
use Rattle.pass_through.specs.Rows.{in_idle2, in_aaa_idle, ended, awaits_no_peer, awaits_no_server}
use Rattle.pass_through.specs.Rows.{no_packet, no_response, other_id, no_identity, a_response}
use Rattle.pass_through.specs.Rows.{TimerRuns, of_idle, of_idle2, PassRow, stays, drops_of_peer}
use Rattle.pass_through.specs.Rows.{drops_of_server, starts, begins, resends, times_out}
use Rattle.pass_through.specs.Rows.{loses_server, asks_nothing, passes_identity, passes_response}
use Rattle.pass_through.specs.Rows.{passes_request, passes_success, passes_failure}
use Rattle.pass_through.specs.Rows.{PassAnswersAreRows}
use Rattle.pass_through.specs.PassTable as table
use Rattle.pass_through.specs.PassTable.{PassAnswer, is_awaited, is_over, is_idle, is_idle2}
use Rattle.pass_through.specs.PassTable.{is_aaa_idle, is_started, has_timer, idle_row, idle2_row}
use Rattle.pass_through.specs.PassTable.{aaa_row, pass_start, pass_timeout, pass_aaa_timeout}
use Rattle.pass_through.specs.PassTable.{pass_aaa_noreq, pass_from_peer, pass_from_backend}
use Rattle.pass_through.specs.declared.variables.PassVariables.{PassVariables}

awaited : (held : Option ℕ) (number : ℕ) → is_awaited held number ≡ true → held ≡ Some number
awaited None number is = cc
awaited (Some other) number is = ap (λ (n : ℕ). Some n) (eqb-true other number is)

at_idle : (s : State) → is_idle s ≡ true → s ≡ state.Idle
at_idle state.Idle is = refl
at_idle s is = absurd (false≢true is)

at_idle2 : (s : State) → is_idle2 s ≡ true → s ≡ state.Idle2
at_idle2 state.Idle2 is = refl
at_idle2 s is = absurd (false≢true is)

at_aaa_idle : (s : State) → is_aaa_idle s ≡ true → s ≡ state.AaaIdle
at_aaa_idle state.AaaIdle is = refl
at_aaa_idle s is = absurd (false≢true is)

module _ (vars : PassVariables) where
  module _ (octets : List ℕ) where
    -- what comes of these octets of the peer, or of the server, is a row
    abbrev OfPeer : PassAnswer → Type 0
    OfPeer out = PassRow vars (from_peer octets) out

    abbrev OfServer : PassAnswer → Type 0
    OfServer out = PassRow vars (from_backend octets) out

    idle_is_row : vars.state ≡ state.Idle → (packet : Result PacketValue Cause)
        → packet_of octets ≡ packet → OfPeer (idle_row vars octets packet)
    idle_is_row stands (Err c) is = drops_of_peer octets _ c (no_packet _ _ (in_idle stands) c is)
    idle_is_row stands (Ok (request id kind body)) is =
        drops_of_peer octets _ _ (no_response _ (in_idle stands) _ is (λ id kind body e. cc e))
    idle_is_row stands (Ok (response id kind body)) is =
        cond_both (is_awaited vars.current_id id) _ _ OfPeer
        (λ current. cond_both (kind == identity_kind) _ _ OfPeer
        (λ same. passes_identity octets id body stands (rw (← eqb-true kind identity_kind same) is)
        (awaited vars.current_id id current)) (λ other. drops_of_peer octets _ _
        (no_identity stands id kind body is (awaited vars.current_id id current) other)))
        (λ other. drops_of_peer octets _ _ (other_id _ (in_idle stands) id kind body is other))
    idle_is_row stands (Ok (success id)) is =
        drops_of_peer octets _ _ (no_response _ (in_idle stands) _ is (λ id kind body e. cc e))
    idle_is_row stands (Ok (failure id)) is =
        drops_of_peer octets _ _ (no_response _ (in_idle stands) _ is (λ id kind body e. cc e))

    idle2_is_row : vars.state ≡ state.Idle2 → (packet : Result PacketValue Cause)
        → packet_of octets ≡ packet → OfPeer (idle2_row vars octets packet)
    idle2_is_row stands (Err c) is = drops_of_peer octets _ c (no_packet _ _ (in_idle2 stands) c is)
    idle2_is_row stands (Ok (request id kind body)) is =
        drops_of_peer octets _ _ (no_response _ (in_idle2 stands) _ is (λ id kind body e. cc e))
    idle2_is_row stands (Ok (response id kind body)) is =
        cond_both (is_awaited vars.current_id id) _ _ OfPeer
        (λ current. passes_response octets id kind body stands is
        (awaited vars.current_id id current))
        (λ other. drops_of_peer octets _ _ (other_id _ (in_idle2 stands) id kind body is other))
    idle2_is_row stands (Ok (success id)) is =
        drops_of_peer octets _ _ (no_response _ (in_idle2 stands) _ is (λ id kind body e. cc e))
    idle2_is_row stands (Ok (failure id)) is =
        drops_of_peer octets _ _ (no_response _ (in_idle2 stands) _ is (λ id kind body e. cc e))

    aaa_is_row : vars.state ≡ state.AaaIdle → (packet : Result PacketValue Cause)
        → packet_of octets ≡ packet → OfServer (aaa_row vars octets packet)
    aaa_is_row stands (Err c) is =
        drops_of_server octets _ c (no_packet _ _ (in_aaa_idle stands) c is)
    aaa_is_row stands (Ok (request id kind body)) is = passes_request octets id kind body stands is
    aaa_is_row stands (Ok (response id kind body)) is =
        drops_of_server octets _ _ (a_response stands id kind body is)
    aaa_is_row stands (Ok (success id)) is = passes_success octets id stands is
    aaa_is_row stands (Ok (failure id)) is = passes_failure octets id stands is

    peer_row : OfPeer (pass_from_peer vars octets)
    unfolding pass_from_peer
    peer_row =
        cond_both (is_over vars.state) _ _ OfPeer (λ over. drops_of_peer octets _ _ (ended _ over))
        (λ going. cond_both (is_idle vars.state) _ _ OfPeer
        (λ idle. idle_is_row (at_idle vars.state idle) (packet_of octets) refl)
        (λ no_idle. cond_both (is_idle2 vars.state) _ _ OfPeer
        (λ idle2. idle2_is_row (at_idle2 vars.state idle2) (packet_of octets) refl)
        (λ no_idle2. drops_of_peer octets _ _ (awaits_no_peer going no_idle no_idle2))))

    server_row : OfServer (pass_from_backend vars octets)
    unfolding pass_from_backend
    server_row =
        cond_both (is_over vars.state) _ _ OfServer
        (λ over. drops_of_server octets _ _ (ended _ over))
        (λ going. cond_both (is_aaa_idle vars.state) _ _ OfServer
        (λ asked. aaa_is_row (at_aaa_idle vars.state asked) (packet_of octets) refl)
        (λ unasked. drops_of_server octets _ _ (awaits_no_server going unasked)))

  resends_row : (entered back over : State) → TimerRuns vars.state entered back over
      → PassRow vars timeout (table.resends vars entered back over)
  resends_row entered back over place =
      cond_both (nat_le (vars.retrans_count + 1) vars.max_retrans) _ _ (PassRow vars timeout)
      (λ in_time. resends entered back over place in_time)
      (λ late. times_out entered back over place late)

  timeout_row : has_timer vars.state ≡ true → PassRow vars timeout (pass_timeout vars)
  unfolding pass_timeout
  timeout_row runs =
      cond_both (is_idle vars.state) _ _ (PassRow vars timeout)
      (λ idle. resends_row _ _ _ (of_idle (at_idle vars.state idle)))
      (λ no_idle. resends_row _ _ _ (of_idle2
      (at_idle2 vars.state (sym (ap (λ (b : Bool). b || is_idle2 vars.state) no_idle) ∙ runs))))

pub pass_answers_are_rows : PassAnswersAreRows
unfolding pass_start pass_aaa_timeout pass_aaa_noreq
pass_answers_are_rows vars start =
    cond_both (is_started vars.state) _ _ (PassRow vars start)
    (λ is_initiated. stays start (second_start is_initiated)) (λ unstarted. starts unstarted)
pass_answers_are_rows vars timeout =
    cond_both (has_timer vars.state) _ _ (PassRow vars timeout) (λ runs. timeout_row vars runs)
    (λ stopped. stays timeout (no_timer stopped))
pass_answers_are_rows vars aaa_timeout =
    cond_both (is_aaa_idle vars.state) _ _ (PassRow vars aaa_timeout)
    (λ asked. loses_server (at_aaa_idle vars.state asked))
    (λ unasked. stays aaa_timeout (unasked_timeout unasked))
pass_answers_are_rows vars aaa_noreq =
    cond_both (is_aaa_idle vars.state) _ _ (PassRow vars aaa_noreq)
    (λ asked. asks_nothing (at_aaa_idle vars.state asked))
    (λ unasked. stays aaa_noreq (unasked_noreq unasked))
pass_answers_are_rows vars (from_peer octets) = peer_row vars octets
pass_answers_are_rows vars (from_backend octets) = server_row vars octets
pass_answers_are_rows vars restart = begins
