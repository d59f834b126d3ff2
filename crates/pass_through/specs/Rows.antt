-- The transitions of the pass-through's table (RFC 4137 section 7), each with all that is then
-- known.
use Rattle.std.specs.Prelude.{◌≡◌, ℕ, ◌+◌, List, [], ◌∷◌, true, false, ◌==◌, nat_le, Some, Ok, Err}
use Rattle.octet_lists.specs.Among.{identity_kind}
use Rattle.eap_packet.specs.Fault.{packet_of}
use Rattle.eap_packet.specs.Packet.{PacketValue, request, response, success, failure}
use Rattle.eap_packet.specs.declared.cause.Cause.{Cause}
use Rattle.eap_packet.specs.declared.cause.Cause.TheVariants as cause
use Rattle.eap_packet.specs.declared.state.State.{State}
use Rattle.eap_packet.specs.declared.state.State.TheVariants as state
use Rattle.pass_through.specs.Inputs.{PassInput, start, timeout, aaa_timeout, aaa_noreq, from_peer}
use Rattle.pass_through.specs.Inputs.{from_backend, restart, pass_rests, pass_accepts}
use Rattle.pass_through.specs.PassTable.{Side, Peer, Server, PassAnswer, answer, asks, passes_on}
use Rattle.pass_through.specs.PassTable.{rests, discards, identity_request, without_padding}
use Rattle.pass_through.specs.PassTable.{is_awaited, is_over, is_idle, is_idle2, is_aaa_idle}
use Rattle.pass_through.specs.PassTable.{is_started, has_timer, pass_restart}
use Rattle.pass_through.specs.declared.variables.PassVariables.{PassVariables}

-- why an input that has no place in this state does nothing
pub data IsOutOfPlace (s : State) : PassInput → Type 0 where
  second_start : (is_initiated : is_started s ≡ true) → IsOutOfPlace s start
  no_timer : (stopped : has_timer s ≡ false) → IsOutOfPlace s timeout
  unasked_timeout : (unasked : is_aaa_idle s ≡ false) → IsOutOfPlace s aaa_timeout
  unasked_noreq : (unasked : is_aaa_idle s ≡ false) → IsOutOfPlace s aaa_noreq

-- where it waits for octets, the side to which they would go, and the states of a discard there
pub data Waits (s : State) : Side → List State → Type 0 where
  in_idle : (stands : s ≡ state.Idle)
      → Waits s Server (state.Received ∷ state.Discard ∷ state.Idle ∷ [])
  in_idle2 : (stands : s ≡ state.Idle2)
      → Waits s Server (state.Received2 ∷ state.Discard2 ∷ state.Idle2 ∷ [])
  in_aaa_idle : (stands : s ≡ state.AaaIdle) → Waits s Peer []

-- why octets on their way to this side are discarded, on this path and with this cause
pub data Drops (vars : PassVariables) (octets : List ℕ) : Side → List State → Cause → Type 0 where
  ended : (to : Side) (over : is_over vars.state ≡ true) → Drops vars octets to [] cause.Ended
  awaits_no_peer : (going : is_over vars.state ≡ false) (no_idle : is_idle vars.state ≡ false)
      (no_idle2 : is_idle2 vars.state ≡ false)
      → Drops vars octets Server [] cause.NotWaiting
  awaits_no_server : (going : is_over vars.state ≡ false) (unasked : is_aaa_idle vars.state ≡ false)
      → Drops vars octets Peer [] cause.NotWaiting
  no_packet : (to : Side) (path : List State) (place : Waits vars.state to path) (c : Cause)
      (is_fault : packet_of octets ≡ Err c)
      → Drops vars octets to path c
  no_response : (path : List State) (place : Waits vars.state Server path) (packet : PacketValue)
      (is_packet : packet_of octets ≡ Ok packet) (other : (id kind : ℕ) (body : List ℕ)
      → packet ≡ response id kind body → ⊥) → Drops vars octets Server path cause.WrongRole
  other_id : (path : List State) (place : Waits vars.state Server path) (id kind : ℕ)
      (body : List ℕ) (is_packet : packet_of octets ≡ Ok (response id kind body))
      (other : is_awaited vars.current_id id ≡ false)
      → Drops vars octets Server path cause.IdMismatch
  no_identity : (stands : vars.state ≡ state.Idle) (id kind : ℕ) (body : List ℕ)
      (is_packet : packet_of octets ≡ Ok (response id kind body))
      (is_id : vars.current_id ≡ Some id) (other : (kind == identity_kind) ≡ false)
      → Drops vars octets Server (state.Received ∷ state.Discard ∷ state.Idle ∷ [])
      cause.WrongMethod
  a_response : (stands : vars.state ≡ state.AaaIdle) (id kind : ℕ) (body : List ℕ)
      (is_packet : packet_of octets ≡ Ok (response id kind body))
      → Drops vars octets Peer [] cause.WrongRole

-- where the retransmission timer runs: the state that its end enters, the one in which it waits on,
-- and the one past MaxRetrans
pub data TimerRuns (s : State) : State → State → State → Type 0 where
  of_idle : (stands : s ≡ state.Idle) → TimerRuns s state.Retransmit state.Idle state.TimeoutFailure
  of_idle2 : (stands : s ≡ state.Idle2)
      → TimerRuns s state.Retransmit2 state.Idle2 state.TimeoutFailure2

-- what the pass-through does at an input
pub data PassRow (vars : PassVariables) : PassInput → PassAnswer → Type 0 where
  -- what has no place does nothing
  stays : (input : PassInput) (why : IsOutOfPlace vars.state input)
      → PassRow vars input (pass_rests vars)
  -- octets of the peer, or of the server, that don't go on
  drops_of_peer : (octets : List ℕ) (path : List State) (c : Cause)
      (why : Drops vars octets Server path c)
      → PassRow vars (from_peer octets) (answer (discards Server path c) vars)
  drops_of_server : (octets : List ℕ) (path : List State) (c : Cause)
      (why : Drops vars octets Peer path c)
      → PassRow vars (from_backend octets) (answer (discards Peer path c) vars)
  -- the Identity Request
  starts : (unstarted : is_started vars.state ≡ false)
      → PassRow vars start
      (answer
      (asks (state.Initialize ∷ state.SelectAction ∷ state.ProposeMethod ∷ state.MethodRequest
      ∷ state.SendRequest ∷ state.Idle ∷ [])
      (identity_request vars.first_id))
      (record vars {
        state = state.Idle;
        current_id = Some vars.first_id;
        retrans_count = 0;
        last_request = identity_request vars.first_id;
      }))
  -- it restarts, whatever its state was
  begins : PassRow vars restart (pass_restart vars)
  -- RETRANSMIT and RETRANSMIT2, at most MaxRetrans times, then TIMEOUT_FAILURE or TIMEOUT_FAILURE2
  resends : (entered back over : State) (place : TimerRuns vars.state entered back over)
      (in_time : nat_le (vars.retrans_count + 1) vars.max_retrans ≡ true)
      → PassRow vars timeout
      (answer (asks (entered ∷ back ∷ []) vars.last_request)
      (record vars { retrans_count = vars.retrans_count + 1; state = back }))
  times_out : (entered back over : State) (place : TimerRuns vars.state entered back over)
      (late : nat_le (vars.retrans_count + 1) vars.max_retrans ≡ false)
      → PassRow vars timeout
      (answer (rests (entered ∷ over ∷ []))
      (record vars { retrans_count = vars.retrans_count + 1; state = over }))
  -- the server is lost, or has nothing to ask
  loses_server : (stands : vars.state ≡ state.AaaIdle)
      → PassRow vars aaa_timeout
      (answer (rests (state.TimeoutFailure2 ∷ [])) (record vars { state = state.TimeoutFailure2 }))
  asks_nothing : (stands : vars.state ≡ state.AaaIdle)
      → PassRow vars aaa_noreq
      (answer (rests (state.Discard2 ∷ state.Idle2 ∷ [])) (record vars { state = state.Idle2 }))
  -- the Identity Response goes to the server, and so does each Response to the last Request
  passes_identity : (octets : List ℕ) (id : ℕ) (body : List ℕ) (stands : vars.state ≡ state.Idle)
      (is_packet : packet_of octets ≡ Ok (response id identity_kind body))
      (is_id : vars.current_id ≡ Some id)
      → PassRow vars (from_peer octets)
      (answer
      (passes_on (state.Received ∷ state.IntegrityCheck ∷ state.MethodResponse ∷ state.SelectAction
      ∷ state.InitializePassthrough ∷ state.AaaRequest ∷ state.AaaIdle
      ∷ []) (without_padding octets))
      (record vars { state = state.AaaIdle }))
  passes_response : (octets : List ℕ) (id kind : ℕ) (body : List ℕ)
      (stands : vars.state ≡ state.Idle2) (is_packet : packet_of octets
      ≡ Ok (response id kind body)) (is_id : vars.current_id ≡ Some id)
      → PassRow vars (from_peer octets)
      (answer (passes_on (state.Received2 ∷ state.AaaRequest ∷ state.AaaIdle ∷ [])
      (without_padding octets)) (record vars { state = state.AaaIdle }))
  -- a Request goes to the peer, and is kept for the timer; a Success or a Failure goes too, and
  -- ends the conversation
  passes_request : (octets : List ℕ) (id kind : ℕ) (body : List ℕ)
      (stands : vars.state ≡ state.AaaIdle)
      (is_packet : packet_of octets ≡ Ok (request id kind body))
      → PassRow vars (from_backend octets)
      (answer (asks (state.AaaResponse ∷ state.SendRequest2 ∷ state.Idle2 ∷ [])
      (without_padding octets)) (record vars {
        state = state.Idle2;
        current_id = Some id;
        retrans_count = 0;
        last_request = without_padding octets;
      }))
  passes_success : (octets : List ℕ) (id : ℕ) (stands : vars.state ≡ state.AaaIdle)
      (is_packet : packet_of octets ≡ Ok (success id))
      → PassRow vars (from_backend octets) (answer (asks (state.Success2 ∷ [])
      (without_padding octets)) (record vars { state = state.Success2 }))
  passes_failure : (octets : List ℕ) (id : ℕ) (stands : vars.state ≡ state.AaaIdle)
      (is_packet : packet_of octets ≡ Ok (failure id))
      → PassRow vars (from_backend octets) (answer (asks (state.Failure2 ∷ [])
      (without_padding octets)) (record vars { state = state.Failure2 }))

-- what comes of every input is one of these transitions
abbrev pub PassAnswersAreRows : Type 0
PassAnswersAreRows =
    (vars : PassVariables) (input : PassInput) → PassRow vars input (pass_accepts vars input)
