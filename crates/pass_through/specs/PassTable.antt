-- The pass-through authenticator of RFC 4137 section 7: each call as a function.
use Rattle.std.specs.Prelude.{◌≡◌, ◌≤◌, ℕ, ◌+◌, List, [], ◌∷◌, Bool, true, false, ◌==◌, ◌||◌}
use Rattle.std.specs.Prelude.{nat_le, if◌then◌else◌, Option, Some, None, Result, Ok, Err, take}
use Rattle.octet_lists.specs.Among.{identity_kind}
use Rattle.eap_packet.specs.Packet.{PacketValue, request, response, success, failure, spelled}
use Rattle.eap_packet.specs.Fault.{packet_of, length_of}
use Rattle.eap_packet.specs.declared.cause.Cause.{Cause}
use Rattle.eap_packet.specs.declared.cause.Cause.TheVariants as cause
use Rattle.eap_packet.specs.declared.state.State.{State}
use Rattle.eap_packet.specs.declared.state.State.TheVariants as state
use Rattle.eap_method.specs.declared.step.Step as brief
use Rattle.pass_through.specs.declared.variables.PassVariables.{PassVariables}

-- its two sides
pub data Side : Type 0 where
  Peer : Side
  Server : Side

-- what one call does: the states that it enters, the cause of a discard, the side to which its
-- packets go, and the packet that it sends
pub record PassStep : Type 0 where
  pub path : List State
  pub cause : Option Cause
  pub to : Side
  pub sent : Option (List ℕ)

-- the step of a call that answers so, whose packets go to this side, with the packet that it wrote
abbrev pub step_to : Side → brief.Step → List ℕ → PassStep
step_to to step packet = record {
  path = step.path;
  cause = step.cause;
  to = to;
  sent = if step.sends then Some packet else None;
}

-- what a call answers, and the variables after it
pub record PassAnswer : Type 0 where
  pub step : PassStep
  pub after : PassVariables

abbrev pub answer : PassStep → PassVariables → PassAnswer
answer step after = record { step = step; after = after }

-- octets go to the peer; octets go to the server; nothing is sent; a discard of what would have
-- gone to this side
abbrev pub asks : List State → List ℕ → PassStep
asks path octets = record { path = path; cause = None; to = Peer; sent = Some octets }

abbrev pub passes_on : List State → List ℕ → PassStep
passes_on path octets = record { path = path; cause = None; to = Server; sent = Some octets }

abbrev pub rests : List State → PassStep
rests path = record { path = path; cause = None; to = Peer; sent = None }

abbrev pub discards : Side → List State → Cause → PassStep
discards to path c = record { path = path; cause = Some c; to = to; sent = None }

-- before the start
abbrev pub initial_pass : ℕ → ℕ → PassVariables
initial_pass first_id max_retrans = record {
  first_id = first_id;
  max_retrans = max_retrans;
  state = state.Initialize;
  current_id = None;
  retrans_count = 0;
  last_request = [];
}

-- the one packet that the pass-through makes itself
abbrev pub identity_request : ℕ → List ℕ
identity_request id = spelled (request id identity_kind [])

-- a delivery without what follows its Length
abbrev pub without_padding : List ℕ → List ℕ
without_padding octets = take (length_of octets) octets

-- INITIALIZE, then Identity is proposed and its Request sent
unfoldable pub pass_start : PassVariables → PassAnswer
pass_start vars =
    let octets = identity_request vars.first_id in
    answer
    (asks (state.Initialize ∷ state.SelectAction ∷ state.ProposeMethod ∷ state.MethodRequest
    ∷ state.SendRequest ∷ state.Idle ∷ []) octets)
    (record vars {
      state = state.Idle;
      current_id = Some vars.first_id;
      retrans_count = 0;
      last_request = octets;
    })

-- a restart: a new one, which starts
unfoldable pub pass_restart : PassVariables → PassAnswer
pass_restart vars = pass_start (initial_pass vars.first_id vars.max_retrans)

-- whether a number is the one that is awaited
abbrev pub is_awaited : Option ℕ → ℕ → Bool
is_awaited None number = false
is_awaited (Some awaited) number = awaited == number

-- DISCARD and DISCARD2 change nothing
abbrev pub idle_discard : PassVariables → Cause → PassAnswer
idle_discard vars c =
    answer (discards Server (state.Received ∷ state.Discard ∷ state.Idle ∷ []) c) vars

abbrev pub idle2_discard : PassVariables → Cause → PassAnswer
idle2_discard vars c =
    answer (discards Server (state.Received2 ∷ state.Discard2 ∷ state.Idle2 ∷ []) c) vars

-- IDLE: the Identity Response goes to the server as it came
abbrev pub idle_response : PassVariables → List ℕ → ℕ → PassAnswer
idle_response vars octets kind =
    if kind == identity_kind
    then answer
    (passes_on (state.Received ∷ state.IntegrityCheck ∷ state.MethodResponse ∷ state.SelectAction
    ∷ state.InitializePassthrough ∷ state.AaaRequest ∷ state.AaaIdle ∷ []) (without_padding octets))
    (record vars { state = state.AaaIdle })
    else idle_discard vars cause.WrongMethod

abbrev pub idle_row : PassVariables → List ℕ → Result PacketValue Cause → PassAnswer
idle_row vars octets (Err c) = idle_discard vars c
idle_row vars octets (Ok (response id kind body)) =
    if is_awaited vars.current_id id then idle_response vars octets kind
    else idle_discard vars cause.IdMismatch
idle_row vars octets (Ok packet) = idle_discard vars cause.WrongRole

-- IDLE2: a Response with currentId goes to the server as it came
abbrev pub idle2_row : PassVariables → List ℕ → Result PacketValue Cause → PassAnswer
idle2_row vars octets (Err c) = idle2_discard vars c
idle2_row vars octets (Ok (response id kind body)) =
    if is_awaited vars.current_id id
    then answer (passes_on (state.Received2 ∷ state.AaaRequest ∷ state.AaaIdle ∷ [])
    (without_padding octets)) (record vars { state = state.AaaIdle })
    else idle2_discard vars cause.IdMismatch
idle2_row vars octets (Ok packet) = idle2_discard vars cause.WrongRole

-- AAA_IDLE: a Request goes to the peer as it came, a Success or a Failure too, and ends it
abbrev pub aaa_row : PassVariables → List ℕ → Result PacketValue Cause → PassAnswer
aaa_row vars octets (Err c) = answer (discards Peer [] c) vars
aaa_row vars octets (Ok (request id kind body)) =
    answer (asks (state.AaaResponse ∷ state.SendRequest2 ∷ state.Idle2 ∷ [])
    (without_padding octets)) (record vars {
      state = state.Idle2;
      current_id = Some id;
      retrans_count = 0;
      last_request = without_padding octets;
    })
aaa_row vars octets (Ok (response id kind body)) = answer (discards Peer [] cause.WrongRole) vars
aaa_row vars octets (Ok (success id)) = answer (asks (state.Success2 ∷ []) (without_padding octets))
    (record vars { state = state.Success2 })
aaa_row vars octets (Ok (failure id)) = answer (asks (state.Failure2 ∷ []) (without_padding octets))
    (record vars { state = state.Failure2 })

-- what comes from the side that isn't waited for is discarded with an empty path
abbrev pub not_waiting : Side → PassVariables → PassAnswer
not_waiting to vars = answer (discards to [] cause.NotWaiting) vars

-- whether it has ended; whether it waits for the peer's identity, for the peer, or for the server
abbrev pub is_over : State → Bool
is_over s = elim s [
  | state.Success2 ↦ true
  | state.Failure2 ↦ true
  | state.TimeoutFailure ↦ true
  | state.TimeoutFailure2 ↦ true
  | _ ↦ false
]

abbrev pub is_idle : State → Bool
is_idle s = elim s [ state.Idle ↦ true | _ ↦ false ]

abbrev pub is_idle2 : State → Bool
is_idle2 s = elim s [ state.Idle2 ↦ true | _ ↦ false ]

abbrev pub is_aaa_idle : State → Bool
is_aaa_idle s = elim s [ state.AaaIdle ↦ true | _ ↦ false ]

-- octets come from the peer
unfoldable pub pass_from_peer : PassVariables → List ℕ → PassAnswer
pass_from_peer vars octets =
    if is_over vars.state then answer (discards Server [] cause.Ended) vars
    else if is_idle vars.state then idle_row vars octets (packet_of octets)
    else if is_idle2 vars.state then idle2_row vars octets (packet_of octets)
    else not_waiting Server vars

-- octets come from the server
unfoldable pub pass_from_backend : PassVariables → List ℕ → PassAnswer
pass_from_backend vars octets =
    if is_over vars.state then answer (discards Peer [] cause.Ended) vars
    else if is_aaa_idle vars.state then aaa_row vars octets (packet_of octets)
    else not_waiting Peer vars

-- the retransmission timer ends: the Request is sent again, at most MaxRetrans times
abbrev pub resends : PassVariables → State → State → State → PassAnswer
resends vars entered back over =
    let count = vars.retrans_count + 1 in
    if nat_le count vars.max_retrans
    then answer (asks (entered ∷ back ∷ []) vars.last_request)
    (record vars { retrans_count = count; state = back })
    else answer (rests (entered ∷ over ∷ [])) (record vars { retrans_count = count; state = over })

unfoldable pub pass_timeout : PassVariables → PassAnswer
pass_timeout vars =
    if is_idle vars.state then resends vars state.Retransmit state.Idle state.TimeoutFailure
    else resends vars state.Retransmit2 state.Idle2 state.TimeoutFailure2

-- the server is lost, or has nothing to ask
unfoldable pub pass_aaa_timeout : PassVariables → PassAnswer
pass_aaa_timeout vars =
    answer (rests (state.TimeoutFailure2 ∷ [])) (record vars { state = state.TimeoutFailure2 })

unfoldable pub pass_aaa_noreq : PassVariables → PassAnswer
pass_aaa_noreq vars =
    answer (rests (state.Discard2 ∷ state.Idle2 ∷ [])) (record vars { state = state.Idle2 })

-- whether the retransmission timer runs, and whether it has started
abbrev pub has_timer : State → Bool
has_timer s = is_idle s || is_idle2 s

abbrev pub is_started : State → Bool
is_started s = elim s [ state.Initialize ↦ false | _ ↦ true ]

-- what holds of the variables at every moment
pub record AreInOrder (vars : PassVariables) : Type 0 where
  -- if it has not ended, the Request was sent again at most MaxRetrans times
  pub in_time : is_over vars.state ≡ false → vars.retrans_count ≤ vars.max_retrans
  pub few : vars.max_retrans ≤ 10
