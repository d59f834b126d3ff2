-- The supplicant of IEEE 802.1X-2004 clauses 8.2.11 and 8.2.12 over the peer of RFC 4137 section 4:
-- one call, one row. In each state in which it rests at most one timer counts.
use Rattle.std.specs.Prelude.{ℕ, ◌+◌, ◌-◌, List, [], Bool, true, false, ◌==◌, ◌&&◌, nat_le, nat_lt}
use Rattle.std.specs.Prelude.{if◌then◌else◌, Option, Some, None, Result, Ok, Err, is_some, map}
use Rattle.eap_packet.specs.Packet.{PacketValue, request}
use Rattle.eap_packet.specs.Fault.{packet_of}
use Rattle.eap_packet.specs.declared.cause.Cause.{Cause}
use Rattle.eap_packet.specs.declared.state.State.{State}
use Rattle.eap_packet.specs.declared.state.State.TheVariants as state
use Rattle.eap_method.specs.Peer.{PeerShown, peer_kinds, have_each}
use Rattle.eap_method.specs.Steps as eap
use Rattle.eapol_frame.specs.Frame.{FrameValue, frame_of, own_frame, spelled}
use Rattle.eapol_frame.specs.declared.frame.FrameCause.{FrameCause}
use Rattle.peer_machine.specs.Expanded.{peer_receives}
use Rattle.peer_machine.specs.PeerTable.{PeerValue, PeerNow, PeerAnswer, now_of, peer_reports}
use Rattle.peer_machine.specs.PeerTable.{peer_restart}
use Rattle.supplicant.specs.declared.settings.Limits.{Limits}
use Rattle.supplicant.specs.declared.settings.Control.{Control}
use Rattle.supplicant.specs.declared.settings.Control.TheVariants as control
use Rattle.supplicant.specs.declared.settings.PaeState.{PaeState}
use Rattle.supplicant.specs.declared.settings.PaeState.TheVariants as pae
use Rattle.supplicant.specs.declared.step.Discard.{Discard}
use Rattle.supplicant.specs.declared.step.Discard.TheVariants as discard
use Rattle.supplicant.specs.declared.step.SupplicantStep as brief

-- a supplicant as its fields show it
pub record SupplicantValue (M : Type 0) : Type 0 where
  pub limits : Limits
  pub control : Control
  pub logged_off : Bool
  pub state : PaeState
  pub authorized : Bool
  pub start_count : ℕ
  pub timer : ℕ
  pub peer : PeerValue M

-- the same with the peer's views; `complete`: each method that the peer allows has an object
pub record SupplicantNow : Type 0 where
  pub limits : Limits
  pub control : Control
  pub logged_off : Bool
  pub state : PaeState
  pub authorized : Bool
  pub start_count : ℕ
  pub timer : ℕ
  pub peer : PeerNow
  pub complete : Bool

abbrev pub has_objects : {M : Type 0} → (M → PeerShown) → PeerValue M → Bool
has_objects shown peer =
    have_each (peer_kinds (map shown peer.methods)) peer.vars.setup.methods

abbrev pub shows : {M : Type 0} → (M → PeerShown) → SupplicantValue M → SupplicantNow
shows shown value = record {
  limits = value.limits;
  control = value.control;
  logged_off = value.logged_off;
  state = value.state;
  authorized = value.authorized;
  start_count = value.start_count;
  timer = value.timer;
  peer = now_of shown value.peer;
  complete = has_objects shown value.peer;
}

-- what one call does: the frame that goes to the authenticator, whether it took the nonce, and why it
-- discards what came
pub record Step : Type 0 where
  pub sent : Option (List ℕ)
  pub took : Bool
  pub cause : Option Discard

pub record Answer : Type 0 where
  pub step : Step
  pub after : SupplicantNow

abbrev pub answer : Step → SupplicantNow → Answer
answer step after = record { step = step; after = after }

-- the step of a call that answers so, with the frame that it wrote
abbrev pub step_with : brief.SupplicantStep → List ℕ → Step
step_with step frame = record {
  sent = if step.sends then Some frame else None;
  took = step.took;
  cause = step.cause;
}

-- the frames that a supplicant sends (clause 7.5.4): EAPOL-Start, EAPOL-Logoff, an EAP packet
abbrev pub start_frame : List ℕ
start_frame = spelled (own_frame 1 [])

abbrev pub logoff_frame : List ℕ
logoff_frame = spelled (own_frame 2 [])

abbrev pub packet_frame : List ℕ → List ℕ
packet_frame octets = spelled (own_frame 0 octets)

abbrev pub sends : List ℕ → SupplicantNow → Answer
sends frame after = answer (record { sent = Some frame; took = false; cause = None }) after

abbrev pub rests : SupplicantNow → Answer
rests after = answer (record { sent = None; took = false; cause = None }) after

abbrev pub discards : Discard → SupplicantNow → Answer
discards cause now = answer (record { sent = None; took = false; cause = Some cause }) now

-- startCount, which is never over maxStart
abbrev pub next_count : SupplicantNow → ℕ
next_count now =
    if nat_lt now.start_count now.limits.max_start then now.start_count + 1 else now.start_count

-- CONNECTING
abbrev pub connects : SupplicantNow → Answer
connects now = sends start_frame (record now {
  state = pae.Connecting;
  start_count = next_count now;
  timer = now.limits.start_period;
})

-- DISCONNECTED, and from there CONNECTING, S_FORCE_AUTH or S_FORCE_UNAUTH
abbrev pub begins : Control → SupplicantNow → Answer
begins control.Auto now = connects (record now { authorized = false; start_count = 0 })
begins control.ForceAuthorized now =
    rests (record now { state = pae.ForceAuth; authorized = true })
begins control.ForceUnauthorized now =
    sends logoff_frame (record now { state = pae.ForceUnauth; authorized = false })

-- LOGOFF
abbrev pub leaves : SupplicantNow → Answer
leaves now = sends logoff_frame (record now { state = pae.Logoff; authorized = false })

-- HELD
abbrev pub holds : SupplicantNow → SupplicantNow
holds now =
    record now { state = pae.Held; authorized = false; timer = now.limits.held_period }

-- AUTHENTICATED
abbrev pub opens : SupplicantNow → SupplicantNow
opens now = record now { state = pae.Authenticated; authorized = true }

-- the link comes up, or is lost
abbrev pub comes_up : PaeState → SupplicantNow → Answer
comes_up pae.Disconnected now = if now.logged_off then leaves now else begins now.control now
comes_up state now = rests now

unfoldable pub link_comes_up : SupplicantNow → Answer
link_comes_up now = comes_up now.state now

unfoldable pub link_is_lost : SupplicantNow → Answer
link_is_lost now = rests (record now { state = pae.Disconnected; authorized = false })

-- the user logs off, or on again
abbrev pub logs_off : PaeState → SupplicantNow → Answer
logs_off pae.Disconnected now = rests (record now { logged_off = true })
logs_off pae.Logoff now = rests now
logs_off state now = leaves (record now { logged_off = true })

unfoldable pub user_logs_off : SupplicantNow → Answer
user_logs_off now = logs_off now.state now

abbrev pub logs_on : PaeState → SupplicantNow → Answer
logs_on pae.Logoff now = begins now.control (record now { logged_off = false })
logs_on state now = rests (record now { logged_off = false })

unfoldable pub user_logs_on : SupplicantNow → Answer
user_logs_on now = logs_on now.state now

-- the management sets the control: without a link, and logged off, it is noted
abbrev pub is_auto : Control → Bool
is_auto by = elim by [ control.Auto ↦ true | _ ↦ false ]

abbrev pub is_force_authorized : Control → Bool
is_force_authorized by = elim by [ control.ForceAuthorized ↦ true | _ ↦ false ]

abbrev pub is_force_unauthorized : Control → Bool
is_force_unauthorized by = elim by [ control.ForceUnauthorized ↦ true | _ ↦ false ]

abbrev pub is_control : Control → Control → Bool
is_control control.Auto other = is_auto other
is_control control.ForceAuthorized other = is_force_authorized other
is_control control.ForceUnauthorized other = is_force_unauthorized other

abbrev pub changes : Control → SupplicantNow → Answer
changes by now =
    if is_control by now.control then rests now else begins by (record now { control = by })

abbrev pub sets : PaeState → Control → SupplicantNow → Answer
sets pae.Disconnected by now = rests (record now { control = by })
sets pae.Logoff by now = rests (record now { control = by })
sets state by now = changes by now

unfoldable pub control_is_set : Control → SupplicantNow → Answer
control_is_set by now = sets now.state by now

-- the timer of a state ends: startWhen, authWhile, heldWhile
abbrev pub is_unanswered : SupplicantNow → Answer
is_unanswered now =
    if nat_lt now.start_count now.limits.max_start then connects now
    else if now.limits.port_valid then rests (opens now)
    else rests (holds now)

abbrev pub counts : Answer → SupplicantNow → Answer
counts ended now =
    if nat_le now.timer 1 then ended else rests (record now { timer = now.timer - 1 })

-- a second has gone by
abbrev pub ticks : PaeState → SupplicantNow → Answer
ticks pae.Connecting now = counts (is_unanswered now) now
ticks pae.Authenticating now = counts (connects now) now
ticks pae.Held now = counts (connects now) now
ticks state now = rests now

unfoldable pub second_goes_by : SupplicantNow → Answer
second_goes_by now = ticks now.state now

-- the peer has ended: with a report it opens the port
abbrev pub succeeded : State → Bool → Bool
succeeded s reports = elim s [ state.Success ↦ reports | _ ↦ false ]

abbrev pub ends : SupplicantNow → SupplicantNow
ends now =
    if succeeded now.peer.vars.state (is_some (peer_reports now.peer)) then opens now
    else holds now

abbrev pub waits : SupplicantNow → SupplicantNow
waits now = record now { timer = now.limits.auth_period }

abbrev pub settles : SupplicantNow → SupplicantNow
settles now = if eap.is_end now.peer.vars.state then ends now else waits now

-- what the peer's step comes to: a Response is sent; a discard keeps the timer
abbrev pub goes_on : Bool → Option (List ℕ) → Option Cause → SupplicantNow → Answer
goes_on took sent (Some cause) now =
    answer (record { sent = None; took = took; cause = Some (discard.Packet cause) }) now
goes_on took (Some packet) None now =
    answer (record { sent = Some (packet_frame packet); took = took; cause = None }) (waits now)
goes_on took None None now =
    answer (record { sent = None; took = took; cause = None }) (settles now)

abbrev pub hears : Bool → SupplicantNow → PeerAnswer → Answer
hears took now out = goes_on took out.step.sent out.step.cause (record now { peer = out.after })

-- AUTHENTICATING: RECEIVE, REQUEST, RESPONSE
abbrev pub hears_more : List ℕ → SupplicantNow → Answer
hears_more octets now = hears false now (peer_receives now.peer octets)

-- RESTART, AUTHENTICATING: the peer begins a new login, if it is asked
abbrev pub is_request : Result PacketValue Cause → Bool
is_request (Ok (request id kind body)) = true
is_request packet = false

abbrev pub is_asked : List ℕ → SupplicantNow → Bool
is_asked octets now = now.complete && is_request (packet_of octets)

abbrev pub restarted : List ℕ → SupplicantNow → SupplicantNow
restarted nonce now = record now {
  state = pae.Authenticating;
  start_count = 0;
  timer = now.limits.auth_period;
  peer = (peer_restart now.peer nonce).after;
}

abbrev pub hears_first : List ℕ → List ℕ → SupplicantNow → Answer
hears_first octets nonce now =
    if is_asked octets now
    then hears true (restarted nonce now)
    (peer_receives (peer_restart now.peer nonce).after octets)
    else discards discard.NotRequest now

-- an EAP packet comes from the authenticator
abbrev pub takes : PaeState → List ℕ → List ℕ → SupplicantNow → Answer
takes pae.Connecting octets nonce now = hears_first octets nonce now
takes pae.Authenticating octets nonce now = hears_more octets now
takes pae.Authenticated octets nonce now = hears_first octets nonce now
takes pae.Held octets nonce now = hears_first octets nonce now
takes state octets nonce now = discards discard.Unheard now

unfoldable pub packet_comes : List ℕ → List ℕ → SupplicantNow → Answer
packet_comes octets nonce now = takes now.state octets nonce now

-- a frame comes from the authenticator, with a nonce that no login had before
abbrev pub contents_come : Result FrameValue FrameCause → List ℕ → SupplicantNow → Answer
contents_come (Ok frame) nonce now =
    if frame.kind == 0 then packet_comes frame.body nonce now else discards discard.NotPacket now
contents_come (Err cause) nonce now = discards (discard.Frame cause) now

unfoldable pub frame_comes : List ℕ → List ℕ → SupplicantNow → Answer
frame_comes octets nonce now = contents_come (frame_of octets) nonce now

-- a supplicant without a link
abbrev pub initial_supplicant : Limits → Control → PeerNow → SupplicantNow
initial_supplicant limits by peer = record {
  limits = limits;
  control = by;
  logged_off = false;
  state = pae.Disconnected;
  authorized = false;
  start_count = 0;
  timer = 0;
  peer = peer;
  complete = true;
}
