-- The supplicant of IEEE 802.1X-2004 as a program in C sees it: its numbers, and what a call does.
use Rattle.std.specs.Prelude.{◌≡◌, ℕ, List, Bool, true, false, ⊤, ◌==◌, if◌then◌else◌}
use Rattle.std.specs.Prelude.{Option, None, Some, replicate}
use Rattle.eapol_frame.specs.declared.frame.FrameCause.{FrameCause}
use Rattle.eapol_frame.specs.declared.frame.FrameCause.TheVariants as frame_cause
use Rattle.end_objects.specs.Objects.{peer_object_shown}
use Rattle.end_objects.specs.Settings.{is_set}
use Rattle.end_objects.specs.declared.objects.PeerObject.{PeerObject}
use Rattle.supplicant.specs.Table.{SupplicantValue, SupplicantNow, Answer, shows}
use Rattle.supplicant.specs.Table.{link_comes_up, link_is_lost, user_logs_off, user_logs_on}
use Rattle.supplicant.specs.declared.settings.Limits.{Limits}
use Rattle.supplicant.specs.declared.settings.Control.{Control}
use Rattle.supplicant.specs.declared.settings.Control.TheVariants as control
use Rattle.supplicant.specs.declared.settings.PaeState.{PaeState}
use Rattle.supplicant.specs.declared.settings.PaeState.TheVariants as pae
use Rattle.supplicant.specs.declared.step.Discard.{Discard}
use Rattle.supplicant.specs.declared.step.Discard.TheVariants as discard
use Rattle.supplicant.specs.declared.step.SupplicantStep as brief
use Rattle.tuvaddri_c.specs.Sent.{Sent, after_turn, session_after_silence}
use Rattle.tuvaddri_c.specs.Turns.{cause_number, is_some}
use Rattle.tuvaddri_c.specs.declared.session.End.{End}
use Rattle.tuvaddri_c.specs.declared.session.End.TheVariants as ends
use Rattle.tuvaddri_c.specs.declared.session.Session.{Session}
use Rattle.tuvaddri_c.specs.declared.supplicant_calls.TuvSupplicantLimits.{TuvSupplicantLimits}
use Rattle.tuvaddri_c.specs.declared.supplicant_turn.TuvSupplicantTurn.{TuvSupplicantTurn}

-- if the end is a supplicant, this holds of it
abbrev pub IfSupplicant : End → (SupplicantValue PeerObject → Type 0) → Type 0
IfSupplicant e P = elim e [ ends.Supplicant m last ↦ P m | _ ↦ ⊤ ]

-- the end is a supplicant, and this holds of it
abbrev pub AsSupplicant : End → (SupplicantValue PeerObject → Type 0) → Type 0
AsSupplicant e P = elim e [ ends.Supplicant m last ↦ P m | _ ↦ ⊥ ]

abbrev pub is_supplicant : End → Bool
is_supplicant e = elim e [ ends.Supplicant m last ↦ true | _ ↦ false ]

-- the numbers of IEEE8021-PAE-MIB: of dot1xSuppPaeState
abbrev pub supplicant_state_number : PaeState → ℕ
supplicant_state_number pae.Disconnected = 1
supplicant_state_number pae.Logoff = 2
supplicant_state_number pae.Connecting = 3
supplicant_state_number pae.Authenticating = 4
supplicant_state_number pae.Authenticated = 5
supplicant_state_number pae.Held = 7
supplicant_state_number pae.ForceAuth = 9
supplicant_state_number pae.ForceUnauth = 10

-- of portControl: forceUnauthorized, auto, forceAuthorized
abbrev pub control_numbered : ℕ → Option Control
control_numbered number =
    if number == 1 then Some control.ForceUnauthorized
    else if number == 2 then Some control.Auto
    else if number == 3 then Some control.ForceAuthorized
    else None

-- the number of a cause: those of frames are behind those of packets
abbrev pub frame_cause_number : FrameCause → ℕ
frame_cause_number frame_cause.FrameShort = 64
frame_cause_number frame_cause.FrameTruncated = 65

abbrev pub discard_number : Discard → ℕ
discard_number (discard.Frame c) = frame_cause_number c
discard_number discard.NotPacket = 66
discard_number discard.Unheard = 67
discard_number discard.NotRequest = 68
discard_number (discard.Packet c) = cause_number c

abbrev pub number_of_discard : Option Discard → ℕ
number_of_discard None = 0
number_of_discard (Some d) = discard_number d

-- the timers and counts that a program gives
abbrev pub limits_of : TuvSupplicantLimits → Limits
limits_of told = record {
  start_period = told.start_period;
  max_start = told.max_start;
  auth_period = told.auth_period;
  held_period = told.held_period;
  port_valid = is_set told.port_valid;
}

-- no login uses the nonce that the peer begins with: each has its own
abbrev pub no_nonce : List ℕ
no_nonce = replicate 32 0

-- portEnabled, and userLogoff, as a number: 0 is false
abbrev pub link_is_set : ℕ → SupplicantNow → Answer
link_is_set enabled now = if enabled == 0 then link_is_lost now else link_comes_up now

abbrev pub logoff_is_set : ℕ → SupplicantNow → Answer
logoff_is_set logoff now = if logoff == 0 then user_logs_on now else user_logs_off now

-- a call that has no place
abbrev pub no_supplicant_turn : TuvSupplicantTurn
no_supplicant_turn = record {
  sends = false;
  discards = false;
  misplaced = true;
  took_nonce = false;
  authorized = false;
  cause = 0;
  state = 0;
}

-- it says so, and changes nothing
pub record IsNoSupplicant (before : Session) (turn : TuvSupplicantTurn)
    (after : Session) : Type 0 where
  pub turn_is : turn ≡ no_supplicant_turn
  pub same : after ≡ session_after_silence before

-- the result of a step that leaves the port and the state so
abbrev pub supplicant_turn : Bool → Bool → Option Discard → Bool → PaeState → TuvSupplicantTurn
supplicant_turn sends took cause authorized s = record {
  sends = sends;
  discards = is_some cause;
  misplaced = false;
  took_nonce = took;
  authorized = authorized;
  cause = number_of_discard cause;
  state = supplicant_state_number s;
}

-- as the machine says it, and as its table does
abbrev pub turn_of_step : brief.SupplicantStep → Bool → PaeState → TuvSupplicantTurn
turn_of_step step authorized s = supplicant_turn step.sends step.took step.cause authorized s

abbrev pub turn_of_row : Answer → TuvSupplicantTurn
turn_of_row row = supplicant_turn (is_some row.step.sent) row.step.took row.step.cause
    row.after.authorized row.after.state

-- the call answers what the supplicant's table says, sends the frame that it says, and leaves the
-- supplicant after it
pub record SupplicantDoes (row : Answer) (before : Sent) (turn : TuvSupplicantTurn) (sent : Sent)
    (after : SupplicantValue PeerObject) : Type 0 where
  pub turn_is : turn ≡ turn_of_row row
  pub sent_is : sent ≡ after_turn row.step.sent before
  pub machine : row.after ≡ shows peer_object_shown after
