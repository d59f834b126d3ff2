-- The port of IEEE 802.1X-2004 as a program in C sees it: its numbers, and what a call does.
use Rattle.std.specs.Prelude.{◌≡◌, ℕ, List, Bool, true, false, ⊤, ◌==◌, not, if◌then◌else◌}
use Rattle.std.specs.Prelude.{Option, None, Some}
use Rattle.eapol_frame.specs.Frame.{own_frame, spelled}
use Rattle.switch_port.specs.Port.{PortVariables, PortStep, PortAnswer, silent, to_station}
use Rattle.switch_port.specs.Port.{to_server, discarded, awaits_server}
use Rattle.switch_port.specs.declared.settings.Phase.{Phase}
use Rattle.switch_port.specs.declared.settings.Phase.TheVariants as phase
use Rattle.switch_port.specs.declared.settings.PortControl.{PortControl}
use Rattle.switch_port.specs.declared.settings.PortControl.TheVariants as control
use Rattle.switch_port.specs.declared.settings.PortLimits.{PortLimits}
use Rattle.switch_port.specs.declared.step.PortCause.{PortCause}
use Rattle.switch_port.specs.declared.step.PortCause.TheVariants as port_cause
use Rattle.switch_port.specs.declared.step.ServerAnswer.{ServerAnswer}
use Rattle.switch_port.specs.declared.step.ServerAnswer.TheVariants as answer
use Rattle.tuvaddri_c.specs.Sent.{Sent, after_turn, session_after_silence}
use Rattle.tuvaddri_c.specs.Supplicants.{frame_cause_number}
use Rattle.tuvaddri_c.specs.Turns.{cause_number}
use Rattle.tuvaddri_c.specs.declared.port_calls.TuvPortLimits.{TuvPortLimits}
use Rattle.tuvaddri_c.specs.declared.port_turn.TuvPortTurn.{TuvPortTurn}
use Rattle.tuvaddri_c.specs.declared.session.End.{End}
use Rattle.tuvaddri_c.specs.declared.session.End.TheVariants as ends
use Rattle.tuvaddri_c.specs.declared.session.Session.{Session}

-- if the end is a port, this holds of it
abbrev pub IfPort : End → (PortVariables → Type 0) → Type 0
IfPort e P = elim e [ ends.Port m last ↦ P m | _ ↦ ⊤ ]

-- the end is a port, and this holds of it
abbrev pub AsPort : End → (PortVariables → Type 0) → Type 0
AsPort e P = elim e [ ends.Port m last ↦ P m | _ ↦ ⊥ ]

abbrev pub is_port : End → Bool
is_port e = elim e [ ends.Port m last ↦ true | _ ↦ false ]

-- the numbers of IEEE8021-PAE-MIB: of dot1xAuthPaeState
abbrev pub phase_number : Phase → ℕ
phase_number phase.Down = 1
phase_number phase.Authenticating = 4
phase_number phase.Authenticated = 5
phase_number phase.Held = 7
phase_number phase.ForceAuth = 8
phase_number phase.ForceUnauth = 9

-- of AuthControlledPortControl: forceUnauthorized, auto, forceAuthorized
abbrev pub port_control_numbered : ℕ → Option PortControl
port_control_numbered number =
    if number == 1 then Some control.ForceUnauthorized
    else if number == 2 then Some control.Auto
    else if number == 3 then Some control.ForceAuthorized
    else None

-- of an answer's Code (RFC 2865 section 3): Access-Accept, Access-Reject, Access-Challenge
abbrev pub answer_numbered : ℕ → Option ServerAnswer
answer_numbered code =
    if code == 2 then Some answer.Accept
    else if code == 3 then Some answer.Reject
    else if code == 11 then Some answer.Challenge
    else None

-- the number of a cause: those of frames are behind those of packets
abbrev pub port_cause_number : PortCause → ℕ
port_cause_number (port_cause.NoFrame c) = frame_cause_number c
port_cause_number port_cause.OtherType = 66
port_cause_number port_cause.OutOfPhase = 67
port_cause_number port_cause.NoRequest = 68
port_cause_number (port_cause.NoPacket c) = cause_number c

-- the times and the bound that a program gives
abbrev pub port_limits_of : TuvPortLimits → PortLimits
port_limits_of told = record {
  quiet_period = told.quiet_period;
  server_timeout = told.server_timeout;
  retrans_period = told.retrans_period;
  re_auth_period = told.re_auth_period;
  re_auth_max = told.re_auth_max;
}

-- portEnabled as a number: 0 is false
abbrev pub is_enabled : ℕ → Bool
is_enabled number = not (number == 0)

-- a call that has no place
abbrev pub no_port_turn : TuvPortTurn
no_port_turn = record {
  to_station = false;
  to_server = false;
  discards = false;
  misplaced = true;
  authorized = false;
  awaits_server = false;
  cause = 0;
  state = 0;
}

-- it says so, and changes nothing
pub record IsNoPort (before : Session) (turn : TuvPortTurn) (after : Session) : Type 0 where
  pub turn_is : turn ≡ no_port_turn
  pub same : after ≡ session_after_silence before

-- the result of a step that sends nothing, and leaves the port so
abbrev pub rests_so : PortVariables → TuvPortTurn
rests_so after = record {
  to_station = false;
  to_server = false;
  discards = false;
  misplaced = false;
  authorized = after.authorized;
  awaits_server = awaits_server after.phase after;
  cause = 0;
  state = phase_number after.phase;
}

-- the result of a step of the table
abbrev pub port_turn : PortStep → PortVariables → TuvPortTurn
port_turn silent after = rests_so after
port_turn (to_station packet) after = record (rests_so after) { to_station = true }
port_turn (to_server packet) after = record (rests_so after) { to_server = true }
port_turn (discarded c) after =
    record (rests_so after) { discards = true; cause = port_cause_number c }

-- what it sends: the station a frame, the server the packet
abbrev pub sent_by : PortStep → Option (List ℕ)
sent_by silent = None
sent_by (to_station packet) = Some (spelled (own_frame 0 packet))
sent_by (to_server packet) = Some packet
sent_by (discarded c) = None

-- the call answers what the port's table says, sends what it says, and leaves the port after it
pub record PortDoes (row : PortAnswer) (before : Sent) (turn : TuvPortTurn) (sent : Sent)
    (after : PortVariables) : Type 0 where
  pub turn_is : turn ≡ port_turn row.step row.after
  pub sent_is : sent ≡ after_turn (sent_by row.step) before
  pub machine : row.after ≡ after
