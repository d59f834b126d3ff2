-- The port of an authenticator (IEEE 802.1X-2004 clauses 8.2.4, 8.2.8 and 8.2.9) over the
-- pass-through of RFC 4137 section 7: each call as a function, one row of one table.
use Rattle.std.specs.Prelude.{ℕ, ◌+◌, ◌-◌, List, Bool, true, false, ◌==◌, nat_le, nat_lt}
use Rattle.std.specs.Prelude.{if◌then◌else◌, Option, Some, None, Result, Ok, Err}
use Rattle.eap_packet.specs.Packet.{PacketValue, request, success, failure, spelled}
use Rattle.eap_packet.specs.Fault.{packet_of}
use Rattle.eap_packet.specs.declared.cause.Cause.{Cause}
use Rattle.eapol_frame.specs.Frame.{FrameValue, frame_of, Contents, contents_by, eap_packet}
use Rattle.eapol_frame.specs.Frame.{eapol_start, eapol_logoff, other}
use Rattle.eapol_frame.specs.declared.frame.FrameCause.{FrameCause}
use Rattle.pass_through.specs.PassTable.{PassAnswer, is_aaa_idle, is_over, has_timer}
use Rattle.pass_through.specs.PassTable.{pass_from_backend, pass_from_peer, pass_restart}
use Rattle.pass_through.specs.PassTable.{pass_timeout}
use Rattle.pass_through.specs.declared.variables.PassVariables.{PassVariables}
use Rattle.switch_port.specs.declared.settings.PortControl.{PortControl}
use Rattle.switch_port.specs.declared.settings.PortControl.TheVariants.{Auto, ForceAuthorized}
use Rattle.switch_port.specs.declared.settings.PortControl.TheVariants.{ForceUnauthorized}
use Rattle.switch_port.specs.declared.settings.PortLimits.{PortLimits}
use Rattle.switch_port.specs.declared.settings.Phase.{Phase}
use Rattle.switch_port.specs.declared.settings.Phase.TheVariants.{Down, Authenticating}
use Rattle.switch_port.specs.declared.settings.Phase.TheVariants.{Authenticated, Held, ForceAuth}
use Rattle.switch_port.specs.declared.settings.Phase.TheVariants.{ForceUnauth}
use Rattle.switch_port.specs.declared.step.ServerAnswer.{ServerAnswer}
use Rattle.switch_port.specs.declared.step.ServerAnswer.TheVariants.{Challenge, Accept, Reject}
use Rattle.switch_port.specs.declared.step.PortCause.{PortCause}
use Rattle.switch_port.specs.declared.step.PortCause.TheVariants.{NoFrame, OtherType, OutOfPhase}
use Rattle.switch_port.specs.declared.step.PortCause.TheVariants.{NoPacket, NoRequest}
use Rattle.switch_port.specs.declared.step.PortStep as brief
use Rattle.switch_port.specs.declared.step.PortStep.TheVariants as variant

-- the port's variables
pub record PortVariables : Type 0 where
  pub limits : PortLimits
  -- AuthControlledPortControl
  pub control : PortControl
  pub phase : Phase
  -- authPortStatus is Authorized
  pub authorized : Bool
  pub pass : PassVariables
  -- reAuthCount
  pub re_auth_count : ℕ
  -- the seconds that are left of the phase's timer
  pub timer : ℕ

-- what one call does: nothing is sent, this packet goes to the station or to the server, or what
-- came is discarded
pub data PortStep : Type 0 where
  silent : PortStep
  to_station : List ℕ → PortStep
  to_server : List ℕ → PortStep
  discarded : PortCause → PortStep

-- the step of a call that answers so, with the packet that it wrote
abbrev pub step_with : brief.PortStep → List ℕ → PortStep
step_with variant.Rests packet = silent
step_with variant.ToStation packet = to_station packet
step_with variant.ToServer packet = to_server packet
step_with (variant.Discards c) packet = discarded c

-- what a call answers, and the variables after it
pub record PortAnswer : Type 0 where
  pub step : PortStep
  pub after : PortVariables

abbrev pub answer : PortStep → PortVariables → PortAnswer
answer step after = record { step = step; after = after }

abbrev pub rests : PortVariables → PortAnswer
rests port = answer silent port

abbrev pub discards : PortCause → PortVariables → PortAnswer
discards c port = answer (discarded c) port

-- what the pass-through sends
abbrev pub for_station : Option (List ℕ) → PortStep
for_station None = silent
for_station (Some packet) = to_station packet

abbrev pub for_server : Option (List ℕ) → PortStep
for_server None = silent
for_server (Some packet) = to_server packet

-- RESTART, CONNECTING, AUTHENTICATING, REQUEST: the station is asked who it is
abbrev pub asks : PortVariables → PortAnswer
asks port =
    let out = pass_restart port.pass in
    answer (for_station out.step.sent) (record port {
      phase = Authenticating;
      pass = out.after;
      timer = port.limits.retrans_period;
    })

-- DISCONNECTED before it: the port is shut
abbrev pub disconnects : PortVariables → PortAnswer
disconnects port = asks (record port { authorized = false; re_auth_count = 1 })

-- RESTART: the port stays as it is, but for reAuthMax rounds at most
abbrev pub connects : PortVariables → PortAnswer
connects port =
    if nat_lt port.re_auth_count port.limits.re_auth_max
    then asks (record port { re_auth_count = port.re_auth_count + 1 })
    else disconnects port

-- FORCE_AUTH and FORCE_UNAUTH: a Success or a Failure of the port's own, with the Identifier 0
abbrev pub forces_open : PortVariables → PortAnswer
forces_open port = answer (to_station (spelled (success 0)))
    (record port { phase = ForceAuth; authorized = true })

abbrev pub forces_shut : PortVariables → PortAnswer
forces_shut port = answer (to_station (spelled (failure 0)))
    (record port { phase = ForceUnauth; authorized = false })

abbrev pub begins : PortControl → PortVariables → PortAnswer
begins Auto port = disconnects port
begins ForceAuthorized port = forces_open port
begins ForceUnauthorized port = forces_shut port

-- the link comes up, or goes down, which shuts the port
abbrev pub comes_up : Phase → PortVariables → PortAnswer
comes_up Down port = begins port.control port
comes_up phase port = rests port

unfoldable pub port_link : PortVariables → Bool → PortAnswer
port_link port true = comes_up port.phase port
port_link port false = rests (record port { phase = Down; authorized = false })

-- EAPOL-Start
abbrev pub starts : Phase → PortVariables → PortAnswer
starts Authenticating port = connects port
starts Authenticated port = connects port
starts ForceAuth port = begins port.control port
starts ForceUnauth port = begins port.control port
starts phase port = discards OutOfPhase port

-- EAPOL-Logoff
abbrev pub logs_off : Phase → PortVariables → PortAnswer
logs_off Authenticating port = disconnects port
logs_off Authenticated port = disconnects port
logs_off phase port = discards OutOfPhase port

-- RESPONSE: what the pass-through takes of the station goes to the server
abbrev pub forwards : Option Cause → PassAnswer → PortVariables → PortAnswer
forwards (Some c) out port = discards (NoPacket c) (record port { pass = out.after })
forwards None out port = answer (for_server out.step.sent)
    (record port { pass = out.after; timer = port.limits.server_timeout })

abbrev pub from_station : Phase → List ℕ → PortVariables → PortAnswer
from_station Authenticating octets port =
    let out = pass_from_peer port.pass octets in forwards out.step.cause out port
from_station phase octets port = discards OutOfPhase port

abbrev pub by_contents : Contents → PortVariables → PortAnswer
by_contents (eap_packet octets) port = from_station port.phase octets port
by_contents eapol_start port = starts port.phase port
by_contents eapol_logoff port = logs_off port.phase port
by_contents other port = discards OtherType port

abbrev pub by_frame : Result FrameValue FrameCause → PortVariables → PortAnswer
by_frame (Ok frame) port = by_contents (contents_by frame.kind frame.body) port
by_frame (Err c) port = discards (NoFrame c) port

-- the station's octets behind the header of Ethernet
unfoldable pub port_frame : PortVariables → List ℕ → PortAnswer
port_frame port octets = by_frame (frame_of octets) port

-- whether an answer's packet says what its Code says (RFC 3579 section 2.6.3)
abbrev pub matches : ServerAnswer → Result PacketValue Cause → Bool
matches Challenge (Ok (request id kind body)) = true
matches Accept (Ok (success id)) = true
matches Reject (Ok (failure id)) = true
matches code packet = false

-- REQUEST; SUCCESS, AUTHENTICATED; FAIL, HELD
abbrev pub settles : ServerAnswer → PortVariables → PortVariables
settles Challenge port = record port { timer = port.limits.retrans_period }
settles Accept port = record port {
  phase = Authenticated;
  authorized = true;
  re_auth_count = 0;
  timer = port.limits.re_auth_period;
}
settles Reject port =
    record port { phase = Held; authorized = false; timer = port.limits.quiet_period }

-- another packet: the Code decides, and nothing goes to the station
abbrev pub mismatches : ServerAnswer → PortVariables → PortAnswer
mismatches Challenge port = discards NoRequest port
mismatches code port = rests (settles Reject port)

abbrev pub by_code : Bool → ServerAnswer → PassAnswer → PortVariables → PortAnswer
by_code true code out port =
    answer (for_station out.step.sent) (settles code (record port { pass = out.after }))
by_code false code out port = mismatches code port

-- whether the server is waited for
abbrev pub awaits_server : Phase → PortVariables → Bool
awaits_server Authenticating port = is_aaa_idle port.pass.state
awaits_server phase port = false

-- an answer of the server to the outstanding request, and its EAP packet
unfoldable pub port_answer : PortVariables → ServerAnswer → List ℕ → PortAnswer
port_answer port code octets =
    if awaits_server port.phase port
    then by_code (matches code (packet_of octets)) code (pass_from_backend port.pass octets) port
    else discards OutOfPhase port

-- no answer comes any more
unfoldable pub port_server_lost : PortVariables → PortAnswer
port_server_lost port = if awaits_server port.phase port then connects port else rests port

-- the Request is sent again, or the pass-through gave up
abbrev pub resends : PassAnswer → PortVariables → PortAnswer
resends out port =
    if is_over out.after.state then connects (record port { pass = out.after })
    else answer (for_station out.step.sent)
    (record port { pass = out.after; timer = port.limits.retrans_period })

-- the timer of the phase ends: retransWhile or aWhile, reAuthWhen, quietWhile
abbrev pub expires : Phase → PortVariables → PortAnswer
expires Authenticating port =
    if has_timer port.pass.state then resends (pass_timeout port.pass) port else connects port
expires Authenticated port = if port.limits.re_auth_period == 0 then rests port else connects port
expires Held port = connects port
expires phase port = rests port

-- a second has gone by
unfoldable pub port_tick : PortVariables → PortAnswer
port_tick port =
    if nat_le port.timer 1 then expires port.phase port
    else rests (record port { timer = port.timer - 1 })

abbrev pub is_same : PortControl → PortControl → Bool
is_same Auto Auto = true
is_same ForceAuthorized ForceAuthorized = true
is_same ForceUnauthorized ForceUnauthorized = true
is_same one another = false

abbrev pub changes : Phase → PortVariables → PortAnswer
changes Down port = rests (record port { authorized = false })
changes phase port = begins port.control port

-- the management sets the control
unfoldable pub port_control : PortVariables → PortControl → PortAnswer
port_control port control =
    if is_same control port.control then rests port
    else changes port.phase (record port { control = control })

-- the management asks for a reauthentication
abbrev pub asks_again : Phase → PortVariables → PortAnswer
asks_again Authenticated port = connects port
asks_again phase port = rests port

unfoldable pub port_reauthenticate : PortVariables → PortAnswer
port_reauthenticate port = asks_again port.phase port

-- a port that has no link yet
abbrev pub initial_port : PortLimits → PortControl → PassVariables → PortVariables
initial_port limits control pass = record {
  limits = limits;
  control = control;
  phase = Down;
  authorized = false;
  pass = pass;
  re_auth_count = 0;
  timer = 0;
}
