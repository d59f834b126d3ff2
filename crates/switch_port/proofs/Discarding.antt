-- A discard changes no variable.
use Rattle.std.proofs.Common.{◌≡◌, ℕ, ◌+◌, ◌-◌, List, Bool, true, false, Option, Some, None, Result}
use Rattle.std.proofs.Common.{Ok, Err, refl, ap}
use Rattle.std.specs.Prelude.{if◌then◌else◌, nat_le, nat_lt, ◌==◌, IsSome}
use Rattle.eap_packet.specs.Fault.{packet_of}
use Rattle.eap_packet.specs.declared.cause.Cause.{Cause}
use Rattle.eapol_frame.specs.Frame.{FrameValue, frame_of, Contents, contents_by, eap_packet}
use Rattle.eapol_frame.specs.Frame.{eapol_start, eapol_logoff, other}
use Rattle.eapol_frame.specs.declared.frame.FrameCause.{FrameCause}
use Rattle.pass_through.specs.Inputs.{from_peer}
use Rattle.pass_through.specs.PassTable.{PassAnswer, pass_from_backend, pass_from_peer}
use Rattle.pass_through.specs.PassTable.{pass_restart, pass_timeout, is_over, has_timer}
use Rattle.pass_through.specs.declared.variables.PassVariables.{PassVariables}
use Rattle.pass_through.proofs.Carrying as passing
use Rattle.switch_port.specs.declared.settings.PortControl.{PortControl}
use Rattle.switch_port.specs.declared.settings.PortControl.TheVariants.{Auto, ForceAuthorized}
use Rattle.switch_port.specs.declared.settings.PortControl.TheVariants.{ForceUnauthorized}
use Rattle.switch_port.specs.declared.settings.Phase.{Phase}
use Rattle.switch_port.specs.declared.settings.Phase.TheVariants.{Down, Authenticating}
use Rattle.switch_port.specs.declared.settings.Phase.TheVariants.{Authenticated, Held, ForceAuth}
use Rattle.switch_port.specs.declared.settings.Phase.TheVariants.{ForceUnauth}
use Rattle.switch_port.specs.declared.step.PortCause.{PortCause}
use Rattle.switch_port.specs.declared.step.PortCause.TheVariants.{OutOfPhase}
use Rattle.switch_port.specs.declared.step.ServerAnswer.{ServerAnswer}
use Rattle.switch_port.specs.declared.step.ServerAnswer.TheVariants.{Challenge, Accept, Reject}
use Rattle.switch_port.specs.Port.{PortVariables, PortAnswer, port_link, port_frame, port_tick}
use Rattle.switch_port.specs.Port.{port_answer, port_server_lost, port_control, is_same, matches}
use Rattle.switch_port.specs.Port.{port_reauthenticate, answer, rests, discards, discarded, asks}
use Rattle.switch_port.specs.Port.{disconnects, connects, begins, comes_up, starts, logs_off}
use Rattle.switch_port.specs.Port.{forwards, from_station, by_contents, by_frame, by_code}
use Rattle.switch_port.specs.Port.{awaits_server, resends, expires, changes, asks_again}
use Rattle.switch_port.specs.Port.{for_station, for_server}
use Rattle.switch_port.specs.Laws.{PortInput, link, frame, tick, answered, server_lost, sets}
use Rattle.switch_port.specs.Laws.{reauthenticates, port_accepts, DiscardsChangeNothing}

-- an answer that is a discard for this cause leaves the port as it was
record Same (port : PortVariables) (c : PortCause) (out : PortAnswer) : Type 0 where
  same : out.step ≡ discarded c → out.after ≡ port

-- ---- what sends, or rests, is no discard

to_station_none : (sent : Option (List ℕ)) (c : PortCause) → for_station sent ≡ discarded c → ⊥
to_station_none None c e = cc e
to_station_none (Some packet) c e = cc e

to_server_none : (sent : Option (List ℕ)) (c : PortCause) → for_server sent ≡ discarded c → ⊥
to_server_none None c e = cc e
to_server_none (Some packet) c e = cc e

asks_same : (before port : PortVariables) (c : PortCause) → Same before c (asks port)
asks_same before port c = record {
  same = λ e. absurd (to_station_none (pass_restart port.pass).step.sent c e);
}

connects_by : (b : Bool) (before port : PortVariables) (c : PortCause)
    → Same before c (if b then asks (record port { re_auth_count = port.re_auth_count + 1 })
    else disconnects port)
connects_by true before port c =
    asks_same before (record port { re_auth_count = port.re_auth_count + 1 }) c
connects_by false before port c =
    asks_same before (record port { authorized = false; re_auth_count = 1 }) c

connects_same : (before port : PortVariables) (c : PortCause) → Same before c (connects port)
connects_same before port c =
    connects_by (nat_lt port.re_auth_count port.limits.re_auth_max) before port c

begins_same : (control : PortControl) (before port : PortVariables) (c : PortCause)
    → Same before c (begins control port)
begins_same Auto before port c =
    asks_same before (record port { authorized = false; re_auth_count = 1 }) c
begins_same ForceAuthorized before port c = record { same = λ e. cc e }
begins_same ForceUnauthorized before port c = record { same = λ e. cc e }

-- ---- frames

forwards_same : (cause : Option Cause) (out : PassAnswer) (port : PortVariables) (c : PortCause)
    → (IsSome cause → out.after ≡ port.pass) → Same port c (forwards cause out port)
forwards_same (Some d) out port c kept = record {
  same = λ e. ap (λ (pass : PassVariables). record port { pass = pass }) (kept search);
}
forwards_same None out port c kept = record {
  same = λ e. absurd (to_server_none out.step.sent c e);
}

station_same : (phase : Phase) (octets : List ℕ) (port : PortVariables) (c : PortCause)
    → Same port c (from_station phase octets port)
station_same Authenticating octets port c =
    let out = pass_from_peer port.pass octets in
    forwards_same out.step.cause out port c
    (λ is. (passing.discards_change_nothing port.pass (from_peer octets) is).all)
station_same phase octets port c = record { same = λ e. refl }

starts_same : (phase : Phase) (port : PortVariables) (c : PortCause) → Same port c (starts phase port)
starts_same Authenticating port c = connects_same port port c
starts_same Authenticated port c = connects_same port port c
starts_same ForceAuth port c = begins_same port.control port port c
starts_same ForceUnauth port c = begins_same port.control port port c
starts_same phase port c = record { same = λ e. refl }

logs_off_same : (phase : Phase) (port : PortVariables) (c : PortCause)
    → Same port c (logs_off phase port)
logs_off_same Authenticating port c = begins_same Auto port port c
logs_off_same Authenticated port c = begins_same Auto port port c
logs_off_same phase port c = record { same = λ e. refl }

contents_same : (contents : Contents) (port : PortVariables) (c : PortCause)
    → Same port c (by_contents contents port)
contents_same (eap_packet octets) port c = station_same port.phase octets port c
contents_same eapol_start port c = starts_same port.phase port c
contents_same eapol_logoff port c = logs_off_same port.phase port c
contents_same other port c = record { same = λ e. refl }

frame_same : (read : Result FrameValue FrameCause) (port : PortVariables) (c : PortCause)
    → Same port c (by_frame read port)
frame_same (Ok value) port c = contents_same (contents_by value.kind value.body) port c
frame_same (Err d) port c = record { same = λ e. refl }

-- ---- answers of the server

by_code_same : (b : Bool) (code : ServerAnswer) (out : PassAnswer) (port : PortVariables)
    (c : PortCause) → Same port c (by_code b code out port)
by_code_same true code out port c = record {
  same = λ e. absurd (to_station_none out.step.sent c e);
}
by_code_same false Challenge out port c = record { same = λ e. refl }
by_code_same false Accept out port c = record { same = λ e. cc e }
by_code_same false Reject out port c = record { same = λ e. cc e }

answer_by : (b : Bool) (code : ServerAnswer) (octets : List ℕ) (port : PortVariables)
    (c : PortCause) → Same port c (if b then by_code (matches code (packet_of octets)) code
    (pass_from_backend port.pass octets) port else discards OutOfPhase port)
answer_by true code octets port c = by_code_same (matches code (packet_of octets)) code
    (pass_from_backend port.pass octets) port c
answer_by false code octets port c = record { same = λ e. refl }

lost_by : (b : Bool) (port : PortVariables) (c : PortCause)
    → Same port c (if b then connects port else rests port)
lost_by true port c = connects_same port port c
lost_by false port c = record { same = λ e. refl }

-- ---- seconds, the link and the management

resends_by : (b : Bool) (out : PassAnswer) (port : PortVariables) (c : PortCause)
    → Same port c (if b then connects (record port { pass = out.after })
    else answer (for_station out.step.sent)
    (record port { pass = out.after; timer = port.limits.retrans_period }))
resends_by true out port c = connects_same port (record port { pass = out.after }) c
resends_by false out port c = record {
  same = λ e. absurd (to_station_none out.step.sent c e);
}

expires_by : (b : Bool) (out : PassAnswer) (port : PortVariables) (c : PortCause)
    → Same port c (if b then resends out port else connects port)
expires_by true out port c = resends_by (is_over out.after.state) out port c
expires_by false out port c = connects_same port port c

never_by : (b : Bool) (port : PortVariables) (c : PortCause)
    → Same port c (if b then rests port else connects port)
never_by true port c = record { same = λ e. refl }
never_by false port c = connects_same port port c

expires_same : (phase : Phase) (port : PortVariables) (c : PortCause)
    → Same port c (expires phase port)
expires_same Authenticating port c =
    expires_by (has_timer port.pass.state) (pass_timeout port.pass) port c
expires_same Authenticated port c = never_by (port.limits.re_auth_period == 0) port c
expires_same Held port c = connects_same port port c
expires_same phase port c = record { same = λ e. refl }

tick_by : (b : Bool) (port : PortVariables) (c : PortCause)
    → Same port c (if b then expires port.phase port
    else rests (record port { timer = port.timer - 1 }))
tick_by true port c = expires_same port.phase port c
tick_by false port c = record { same = λ e. cc e }

again_same : (phase : Phase) (port : PortVariables) (c : PortCause)
    → Same port c (asks_again phase port)
again_same Authenticated port c = connects_same port port c
again_same phase port c = record { same = λ e. refl }

comes_up_same : (phase : Phase) (port : PortVariables) (c : PortCause)
    → Same port c (comes_up phase port)
comes_up_same Down port c = begins_same port.control port port c
comes_up_same phase port c = record { same = λ e. refl }

link_same : (up : Bool) (port : PortVariables) (c : PortCause) → Same port c (port_link port up)
unfolding port_link
link_same true port c = comes_up_same port.phase port c
link_same false port c = record { same = λ e. cc e }

changes_same : (phase : Phase) (before port : PortVariables) (c : PortCause)
    → Same before c (changes phase port)
changes_same Down before port c = record { same = λ e. cc e }
changes_same phase before port c = begins_same port.control before port c

control_by : (b : Bool) (control : PortControl) (port : PortVariables) (c : PortCause)
    → Same port c (if b then rests port
    else changes port.phase (record port { control = control }))
control_by true control port c = record { same = λ e. refl }
control_by false control port c =
    changes_same port.phase port (record port { control = control }) c

-- ---- one input

input_same : (port : PortVariables) (input : PortInput) (c : PortCause)
    → Same port c (port_accepts port input)
unfolding port_frame port_tick port_answer port_server_lost port_control port_reauthenticate
input_same port (link up) c = link_same up port c
input_same port (frame octets) c = frame_same (frame_of octets) port c
input_same port tick c = tick_by (nat_le port.timer 1) port c
input_same port (answered code octets) c =
    answer_by (awaits_server port.phase port) code octets port c
input_same port server_lost c = lost_by (awaits_server port.phase port) port c
input_same port (sets control) c = control_by (is_same control port.control) control port c
input_same port reauthenticates c = again_same port.phase port c

pub discards_change_nothing : DiscardsChangeNothing
discards_change_nothing port input c e = (input_same port input c).same e
