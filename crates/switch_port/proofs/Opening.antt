-- A port in mode Auto is opened by an Access-Accept alone.
use Rattle.std.proofs.Common.{◌≡◌, ◌⊎◌, inl, inr, ℕ, ◌+◌, List, [], ◌∷◌, Bool, true, false, Ok, Err}
use Rattle.std.proofs.Common.{Result, Option, Some, None, refl}
use Rattle.std.specs.Prelude.{if◌then◌else◌, nat_le, nat_lt, ◌==◌, ◌-◌}
use Rattle.eap_packet.specs.Packet.{PacketValue, request, response, success, failure}
use Rattle.eap_packet.specs.Fault.{packet_of}
use Rattle.eap_packet.specs.declared.cause.Cause.{Cause}
use Rattle.eapol_frame.specs.Frame.{FrameValue, frame_of, Contents, contents_by, eap_packet}
use Rattle.eapol_frame.specs.Frame.{eapol_start, eapol_logoff, other}
use Rattle.eapol_frame.specs.declared.frame.FrameCause.{FrameCause}
use Rattle.pass_through.specs.PassTable.{PassAnswer, pass_from_backend, pass_from_peer}
use Rattle.pass_through.specs.PassTable.{pass_timeout, is_aaa_idle, is_over, has_timer}
use Rattle.switch_port.specs.declared.settings.PortControl.{PortControl}
use Rattle.switch_port.specs.declared.settings.PortControl.TheVariants.{Auto, ForceAuthorized}
use Rattle.switch_port.specs.declared.settings.PortControl.TheVariants.{ForceUnauthorized}
use Rattle.switch_port.specs.declared.settings.Phase.{Phase}
use Rattle.switch_port.specs.declared.settings.Phase.TheVariants.{Down, Authenticating}
use Rattle.switch_port.specs.declared.settings.Phase.TheVariants.{Authenticated, Held, ForceAuth}
use Rattle.switch_port.specs.declared.settings.Phase.TheVariants.{ForceUnauth}
use Rattle.switch_port.specs.declared.step.ServerAnswer.{ServerAnswer}
use Rattle.switch_port.specs.declared.step.ServerAnswer.TheVariants.{Challenge, Accept, Reject}
use Rattle.switch_port.specs.Port.{PortVariables, port_link, port_frame, port_tick}
use Rattle.switch_port.specs.Port.{port_answer, port_server_lost, port_control, is_same, matches}
use Rattle.switch_port.specs.Port.{port_reauthenticate, answer, rests, discards, asks, disconnects}
use Rattle.switch_port.specs.Port.{connects, begins, comes_up, starts, logs_off, forwards}
use Rattle.switch_port.specs.Port.{from_station, by_contents, by_frame, by_code}
use Rattle.switch_port.specs.Port.{awaits_server, resends, expires, changes, asks_again}
use Rattle.switch_port.specs.Port.{for_station, initial_port}
use Rattle.switch_port.specs.declared.step.PortCause.TheVariants.{OutOfPhase}
use Rattle.switch_port.specs.Laws.{PortInput, link, frame, tick, answered, server_lost, sets}
use Rattle.switch_port.specs.Laws.{reauthenticates, port_accepts, port_after, IsOpen, LetsIn}
use Rattle.switch_port.specs.Laws.{by_accept, StaysOpen, still, goes_on, WasLetIn, now, later}
use Rattle.switch_port.specs.Laws.{OpensOnlyByAccept}

-- ---- what opens a port

connects_by : (b : Bool) (port : PortVariables)
    → IsOpen (if b then asks (record port { re_auth_count = port.re_auth_count + 1 })
    else disconnects port).after → IsOpen port
connects_by true port h = record { opened = h.opened; auto = h.auto }
connects_by false port h = absurd (cc (h.opened))

connects_open : (port : PortVariables) → IsOpen (connects port).after → IsOpen port
connects_open port h =
    connects_by (nat_lt port.re_auth_count port.limits.re_auth_max) port h

begins_open : (control : PortControl) (port : PortVariables) → port.control ≡ control
    → IsOpen (begins control port).after → ⊥
begins_open Auto port c h = cc (h.opened)
begins_open ForceAuthorized port c h = cc (h.auto)
begins_open ForceUnauthorized port c h = cc (h.opened)

-- the packet of an Accept that opens
is_success : (packet : Result PacketValue Cause) → matches Accept packet ≡ true
    → (id : ℕ) × (packet ≡ Ok (success id))
is_success (Ok (request id kind body)) m = cc
is_success (Ok (response id kind body)) m = cc
is_success (Ok (success id)) m = (id, refl)
is_success (Ok (failure id)) m = cc
is_success (Err c) m = cc

by_code_open : (b : Bool) (code : ServerAnswer) (octets : List ℕ) (out : PassAnswer)
    (port : PortVariables) → matches code (packet_of octets) ≡ b
    → is_aaa_idle port.pass.state ≡ true → IsOpen (by_code b code out port).after
    → IsOpen port ⊎ LetsIn port (answered code octets)
by_code_open true Challenge octets out port m a h =
    inl (record { opened = h.opened; auto = h.auto })
by_code_open true Accept octets out port m a h =
    let came = is_success (packet_of octets) m in inr (by_accept octets came.0 a came.1)
by_code_open true Reject octets out port m a h = absurd (cc (h.opened))
by_code_open false Challenge octets out port m a h =
    inl (record { opened = h.opened; auto = h.auto })
by_code_open false Accept octets out port m a h = absurd (cc (h.opened))
by_code_open false Reject octets out port m a h = absurd (cc (h.opened))

awaited : (phase : Phase) (port : PortVariables) → awaits_server phase port ≡ true
    → is_aaa_idle port.pass.state ≡ true
awaited Authenticating port a = a
awaited phase port a = cc

answer_by : (b : Bool) (code : ServerAnswer) (octets : List ℕ) (port : PortVariables)
    → awaits_server port.phase port ≡ b
    → IsOpen (if b then by_code (matches code (packet_of octets)) code
    (pass_from_backend port.pass octets) port else discards OutOfPhase port).after
    → IsOpen port ⊎ LetsIn port (answered code octets)
answer_by true code octets port a h = by_code_open (matches code (packet_of octets)) code octets
    (pass_from_backend port.pass octets) port refl (awaited port.phase port a) h
answer_by false code octets port a h = inl (record { opened = h.opened; auto = h.auto })

-- ---- what leaves an open port open

forwards_open : (c : Option Cause) (out : PassAnswer) (port : PortVariables)
    → IsOpen (forwards c out port).after → IsOpen port
forwards_open (Some c) out port h = record { opened = h.opened; auto = h.auto }
forwards_open None out port h = record { opened = h.opened; auto = h.auto }

station_open : (phase : Phase) (octets : List ℕ) (port : PortVariables)
    → IsOpen (from_station phase octets port).after → IsOpen port
station_open Authenticating octets port h =
    let out = pass_from_peer port.pass octets in forwards_open out.step.cause out port h
station_open phase octets port h = record { opened = h.opened; auto = h.auto }

starts_open : (phase : Phase) (port : PortVariables) → IsOpen (starts phase port).after
    → IsOpen port
starts_open Authenticating port h = connects_open port h
starts_open Authenticated port h = connects_open port h
starts_open ForceAuth port h = absurd (begins_open port.control port refl h)
starts_open ForceUnauth port h = absurd (begins_open port.control port refl h)
starts_open phase port h = record { opened = h.opened; auto = h.auto }

logs_off_open : (phase : Phase) (port : PortVariables) → IsOpen (logs_off phase port).after
    → IsOpen port
logs_off_open Authenticating port h = absurd (cc (h.opened))
logs_off_open Authenticated port h = absurd (cc (h.opened))
logs_off_open phase port h = record { opened = h.opened; auto = h.auto }

contents_open : (contents : Contents) (port : PortVariables) → IsOpen (by_contents contents port).after
    → IsOpen port
contents_open (eap_packet octets) port h = station_open port.phase octets port h
contents_open eapol_start port h = starts_open port.phase port h
contents_open eapol_logoff port h = logs_off_open port.phase port h
contents_open other port h = record { opened = h.opened; auto = h.auto }

frame_open : (read : Result FrameValue FrameCause) (port : PortVariables)
    → IsOpen (by_frame read port).after → IsOpen port
frame_open (Ok value) port h = contents_open (contents_by value.kind value.body) port h
frame_open (Err c) port h = record { opened = h.opened; auto = h.auto }

resends_by : (b : Bool) (out : PassAnswer) (port : PortVariables)
    → IsOpen (if b then connects (record port { pass = out.after })
    else answer (for_station out.step.sent)
    (record port { pass = out.after; timer = port.limits.retrans_period })).after → IsOpen port
resends_by true out port h =
    let is = connects_open (record port { pass = out.after }) h in
    record { opened = is.opened; auto = is.auto }
resends_by false out port h = record { opened = h.opened; auto = h.auto }

expires_by : (b : Bool) (out : PassAnswer) (port : PortVariables)
    → IsOpen (if b then resends out port else connects port).after → IsOpen port
expires_by true out port h = resends_by (is_over out.after.state) out port h
expires_by false out port h = connects_open port h

never_by : (b : Bool) (port : PortVariables)
    → IsOpen (if b then rests port else connects port).after → IsOpen port
never_by true port h = record { opened = h.opened; auto = h.auto }
never_by false port h = connects_open port h

expires_open : (phase : Phase) (port : PortVariables) → IsOpen (expires phase port).after
    → IsOpen port
expires_open Authenticating port h =
    expires_by (has_timer port.pass.state) (pass_timeout port.pass) port h
expires_open Authenticated port h = never_by (port.limits.re_auth_period == 0) port h
expires_open Held port h = connects_open port h
expires_open phase port h = record { opened = h.opened; auto = h.auto }

tick_by : (b : Bool) (port : PortVariables)
    → IsOpen (if b then expires port.phase port
    else rests (record port { timer = port.timer - 1 })).after → IsOpen port
tick_by true port h = expires_open port.phase port h
tick_by false port h = record { opened = h.opened; auto = h.auto }

lost_by : (b : Bool) (port : PortVariables)
    → IsOpen (if b then connects port else rests port).after → IsOpen port
lost_by true port h = connects_open port h
lost_by false port h = record { opened = h.opened; auto = h.auto }

again_open : (phase : Phase) (port : PortVariables) → IsOpen (asks_again phase port).after
    → IsOpen port
again_open Authenticated port h = connects_open port h
again_open phase port h = record { opened = h.opened; auto = h.auto }

comes_up_open : (phase : Phase) (port : PortVariables) → IsOpen (comes_up phase port).after
    → IsOpen port
comes_up_open Down port h = absurd (begins_open port.control port refl h)
comes_up_open phase port h = record { opened = h.opened; auto = h.auto }

-- another control opens no port in mode Auto
changes_open : (phase : Phase) (port : PortVariables) → IsOpen (changes phase port).after → ⊥
changes_open Down port h = cc (h.opened)
changes_open phase port h = begins_open port.control port refl h

control_by : (b : Bool) (control : PortControl) (port : PortVariables)
    → IsOpen (if b then rests port
    else changes port.phase (record port { control = control })).after → IsOpen port
control_by true control port h = record { opened = h.opened; auto = h.auto }
control_by false control port h =
    absurd (changes_open port.phase (record port { control = control }) h)

-- ---- one input

link_open : (up : Bool) (port : PortVariables) → IsOpen (port_link port up).after → IsOpen port
unfolding port_link
link_open true port h = comes_up_open port.phase port h
link_open false port h = absurd (cc (h.opened))

step : (port : PortVariables) (input : PortInput) → IsOpen (port_accepts port input).after
    → IsOpen port ⊎ LetsIn port input
unfolding port_frame port_tick port_answer port_server_lost port_control port_reauthenticate
step port (link up) h = inl (link_open up port h)
step port (frame octets) h = inl (frame_open (frame_of octets) port h)
step port tick h = inl (tick_by (nat_le port.timer 1) port h)
step port (answered code octets) h =
    answer_by (awaits_server port.phase port) code octets port refl h
step port server_lost h = inl (lost_by (awaits_server port.phase port) port h)
step port (sets control) h = inl (control_by (is_same control port.control) control port h)
step port reauthenticates h = inl (again_open port.phase port h)

-- ---- over a run

first : (port : PortVariables) (came : List PortInput) → StaysOpen port came → IsOpen port
first _ _ (still port is) = is
first _ _ (goes_on port input rest is on) = is

joins : (port : PortVariables) (input : PortInput) (rest : List PortInput)
    → StaysOpen (port_accepts port input).after rest → IsOpen port ⊎ LetsIn port input
    → StaysOpen port (input ∷ rest) ⊎ WasLetIn port (input ∷ rest)
joins port input rest on (inl is) = inl (goes_on port input rest is on)
joins port input rest on (inr by) = inr (now port input rest by on)

carries : (port : PortVariables) (input : PortInput) (rest : List PortInput)
    → StaysOpen (port_accepts port input).after rest ⊎ WasLetIn (port_accepts port input).after rest
    → StaysOpen port (input ∷ rest) ⊎ WasLetIn port (input ∷ rest)
carries port input rest (inl on) = joins port input rest on
    (step port input (first (port_accepts port input).after rest on))
carries port input rest (inr was) = inr (later port input rest was)

along : (port : PortVariables) (came : List PortInput) → IsOpen (port_after port came)
    → StaysOpen port came ⊎ WasLetIn port came
unfolding port_after
along port [] h = inl (still port h)
along port (input ∷ rest) h = carries port input rest (along (port_accepts port input).after rest h)

not_first : (port : PortVariables) (came : List PortInput) → port.authorized ≡ false
    → StaysOpen port came ⊎ WasLetIn port came → WasLetIn port came
not_first port came is_shut (inl on) = absurd (cc (is_shut, (first port came on).opened))
not_first port came is_shut (inr was) = was

pub opens_only_by_accept : OpensOnlyByAccept
opens_only_by_accept limits control pass came h =
    not_first (initial_port limits control pass) came refl
    (along (initial_port limits control pass) came h)
