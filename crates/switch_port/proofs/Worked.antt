-- Rows, computed.
use Rattle.std.proofs.Common.{◌≡◌, ℕ, List, [], ◌∷◌, true, false, refl}
use Rattle.eap_packet.specs.Packet.{spelled}
use Rattle.eap_packet.specs.Fault.{packet_of, fault}
use Rattle.eapol_frame.specs.Frame.{frame_of}
use Rattle.pass_through.specs.PassTable.{initial_pass, pass_restart, pass_start, pass_from_peer}
use Rattle.pass_through.specs.PassTable.{pass_from_backend, pass_timeout}
use Rattle.switch_port.specs.declared.settings.PortControl.TheVariants.{Auto, ForceAuthorized}
use Rattle.switch_port.specs.declared.settings.PortLimits.{PortLimits}
use Rattle.switch_port.specs.declared.settings.Phase.TheVariants.{Held}
use Rattle.switch_port.specs.declared.step.ServerAnswer.TheVariants.{Challenge, Accept, Reject}
use Rattle.switch_port.specs.Port.{PortVariables, initial_port, port_link, port_frame, port_tick}
use Rattle.switch_port.specs.Port.{port_answer, port_control, to_station, to_server}
use Rattle.switch_port.specs.Laws.{port_accepts, port_after, link, frame, tick, answered, sets}

abbrev limits : PortLimits
limits = record {
  quiet_period = 60;
  server_timeout = 30;
  retrans_period = 3;
  re_auth_period = 3600;
  re_auth_max = 2;
}

abbrev fresh : PortVariables
fresh = initial_port limits Auto (initial_pass 0 4)

-- the frames of an Identity Response, with an octet of padding, of EAPOL-Start and EAPOL-Logoff
abbrev identity : List ℕ
identity = 2 ∷ 0 ∷ 0 ∷ 6 ∷ 2 ∷ 0 ∷ 0 ∷ 6 ∷ 1 ∷ 97 ∷ 0 ∷ []

abbrev start : List ℕ
start = 1 ∷ 1 ∷ 0 ∷ 0 ∷ []

abbrev logoff : List ℕ
logoff = 1 ∷ 2 ∷ 0 ∷ 0 ∷ []

-- a Success
abbrev succeeds : List ℕ
succeeds = 3 ∷ 7 ∷ 0 ∷ 4 ∷ []

-- the link comes up: an Identity Request goes out
first_frame : (port_accepts fresh (link true)).step ≡ to_station (1 ∷ 0 ∷ 0 ∷ 5 ∷ 1 ∷ [])
unfolding port_link pass_restart pass_start spelled
first_frame = refl

-- three seconds later again
again : (port_accepts (port_after fresh (link true ∷ tick ∷ tick ∷ [])) tick).step
    ≡ to_station (1 ∷ 0 ∷ 0 ∷ 5 ∷ 1 ∷ [])
unfolding port_after port_link port_tick pass_restart pass_start pass_timeout spelled
again = refl

-- the Identity Response goes to the server
asked : (port_accepts (port_after fresh (link true ∷ [])) (frame identity)).step
    ≡ to_server (2 ∷ 0 ∷ 0 ∷ 6 ∷ 1 ∷ 97 ∷ [])
unfolding port_after port_link port_frame frame_of pass_restart pass_start spelled pass_from_peer packet_of fault
asked = refl

-- an accept opens it
opened : (port_after fresh (link true ∷ frame identity ∷ answered Accept succeeds ∷ [])).authorized
    ≡ true
unfolding port_after port_link port_frame port_answer frame_of pass_restart pass_start spelled pass_from_peer pass_from_backend packet_of fault
opened = refl

-- a Challenge or a Reject with a Success doesn't
not_by_challenge : (port_after fresh (link true ∷ frame identity ∷ answered Challenge succeeds
    ∷ [])).authorized ≡ false
unfolding port_after port_link port_frame port_answer frame_of pass_restart pass_start spelled pass_from_peer pass_from_backend packet_of fault
not_by_challenge = refl

not_by_reject : (port_after fresh (link true ∷ frame identity ∷ answered Reject succeeds
    ∷ [])).phase ≡ Held
unfolding port_after port_link port_frame port_answer frame_of pass_restart pass_start spelled pass_from_peer pass_from_backend packet_of fault
not_by_reject = refl

-- an accept that nobody asked for doesn't
unasked : (port_after fresh (link true ∷ answered Accept succeeds ∷ [])).authorized ≡ false
unfolding port_after port_link port_answer pass_restart pass_start spelled packet_of fault
unasked = refl

-- an EAPOL-Start keeps it open for reAuthMax rounds, and no longer
stays : (port_after fresh (link true ∷ frame identity ∷ answered Accept succeeds ∷ frame start
    ∷ frame start ∷ [])).authorized ≡ true
unfolding port_after port_link port_frame port_answer frame_of pass_restart pass_start spelled pass_from_peer pass_from_backend packet_of fault
stays = refl

shut : (port_after fresh (link true ∷ frame identity ∷ answered Accept succeeds ∷ frame start
    ∷ frame start ∷ frame start ∷ [])).authorized ≡ false
unfolding port_after port_link port_frame port_answer frame_of pass_restart pass_start spelled pass_from_peer pass_from_backend packet_of fault
shut = refl

-- EAPOL-Logoff, a lost link and a forced port set back to Auto shut it at once
logged_off : (port_after fresh (link true ∷ frame identity ∷ answered Accept succeeds
    ∷ frame logoff ∷ [])).authorized ≡ false
unfolding port_after port_link port_frame port_answer frame_of pass_restart pass_start spelled pass_from_peer pass_from_backend packet_of fault
logged_off = refl

unlinked : (port_after fresh (link true ∷ frame identity ∷ answered Accept succeeds ∷ link false
    ∷ [])).authorized ≡ false
unfolding port_after port_link port_frame port_answer frame_of pass_restart pass_start spelled pass_from_peer pass_from_backend packet_of fault
unlinked = refl

back_to_auto : (port_after fresh (link true ∷ sets ForceAuthorized ∷ sets Auto ∷ [])).authorized
    ≡ false
unfolding port_after port_link port_control pass_restart pass_start spelled
back_to_auto = refl
