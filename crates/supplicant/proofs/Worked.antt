-- Rows, computed.
use Rattle.std.proofs.Common.{◌≡◌, ℕ, List, [], ◌∷◌, true, false, Some, None, refl}
use Rattle.std.specs.Prelude.{codes, replicate}
use Rattle.login_setup.specs.declared.setup.PeerSetup.{PeerSetup}
use Rattle.login_setup.specs.declared.setup.Accepts.TheVariants.{Any}
use Rattle.eap_packet.specs.Packet.{spelled}
use Rattle.eap_packet.specs.Packet as packet
use Rattle.eap_packet.specs.Fault.{packet_of, fault}
use Rattle.eap_method.specs.Peer.{views_started}
use Rattle.eapol_frame.specs.Frame.{frame_of}
use Rattle.peer_machine.specs.Expanded.{peer_receives}
use Rattle.peer_machine.specs.PeerTable.{initial_peer, peer_deliver, peer_restart}
use Rattle.supplicant.specs.declared.settings.Limits.{Limits}
use Rattle.supplicant.specs.declared.settings.Control.TheVariants as control
use Rattle.supplicant.specs.declared.settings.PaeState.TheVariants as pae
use Rattle.supplicant.specs.Table.{SupplicantNow, control_is_set, frame_comes, initial_supplicant}
use Rattle.supplicant.specs.Table.{link_comes_up, link_is_lost, packet_comes, second_goes_by}
use Rattle.supplicant.specs.Table.{user_logs_off, user_logs_on}
use Rattle.supplicant.specs.Runs.{accepts, after_inputs, frame, link_down, link_up, logoff, logon}
use Rattle.supplicant.specs.Runs.{sets, tick}

abbrev limits : Limits
limits = record {
  start_period = 2;
  max_start = 2;
  auth_period = 3;
  held_period = 1;
  port_valid = false;
}

-- a peer that allows no method
abbrev setup : PeerSetup
setup = record {
  name = codes "ann";
  accepts = Any;
  methods = [];
  suites = [];
  psk47 = None;
  psk51 = None;
  nonce = replicate 32 0;
  expanded = false;
}

abbrev fresh : SupplicantNow
fresh = initial_supplicant limits control.Auto (initial_peer setup (λ kind. None))

-- a frame with an Identity Request, and one with a Success
abbrev asks : List ℕ
asks = 2 ∷ 0 ∷ 0 ∷ 5 ∷ 1 ∷ 7 ∷ 0 ∷ 5 ∷ 1 ∷ []

abbrev succeeds : List ℕ
succeeds = 2 ∷ 0 ∷ 0 ∷ 4 ∷ 3 ∷ 7 ∷ 0 ∷ 4 ∷ []

-- the link comes up: an EAPOL-Start goes out
starts : (accepts fresh link_up).step.sent ≡ Some (2 ∷ 1 ∷ 0 ∷ 0 ∷ [])
unfolding link_comes_up
starts = refl

-- it is sent again after startPeriod, at most maxStart times
again : (accepts (after_inputs fresh (link_up ∷ tick ∷ [])) tick).step.sent ≡ Some (2 ∷ 1 ∷ 0 ∷ 0 ∷ [])
unfolding link_comes_up second_goes_by after_inputs
again = refl

unanswered : (after_inputs fresh (link_up ∷ tick ∷ tick ∷ tick ∷ tick ∷ [])).state ≡ pae.Held
unfolding link_comes_up second_goes_by after_inputs
unanswered = refl

-- a Request begins a login, and takes the nonce
answers : (accepts (after_inputs fresh (link_up ∷ [])) (frame asks (replicate 32 9))).step.sent
    ≡ Some (2 ∷ 0 ∷ 0 ∷ 8 ∷ 2 ∷ 7 ∷ 0 ∷ 8 ∷ 1 ∷ 97 ∷ 110 ∷ 110 ∷ [])
unfolding link_comes_up after_inputs frame_comes frame_of packet_comes packet_of fault peer_restart peer_receives peer_deliver spelled views_started
answers = refl

-- a Success before any method fails, and is held
no_success : (after_inputs fresh (link_up ∷ frame asks (replicate 32 9) ∷ frame succeeds (replicate 32 9) ∷ [])).state ≡ pae.Held
unfolding link_comes_up after_inputs frame_comes frame_of packet_comes packet_of fault peer_restart peer_receives peer_deliver views_started
no_success = refl

-- a Success that nobody waits for begins no login
unasked : (after_inputs fresh (link_up ∷ frame succeeds (replicate 32 9) ∷ [])).state ≡ pae.Connecting
unfolding link_comes_up after_inputs frame_comes frame_of packet_comes packet_of fault peer_restart peer_receives peer_deliver
unasked = refl

-- a silent authenticator amid a login
silence : (after_inputs fresh (link_up ∷ frame asks (replicate 32 9) ∷ tick ∷ tick ∷ tick ∷ [])).state ≡ pae.Connecting
unfolding link_comes_up second_goes_by after_inputs frame_comes frame_of packet_comes packet_of fault peer_restart peer_receives peer_deliver
silence = refl

-- a logoff says so once, and a logon connects again
logs_off : (accepts (after_inputs fresh (link_up ∷ [])) logoff).step.sent ≡ Some (2 ∷ 2 ∷ 0 ∷ 0 ∷ [])
unfolding link_comes_up after_inputs user_logs_off
logs_off = refl

logs_on : (after_inputs fresh (link_up ∷ logoff ∷ logon ∷ [])).state ≡ pae.Connecting
unfolding link_comes_up after_inputs user_logs_off user_logs_on
logs_on = refl

-- a forced port, back under control, is shut
forced : (after_inputs fresh (link_up ∷ sets control.ForceAuthorized ∷ [])).authorized ≡ true
unfolding link_comes_up after_inputs control_is_set
forced = refl

back : (after_inputs fresh (link_up ∷ sets control.ForceAuthorized ∷ sets control.Auto ∷ [])).authorized ≡ false
unfolding link_comes_up after_inputs control_is_set
back = refl

lost : (after_inputs fresh (link_up ∷ sets control.ForceAuthorized ∷ link_down ∷ [])).authorized ≡ false
unfolding link_comes_up after_inputs control_is_set link_is_lost
lost = refl
