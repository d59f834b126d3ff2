-- What each input brings to the peer.
use Rattle.std.proofs.Common.{◌≡◌, ℕ, ◌-◌, List, Bool, true, false, Option, None, Some, refl}
use Rattle.std.proofs.Common.{Result, Ok, Err}
use Rattle.std.specs.Prelude.{if◌then◌else◌, nat_le, nat_lt, ◌==◌}
use Rattle.eap_packet.specs.declared.cause.Cause.{Cause}
use Rattle.eap_method.specs.Steps.{is_end}
use Rattle.eap_packet.specs.declared.state.State.{State}
use Rattle.eapol_frame.specs.Frame.{FrameValue, frame_of}
use Rattle.eapol_frame.specs.declared.frame.FrameCause.{FrameCause}
use Rattle.peer_machine.specs.Expanded.{peer_receives}
use Rattle.peer_machine.specs.PeerTable.{PeerNow, peer_restart}
use Rattle.supplicant.specs.declared.settings.Control.{Control}
use Rattle.supplicant.specs.declared.settings.Control.TheVariants as control
use Rattle.supplicant.specs.declared.settings.PaeState.{PaeState}
use Rattle.supplicant.specs.declared.settings.PaeState.TheVariants as pae
use Rattle.supplicant.specs.declared.step.Discard.TheVariants as discard
use Rattle.supplicant.specs.Table.{Answer, SupplicantNow, begins, comes_up, connects, contents_come}
use Rattle.supplicant.specs.Table.{control_is_set, discards, ends, frame_comes, goes_on, hears, holds}
use Rattle.supplicant.specs.Table.{is_asked, is_control, is_unanswered, leaves, link_comes_up}
use Rattle.supplicant.specs.Table.{link_is_lost, logs_off, logs_on, opens, packet_comes, restarted}
use Rattle.supplicant.specs.Table.{rests, second_goes_by, sets, settles, succeeded, takes, ticks}
use Rattle.supplicant.specs.Table.{user_logs_off, user_logs_on, waits}
use Rattle.supplicant.specs.Runs.{Input, accepts, frame, link_down, link_up, logoff, logon, tick}
use Rattle.supplicant.specs.Runs as inputs
use Rattle.supplicant.specs.Laws.{Brings, login, nothing, packet, PeerIsAnEnd}

-- a call that leaves the peer alone
abbrev Leaves : SupplicantNow → Answer → Type 0
Leaves now out = out.after.peer ≡ now.peer

begins_alone : (by : Control) (now : SupplicantNow) → Leaves now (begins by now)
begins_alone control.Auto now = refl
begins_alone control.ForceAuthorized now = refl
begins_alone control.ForceUnauthorized now = refl

up_by : (b : Bool) (now : SupplicantNow)
    → Leaves now (if b then leaves now else begins now.control now)
up_by true now = refl
up_by false now = begins_alone now.control now

up : (s : PaeState) (now : SupplicantNow) → Leaves now (comes_up s now)
up pae.Disconnected now = up_by now.logged_off now
up s now = refl

off : (s : PaeState) (now : SupplicantNow) → Leaves now (logs_off s now)
off pae.Disconnected now = refl
off pae.Logoff now = refl
off s now = refl

on : (s : PaeState) (now : SupplicantNow) → Leaves now (logs_on s now)
on pae.Logoff now = begins_alone now.control (record now { logged_off = false })
on s now = refl

changed_by : (b : Bool) (by : Control) (now : SupplicantNow)
    → Leaves now (if b then rests now else begins by (record now { control = by }))
changed_by true by now = refl
changed_by false by now = begins_alone by (record now { control = by })

set_to : (s : PaeState) (by : Control) (now : SupplicantNow) → Leaves now (sets s by now)
set_to pae.Disconnected by now = refl
set_to pae.Logoff by now = refl
set_to s by now = changed_by (is_control by now.control) by now

valid_by : (b v : Bool) (now : SupplicantNow) → Leaves now
    (if b then connects now else if v then rests (opens now) else rests (holds now))
valid_by true v now = refl
valid_by false true now = refl
valid_by false false now = refl

counted_by : (b : Bool) (ended : Answer) (now : SupplicantNow) → Leaves now ended
    → Leaves now (if b then ended else rests (record now { timer = now.timer - 1 }))
counted_by true ended now e = e
counted_by false ended now e = refl

ticked : (s : PaeState) (now : SupplicantNow) → Leaves now (ticks s now)
ticked pae.Connecting now = counted_by (nat_le now.timer 1) (is_unanswered now) now
    (valid_by (nat_lt now.start_count now.limits.max_start) now.limits.port_valid now)
ticked pae.Authenticating now = counted_by (nat_le now.timer 1) (connects now) now refl
ticked pae.Held now = counted_by (nat_le now.timer 1) (connects now) now refl
ticked s now = refl

-- ---- frames

opened_by : (b : Bool) (now : SupplicantNow)
    → (if b then opens now else holds now).peer ≡ now.peer
opened_by true now = refl
opened_by false now = refl

settled_by : (b : Bool) (now : SupplicantNow)
    → (if b then ends now else waits now).peer ≡ now.peer
settled_by true now = opened_by _ now
settled_by false now = refl

went_on : (took : Bool) (sent : Option (List ℕ)) (cause : Option Cause) (now : SupplicantNow)
    → Leaves now (goes_on took sent cause now)
went_on took sent (Some cause) now = refl
went_on took (Some octets) None now = refl
went_on took None None now = settled_by (is_end now.peer.vars.state) now

heard : (took : Bool) (peer : PeerNow) (bytes : List ℕ) (now : SupplicantNow)
    → (hears took now (peer_receives peer bytes)).after.peer ≡ (peer_receives peer bytes).after
heard took peer bytes now =
    let out = peer_receives peer bytes in
    went_on took out.step.sent out.step.cause (record now { peer = out.after })

asked_by : (b : Bool) (bytes nonce : List ℕ) (now : SupplicantNow)
    → Brings now.peer (if b then hears true (restarted nonce now)
    (peer_receives (peer_restart now.peer nonce).after bytes)
    else discards discard.NotRequest now).after.peer
asked_by true bytes nonce now = login nonce bytes
    (heard true (peer_restart now.peer nonce).after bytes (restarted nonce now))
asked_by false bytes nonce now = nothing refl

took : (s : PaeState) (bytes nonce : List ℕ) (now : SupplicantNow)
    → Brings now.peer (takes s bytes nonce now).after.peer
took pae.Connecting bytes nonce now = asked_by (is_asked bytes now) bytes nonce now
took pae.Authenticating bytes nonce now = packet bytes (heard false now.peer bytes now)
took pae.Authenticated bytes nonce now = asked_by (is_asked bytes now) bytes nonce now
took pae.Held bytes nonce now = asked_by (is_asked bytes now) bytes nonce now
took s bytes nonce now = nothing refl

came : (bytes nonce : List ℕ) (now : SupplicantNow)
    → Brings now.peer (packet_comes bytes nonce now).after.peer
unfolding packet_comes
came bytes nonce now = took now.state bytes nonce now

kind_by : (b : Bool) (bytes nonce : List ℕ) (now : SupplicantNow) → Brings now.peer
    (if b then packet_comes bytes nonce now else discards discard.NotPacket now).after.peer
kind_by true bytes nonce now = came bytes nonce now
kind_by false bytes nonce now = nothing refl

came_in : (contents : Result FrameValue FrameCause) (nonce : List ℕ) (now : SupplicantNow)
    → Brings now.peer (contents_come contents nonce now).after.peer
came_in (Ok whole) nonce now = kind_by (whole.kind == 0) whole.body nonce now
came_in (Err cause) nonce now = nothing refl

pub peer_is_an_end : PeerIsAnEnd
unfolding link_comes_up link_is_lost frame_comes second_goes_by user_logs_off user_logs_on control_is_set
peer_is_an_end now link_up = nothing (up now.state now)
peer_is_an_end now link_down = nothing refl
peer_is_an_end now (frame bytes nonce) = came_in (frame_of bytes) nonce now
peer_is_an_end now tick = nothing (ticked now.state now)
peer_is_an_end now logoff = nothing (off now.state now)
peer_is_an_end now logon = nothing (on now.state now)
peer_is_an_end now (inputs.sets by) = nothing (set_to now.state by now)
