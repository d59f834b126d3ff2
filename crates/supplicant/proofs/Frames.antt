-- What a supplicant sends.
use Rattle.std.proofs.Common.{◌≡◌, ℕ, ◌-◌, List, Bool, true, false, Option, None, Some, refl}
use Rattle.std.proofs.Common.{Result, Ok, Err}
use Rattle.std.specs.Prelude.{IfSome, if◌then◌else◌, nat_le, nat_lt, ◌==◌}
use Rattle.eap_packet.specs.declared.cause.Cause.{Cause}
use Rattle.eapol_frame.specs.Frame.{FrameValue, frame_of}
use Rattle.eapol_frame.specs.declared.frame.FrameCause.{FrameCause}
use Rattle.peer_machine.specs.Expanded.{peer_receives}
use Rattle.peer_machine.specs.PeerTable.{PeerNow, peer_restart}
use Rattle.supplicant.specs.declared.settings.Control.{Control}
use Rattle.supplicant.specs.declared.settings.Control.TheVariants as control
use Rattle.supplicant.specs.declared.settings.PaeState.{PaeState}
use Rattle.supplicant.specs.declared.settings.PaeState.TheVariants as pae
use Rattle.supplicant.specs.declared.step.Discard.TheVariants as discard
use Rattle.supplicant.specs.Table.{Answer, SupplicantNow, begins, comes_up, connects, contents_come}
use Rattle.supplicant.specs.Table.{control_is_set, discards, frame_comes, goes_on, hears, holds}
use Rattle.supplicant.specs.Table.{is_asked, is_control, is_unanswered, leaves, link_comes_up}
use Rattle.supplicant.specs.Table.{link_is_lost, logs_off, logs_on, opens, packet_comes, restarted}
use Rattle.supplicant.specs.Table.{rests, second_goes_by, sets, takes, ticks, user_logs_off}
use Rattle.supplicant.specs.Table.{user_logs_on}
use Rattle.supplicant.specs.Runs.{Input, accepts, frame, link_down, link_up, logoff, logon, tick}
use Rattle.supplicant.specs.Runs as inputs
use Rattle.supplicant.specs.Laws.{IsOwnFrame, is_logoff, is_response, is_start, SendsOwnFrames}

record Own (out : Answer) : Type 0 where
  own : (octets : List ℕ) → out.step.sent ≡ Some octets → IsOwnFrame octets

silent : (out : Answer) → out.step.sent ≡ None → Own out
silent out n = record { own = λ octets e. absurd (cc (n, e)) }

by_frame : (out : Answer) (octets : List ℕ) → out.step.sent ≡ Some octets → IsOwnFrame octets → Own out
by_frame out octets e is =
    record { own = λ other f. let same : octets ≡ other = cc (e, f) in rw same at is }

connects_own : (now : SupplicantNow) → Own (connects now)
connects_own now = by_frame (connects now) _ refl is_start

leaves_own : (now : SupplicantNow) → Own (leaves now)
leaves_own now = by_frame (leaves now) _ refl is_logoff

begins_own : (by : Control) (now : SupplicantNow) → Own (begins by now)
begins_own control.Auto now = connects_own (record now { authorized = false; start_count = 0 })
begins_own control.ForceAuthorized now = silent (begins control.ForceAuthorized now) refl
begins_own control.ForceUnauthorized now =
    by_frame (begins control.ForceUnauthorized now) _ refl is_logoff

up_by : (b : Bool) (now : SupplicantNow)
    → Own (if b then leaves now else begins now.control now)
up_by true now = leaves_own now
up_by false now = begins_own now.control now

up : (s : PaeState) (now : SupplicantNow) → Own (comes_up s now)
up pae.Disconnected now = up_by now.logged_off now
up s now = silent (rests now) refl

off : (s : PaeState) (now : SupplicantNow) → Own (logs_off s now)
off pae.Disconnected now = silent (logs_off pae.Disconnected now) refl
off pae.Logoff now = silent (rests now) refl
off s now = leaves_own (record now { logged_off = true })

on : (s : PaeState) (now : SupplicantNow) → Own (logs_on s now)
on pae.Logoff now = begins_own now.control (record now { logged_off = false })
on s now = silent (rests (record now { logged_off = false })) refl

changed_by : (b : Bool) (by : Control) (now : SupplicantNow)
    → Own (if b then rests now else begins by (record now { control = by }))
changed_by true by now = silent (rests now) refl
changed_by false by now = begins_own by (record now { control = by })

set_to : (s : PaeState) (by : Control) (now : SupplicantNow) → Own (sets s by now)
set_to pae.Disconnected by now = silent (rests (record now { control = by })) refl
set_to pae.Logoff by now = silent (rests (record now { control = by })) refl
set_to s by now = changed_by (is_control by now.control) by now

valid_by : (b v : Bool) (now : SupplicantNow)
    → Own (if b then connects now else if v then rests (opens now) else rests (holds now))
valid_by true v now = connects_own now
valid_by false true now = silent (rests (opens now)) refl
valid_by false false now = silent (rests (holds now)) refl

counted_by : (b : Bool) (ended : Answer) (now : SupplicantNow) → Own ended
    → Own (if b then ended else rests (record now { timer = now.timer - 1 }))
counted_by true ended now e = e
counted_by false ended now e = silent (rests (record now { timer = now.timer - 1 })) refl

ticked : (s : PaeState) (now : SupplicantNow) → Own (ticks s now)
ticked pae.Connecting now = counted_by (nat_le now.timer 1) (is_unanswered now) now
    (valid_by (nat_lt now.start_count now.limits.max_start) now.limits.port_valid now)
ticked pae.Authenticating now =
    counted_by (nat_le now.timer 1) (connects now) now (connects_own now)
ticked pae.Held now = counted_by (nat_le now.timer 1) (connects now) now (connects_own now)
ticked s now = silent (rests now) refl

went_on : (took : Bool) (peer : PeerNow) (bytes : List ℕ) (sent : Option (List ℕ))
    (cause : Option Cause) (now : SupplicantNow) → (peer_receives peer bytes).step.sent ≡ sent
    → Own (goes_on took sent cause now)
went_on took peer bytes sent (Some cause) now is = silent (goes_on took sent (Some cause) now) refl
went_on took peer bytes (Some packet) None now is = by_frame
    (goes_on took (Some packet) None now) _ refl (is_response peer bytes packet is)
went_on took peer bytes None None now is = silent (goes_on took None None now) refl

heard : (took : Bool) (peer : PeerNow) (bytes : List ℕ) (now : SupplicantNow)
    → Own (hears took now (peer_receives peer bytes))
heard took peer bytes now =
    let out = peer_receives peer bytes in
    went_on took peer bytes out.step.sent out.step.cause (record now { peer = out.after }) refl

asked_by : (b : Bool) (bytes nonce : List ℕ) (now : SupplicantNow)
    → Own (if b then hears true (restarted nonce now)
    (peer_receives (peer_restart now.peer nonce).after bytes)
    else discards discard.NotRequest now)
asked_by true bytes nonce now = heard true (peer_restart now.peer nonce).after bytes (restarted nonce now)
asked_by false bytes nonce now = silent (discards discard.NotRequest now) refl

took : (s : PaeState) (bytes nonce : List ℕ) (now : SupplicantNow) → Own (takes s bytes nonce now)
took pae.Connecting bytes nonce now = asked_by (is_asked bytes now) bytes nonce now
took pae.Authenticating bytes nonce now = heard false now.peer bytes now
took pae.Authenticated bytes nonce now = asked_by (is_asked bytes now) bytes nonce now
took pae.Held bytes nonce now = asked_by (is_asked bytes now) bytes nonce now
took s bytes nonce now = silent (discards discard.Unheard now) refl

packet : (bytes nonce : List ℕ) (now : SupplicantNow) → Own (packet_comes bytes nonce now)
unfolding packet_comes
packet bytes nonce now = took now.state bytes nonce now

kind_by : (b : Bool) (bytes nonce : List ℕ) (now : SupplicantNow)
    → Own (if b then packet_comes bytes nonce now else discards discard.NotPacket now)
kind_by true bytes nonce now = packet bytes nonce now
kind_by false bytes nonce now = silent (discards discard.NotPacket now) refl

came_in : (contents : Result FrameValue FrameCause) (nonce : List ℕ) (now : SupplicantNow)
    → Own (contents_come contents nonce now)
came_in (Ok whole) nonce now =
    kind_by (whole.kind == 0) whole.body nonce now
came_in (Err cause) nonce now = silent (discards (discard.Frame cause) now) refl

step : (now : SupplicantNow) (input : Input) → Own (accepts now input)
unfolding link_comes_up link_is_lost frame_comes second_goes_by user_logs_off user_logs_on control_is_set
step now link_up = up now.state now
step now link_down = silent (link_is_lost now) refl
step now (frame bytes nonce) = came_in (frame_of bytes) nonce now
step now tick = ticked now.state now
step now logoff = off now.state now
step now logon = on now.state now
step now (inputs.sets by) = set_to now.state by now

pub sends_own_frames : SendsOwnFrames
sends_own_frames now input octets is = (step now input).own octets is
