-- What is discarded, and took no nonce, changes nothing.
use Rattle.std.proofs.Common.{◌≡◌, ℕ, ◌-◌, List, Bool, true, false, Option, None, Some, refl, ap}
use Rattle.std.proofs.Common.{Result, Ok, Err}
use Rattle.std.specs.Prelude.{IsSome, if◌then◌else◌, is_some, nat_le, nat_lt, ◌==◌}
use Rattle.eap_packet.specs.declared.cause.Cause.{Cause}
use Rattle.eapol_frame.specs.Frame.{FrameValue, frame_of}
use Rattle.eapol_frame.specs.declared.frame.FrameCause.{FrameCause}
use Rattle.peer_machine.specs.Expanded.{peer_receives}
use Rattle.peer_machine.specs.Inputs.{octets}
use Rattle.peer_machine.specs.PeerTable.{PeerAnswer, PeerNow, peer_restart}
use Rattle.peer_machine.proofs.Discards as peer
use Rattle.supplicant.specs.declared.settings.Control.{Control}
use Rattle.supplicant.specs.declared.settings.Control.TheVariants as control
use Rattle.supplicant.specs.declared.settings.PaeState.{PaeState}
use Rattle.supplicant.specs.declared.settings.PaeState.TheVariants as pae
use Rattle.supplicant.specs.declared.step.Discard.TheVariants as discard
use Rattle.supplicant.specs.Table.{Answer, SupplicantNow, begins, comes_up, connects, contents_come}
use Rattle.supplicant.specs.Table.{control_is_set, discards, frame_comes, goes_on, hears, holds}
use Rattle.supplicant.specs.Table.{is_asked, is_control, is_unanswered, leaves, link_comes_up}
use Rattle.supplicant.specs.Table.{link_is_lost, logs_off, logs_on, opens, packet_comes, restarted}
use Rattle.supplicant.specs.Table.{rests, second_goes_by, sets, takes, ticks, user_logs_off}
use Rattle.supplicant.specs.Table.{user_logs_on}
use Rattle.supplicant.specs.Runs.{Input, accepts, frame, link_down, link_up, logoff, logon, tick}
use Rattle.supplicant.specs.Runs as inputs
use Rattle.supplicant.specs.Laws.{DiscardsChangeNothing}

-- a call that discards nothing
abbrev Quiet : Answer → Type 0
Quiet out = out.step.cause ≡ None

begins_quietly : (by : Control) (now : SupplicantNow) → Quiet (begins by now)
begins_quietly control.Auto now = refl
begins_quietly control.ForceAuthorized now = refl
begins_quietly control.ForceUnauthorized now = refl

up_by : (b : Bool) (now : SupplicantNow)
    → Quiet (if b then leaves now else begins now.control now)
up_by true now = refl
up_by false now = begins_quietly now.control now

up : (s : PaeState) (now : SupplicantNow) → Quiet (comes_up s now)
up pae.Disconnected now = up_by now.logged_off now
up s now = refl

off : (s : PaeState) (now : SupplicantNow) → Quiet (logs_off s now)
off pae.Disconnected now = refl
off pae.Logoff now = refl
off s now = refl

on : (s : PaeState) (now : SupplicantNow) → Quiet (logs_on s now)
on pae.Logoff now = begins_quietly now.control (record now { logged_off = false })
on s now = refl

changed_by : (b : Bool) (by : Control) (now : SupplicantNow)
    → Quiet (if b then rests now else begins by (record now { control = by }))
changed_by true by now = refl
changed_by false by now = begins_quietly by (record now { control = by })

set_to : (s : PaeState) (by : Control) (now : SupplicantNow) → Quiet (sets s by now)
set_to pae.Disconnected by now = refl
set_to pae.Logoff by now = refl
set_to s by now = changed_by (is_control by now.control) by now

valid_by : (b v : Bool) (now : SupplicantNow)
    → Quiet (if b then connects now else if v then rests (opens now) else rests (holds now))
valid_by true v now = refl
valid_by false true now = refl
valid_by false false now = refl

counted_by : (b : Bool) (ended : Answer) (now : SupplicantNow) → Quiet ended
    → Quiet (if b then ended else rests (record now { timer = now.timer - 1 }))
counted_by true ended now e = e
counted_by false ended now e = refl

ticked : (s : PaeState) (now : SupplicantNow) → Quiet (ticks s now)
ticked pae.Connecting now = counted_by (nat_le now.timer 1) (is_unanswered now) now
    (valid_by (nat_lt now.start_count now.limits.max_start) now.limits.port_valid now)
ticked pae.Authenticating now = counted_by (nat_le now.timer 1) (connects now) now refl
ticked pae.Held now = counted_by (nat_le now.timer 1) (connects now) now refl
ticked s now = refl

-- ---- frames

record Keeps (now : SupplicantNow) (out : Answer) : Type 0 where
  keeps : IsSome out.step.cause → out.step.took ≡ false → out.after ≡ now

quiet : (now : SupplicantNow) (out : Answer) → Quiet out → Keeps now out
quiet now out q = record { keeps = λ is t. absurd (cc (q, is)) }

went_on : (sent : Option (List ℕ)) (cause : Option Cause) (now : SupplicantNow) (after : PeerNow)
    → (IsSome cause → after ≡ now.peer)
    → Keeps now (goes_on false sent cause (record now { peer = after }))
went_on sent (Some cause) now after same = record {
  keeps = λ is t. ap (λ (peer : PeerNow). record now { peer = peer }) (same refl);
}
went_on (Some packet) None now after same = record { keeps = λ is t. absurd (cc is) }
went_on None None now after same = record { keeps = λ is t. absurd (cc is) }

heard : (bytes : List ℕ) (now : SupplicantNow)
    → Keeps now (hears false now (peer_receives now.peer bytes))
heard bytes now =
    let out = peer_receives now.peer bytes in
    went_on out.step.sent out.step.cause now out.after
    (λ is. (peer.discards_change_nothing now.peer (octets bytes) is).all)

took_on : (sent : Option (List ℕ)) (cause : Option Cause) (now after : SupplicantNow)
    → Keeps now (goes_on true sent cause after)
took_on sent (Some cause) now after = record { keeps = λ is t. absurd (cc t) }
took_on (Some packet) None now after = record { keeps = λ is t. absurd (cc is) }
took_on None None now after = record { keeps = λ is t. absurd (cc is) }

asked_by : (b : Bool) (bytes nonce : List ℕ) (now : SupplicantNow)
    → Keeps now (if b then hears true (restarted nonce now)
    (peer_receives (peer_restart now.peer nonce).after bytes)
    else discards discard.NotRequest now)
asked_by true bytes nonce now =
    let out = peer_receives (peer_restart now.peer nonce).after bytes in
    took_on out.step.sent out.step.cause now (record (restarted nonce now) { peer = out.after })
asked_by false bytes nonce now = record { keeps = λ is t. refl }

took : (s : PaeState) (bytes nonce : List ℕ) (now : SupplicantNow)
    → Keeps now (takes s bytes nonce now)
took pae.Connecting bytes nonce now = asked_by (is_asked bytes now) bytes nonce now
took pae.Authenticating bytes nonce now = heard bytes now
took pae.Authenticated bytes nonce now = asked_by (is_asked bytes now) bytes nonce now
took pae.Held bytes nonce now = asked_by (is_asked bytes now) bytes nonce now
took s bytes nonce now = record { keeps = λ is t. refl }

packet : (bytes nonce : List ℕ) (now : SupplicantNow) → Keeps now (packet_comes bytes nonce now)
unfolding packet_comes
packet bytes nonce now = took now.state bytes nonce now

kind_by : (b : Bool) (bytes nonce : List ℕ) (now : SupplicantNow)
    → Keeps now (if b then packet_comes bytes nonce now else discards discard.NotPacket now)
kind_by true bytes nonce now = packet bytes nonce now
kind_by false bytes nonce now = record { keeps = λ is t. refl }

came_in : (contents : Result FrameValue FrameCause) (nonce : List ℕ) (now : SupplicantNow)
    → Keeps now (contents_come contents nonce now)
came_in (Ok whole) nonce now =
    kind_by (whole.kind == 0) whole.body nonce now
came_in (Err cause) nonce now = record { keeps = λ is t. refl }

step : (now : SupplicantNow) (input : Input) → Keeps now (accepts now input)
unfolding link_comes_up link_is_lost frame_comes second_goes_by user_logs_off user_logs_on control_is_set
step now link_up = quiet now _ (up now.state now)
step now link_down = quiet now (link_is_lost now) refl
step now (frame bytes nonce) = came_in (frame_of bytes) nonce now
step now tick = quiet now _ (ticked now.state now)
step now logoff = quiet now _ (off now.state now)
step now logon = quiet now _ (on now.state now)
step now (inputs.sets by) = quiet now _ (set_to now.state by now)

pub discards_change_nothing : DiscardsChangeNothing
discards_change_nothing now input is t = (step now input).keeps is t
