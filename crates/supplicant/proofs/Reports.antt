-- A supplicant that is AUTHENTICATED has a report.
use Rattle.std.proofs.Common.{◌≡◌, ℕ, ◌-◌, List, [], ◌∷◌, Bool, true, false, Option, None, Some, refl}
use Rattle.std.proofs.Common.{Result, Ok, Err}
use Rattle.std.specs.Prelude.{if◌then◌else◌, is_some, nat_le, nat_lt, ◌==◌}
use Rattle.eap_packet.specs.declared.cause.Cause.{Cause}
use Rattle.eap_packet.specs.declared.state.State.{State}
use Rattle.eap_packet.specs.declared.state.State.TheVariants as state
use Rattle.eap_method.specs.Steps.{is_end}
use Rattle.eapol_frame.specs.Frame.{FrameValue, frame_of}
use Rattle.eapol_frame.specs.declared.frame.FrameCause.{FrameCause}
use Rattle.peer_machine.specs.Expanded.{peer_receives}
use Rattle.peer_machine.specs.PeerTable.{PeerAnswer, peer_reports, peer_restart}
use Rattle.supplicant.specs.declared.settings.Control.{Control}
use Rattle.supplicant.specs.declared.settings.Control.TheVariants as control
use Rattle.supplicant.specs.declared.settings.PaeState.{PaeState}
use Rattle.supplicant.specs.declared.settings.PaeState.TheVariants as pae
use Rattle.supplicant.specs.declared.step.Discard.TheVariants as discard
use Rattle.supplicant.specs.Table.{Answer, SupplicantNow, answer, begins, changes, comes_up, connects}
use Rattle.supplicant.specs.Table.{contents_come, control_is_set, counts, discards, ends, frame_comes}
use Rattle.supplicant.specs.Table.{goes_on, hears, hears_first, holds, initial_supplicant, is_asked}
use Rattle.supplicant.specs.Table.{is_control, is_unanswered, leaves, link_comes_up, link_is_lost}
use Rattle.supplicant.specs.Table.{logs_off, logs_on, opens, packet_comes, restarted, rests}
use Rattle.supplicant.specs.Table.{second_goes_by, sets, settles, succeeded, takes, ticks}
use Rattle.supplicant.specs.Table.{user_logs_off, user_logs_on, waits}
use Rattle.supplicant.specs.Runs.{Input, accepts, after_inputs, frame, link_down, link_up, logoff}
use Rattle.supplicant.specs.Runs.{logon, tick}
use Rattle.supplicant.specs.Runs as inputs
use Rattle.supplicant.specs.Laws.{AuthenticatedReports}

record Stands (now : SupplicantNow) : Type 0 where
  valid : now.limits.port_valid ≡ false
  reports : now.state ≡ pae.Authenticated → is_some (peer_reports now.peer) ≡ true

-- what keeps the settings, the state and the peer
same : (now after : SupplicantNow) → after.limits ≡ now.limits → after.state ≡ now.state
    → after.peer ≡ now.peer → Stands now → Stands after
same now after l s p h = record { valid = cc (h.valid); reports = λ e. cc (h.reports (cc)) }

-- what leads to another state than AUTHENTICATED
elsewhere : (after : SupplicantNow) → after.limits.port_valid ≡ false
    → (after.state ≡ pae.Authenticated → ⊥) → Stands after
elsewhere after v not = record { valid = v; reports = λ e. absurd (not e) }

connects_stand : (now : SupplicantNow) → now.limits.port_valid ≡ false → Stands (connects now).after
connects_stand now v = elsewhere (connects now).after v (λ e. cc e)

begins_stand : (by : Control) (now : SupplicantNow) → now.limits.port_valid ≡ false
    → Stands (begins by now).after
begins_stand control.Auto now v =
    elsewhere (begins control.Auto now).after v (λ e. cc e)
begins_stand control.ForceAuthorized now v =
    elsewhere (begins control.ForceAuthorized now).after v (λ e. cc e)
begins_stand control.ForceUnauthorized now v =
    elsewhere (begins control.ForceUnauthorized now).after v (λ e. cc e)

up_by : (b : Bool) (now : SupplicantNow) → now.limits.port_valid ≡ false
    → Stands (if b then leaves now else begins now.control now).after
up_by true now v = elsewhere (leaves now).after v (λ e. cc e)
up_by false now v = begins_stand now.control now v

up : (s : PaeState) (now : SupplicantNow) → Stands now → Stands (comes_up s now).after
up pae.Disconnected now h = up_by now.logged_off now h.valid
up s now h = h

off : (s : PaeState) (now : SupplicantNow) → Stands now → Stands (logs_off s now).after
off pae.Disconnected now h = record { valid = h.valid; reports = h.reports }
off pae.Logoff now h = h
off s now h = elsewhere (leaves (record now { logged_off = true })).after h.valid (λ e. cc e)

on : (s : PaeState) (now : SupplicantNow) → Stands now → Stands (logs_on s now).after
on pae.Logoff now h = begins_stand now.control (record now { logged_off = false }) h.valid
on s now h = record { valid = h.valid; reports = h.reports }

changed_by : (b : Bool) (by : Control) (now : SupplicantNow) → Stands now
    → Stands (if b then rests now else begins by (record now { control = by })).after
changed_by true by now h = h
changed_by false by now h = begins_stand by (record now { control = by }) h.valid

set_to : (s : PaeState) (by : Control) (now : SupplicantNow) → Stands now
    → Stands (sets s by now).after
set_to pae.Disconnected by now h = record { valid = h.valid; reports = h.reports }
set_to pae.Logoff by now h = record { valid = h.valid; reports = h.reports }
set_to s by now h = changed_by (is_control by now.control) by now h

valid_by : (b v : Bool) (now : SupplicantNow) → now.limits.port_valid ≡ false → v ≡ false
    → Stands (if b then connects now else if v then rests (opens now) else rests (holds now)).after
valid_by true v now is e = connects_stand now is
valid_by false true now is e = absurd (cc e)
valid_by false false now is e = elsewhere (holds now) is (λ e. cc e)

counted_by : (b : Bool) (ended : Answer) (now : SupplicantNow) → Stands now → Stands ended.after
    → Stands (if b then ended else rests (record now { timer = now.timer - 1 })).after
counted_by true ended now h e = e
counted_by false ended now h e = record { valid = h.valid; reports = h.reports }

ticked : (s : PaeState) (now : SupplicantNow) → Stands now → Stands (ticks s now).after
ticked pae.Connecting now h = counted_by (nat_le now.timer 1) (is_unanswered now) now h
    (valid_by (nat_lt now.start_count now.limits.max_start) now.limits.port_valid now h.valid h.valid)
ticked pae.Authenticating now h =
    counted_by (nat_le now.timer 1) (connects now) now h (connects_stand now h.valid)
ticked pae.Held now h =
    counted_by (nat_le now.timer 1) (connects now) now h (connects_stand now h.valid)
ticked s now h = h

-- ---- the peer's step

success_reports : (s : State) (reports : Bool) → succeeded s reports ≡ true → reports ≡ true
success_reports state.Success reports e = e
success_reports s reports e = absurd (cc e)

ended_by : (b : Bool) (now : SupplicantNow) → now.limits.port_valid ≡ false
    → succeeded now.peer.vars.state (is_some (peer_reports now.peer)) ≡ b
    → Stands (if b then opens now else holds now)
ended_by true now v e =
    record { valid = v; reports = λ is. success_reports now.peer.vars.state _ e }
ended_by false now v e = elsewhere (holds now) v (λ e. cc e)

-- amid a login the state isn't AUTHENTICATED
record Amid (now : SupplicantNow) : Type 0 where
  valid : now.limits.port_valid ≡ false
  state : now.state ≡ pae.Authenticating

amid : (now : SupplicantNow) → Amid now → Stands now
amid now h = elsewhere now h.valid (λ e. absurd (cc (h.state, e)))

settled_by : (b : Bool) (now : SupplicantNow) → Amid now
    → Stands (if b then ends now else waits now)
settled_by true now h = ended_by
    (succeeded now.peer.vars.state (is_some (peer_reports now.peer))) now h.valid refl
settled_by false now h = amid (waits now) (record { valid = h.valid; state = h.state })

went_on : (took : Bool) (sent : Option (List ℕ)) (cause : Option Cause) (now : SupplicantNow)
    → Amid now → Stands (goes_on took sent cause now).after
went_on took sent (Some cause) now h = amid now h
went_on took (Some packet) None now h =
    amid (waits now) (record { valid = h.valid; state = h.state })
went_on took None None now h = settled_by (is_end now.peer.vars.state) now h

heard : (took : Bool) (now : SupplicantNow) (out : PeerAnswer) → Amid now
    → Stands (hears took now out).after
heard took now out h = went_on took out.step.sent out.step.cause (record now { peer = out.after })
    (record { valid = h.valid; state = h.state })

asked_by : (b : Bool) (octets nonce : List ℕ) (now : SupplicantNow) → Stands now
    → Stands (if b then hears true (restarted nonce now)
    (peer_receives (peer_restart now.peer nonce).after octets)
    else discards discard.NotRequest now).after
asked_by true octets nonce now h = heard true (restarted nonce now)
    (peer_receives (peer_restart now.peer nonce).after octets)
    (record { valid = h.valid; state = refl })
asked_by false octets nonce now h = h

took : (s : PaeState) (octets nonce : List ℕ) (now : SupplicantNow) → now.state ≡ s → Stands now
    → Stands (takes s octets nonce now).after
took pae.Connecting octets nonce now e h = asked_by (is_asked octets now) octets nonce now h
took pae.Authenticating octets nonce now e h =
    heard false now (peer_receives now.peer octets) (record { valid = h.valid; state = e })
took pae.Authenticated octets nonce now e h = asked_by (is_asked octets now) octets nonce now h
took pae.Held octets nonce now e h = asked_by (is_asked octets now) octets nonce now h
took s octets nonce now e h = h

packet : (octets nonce : List ℕ) (now : SupplicantNow) → Stands now
    → Stands (packet_comes octets nonce now).after
unfolding packet_comes
packet octets nonce now h = took now.state octets nonce now refl h

kind_by : (b : Bool) (octets nonce : List ℕ) (now : SupplicantNow) → Stands now
    → Stands (if b then packet_comes octets nonce now else discards discard.NotPacket now).after
kind_by true octets nonce now h = packet octets nonce now h
kind_by false octets nonce now h = h

came_in : (contents : Result FrameValue FrameCause) (nonce : List ℕ) (now : SupplicantNow)
    → Stands now → Stands (contents_come contents nonce now).after
came_in (Ok whole) nonce now h =
    kind_by (whole.kind == 0) whole.body nonce now h
came_in (Err cause) nonce now h = h

step : (now : SupplicantNow) (input : Input) → Stands now → Stands (accepts now input).after
unfolding link_comes_up link_is_lost frame_comes second_goes_by user_logs_off user_logs_on control_is_set
step now link_up h = up now.state now h
step now link_down h = elsewhere (link_is_lost now).after h.valid (λ e. cc e)
step now (frame octets nonce) h = came_in (frame_of octets) nonce now h
step now tick h = ticked now.state now h
step now logoff h = off now.state now h
step now logon h = on now.state now h
step now (inputs.sets by) h = set_to now.state by now h

along : (now : SupplicantNow) (came : List Input) → Stands now → Stands (after_inputs now came)
unfolding after_inputs
along now [] h = h
along now (input ∷ rest) h = along (accepts now input).after rest (step now input h)

pub authenticated_reports : AuthenticatedReports
authenticated_reports limits by peer came valid is =
    (along (initial_supplicant limits by peer) came
    (elsewhere (initial_supplicant limits by peer) valid (λ e. cc e))).reports is
