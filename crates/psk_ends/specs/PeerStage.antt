-- The state of a peer of EAP-PSK, and its state after a call, as its definition says it.
use Rattle.std.specs.Prelude.{◌≡◌, ℕ, List, length, Option, Some, None, if◌then◌else◌, Result, Ok}
use Rattle.std.specs.Prelude.{Err, ⊤}
use Rattle.eap_packet.specs.declared.cause.Cause.{Cause}
use Rattle.psk_messages.specs.declared.view.Psk1.{Psk1}
use Rattle.eap_method.specs.Tags.{Tags}
use Rattle.eap_method.specs.declared.turn.PeerAnswer as brief
use Rattle.eap_method.specs.PeerTurn.{peer_turn_with}
use Rattle.eap_method.specs.PskPeer.{View, Login, unset, fresh, wait, over, answers}
use Rattle.eap_method.specs.Turns.{PeerOutcome, discarded}
use Rattle.eap_method.specs.PeerSide.{Side}
use Rattle.eap_method.specs.declared.values.Credential.{Credential}
use Rattle.psk_ends.specs.PeerKeys.{AreKeysOf}
use Rattle.psk_ends.specs.declared.peer.stage.Phase.{Phase}
use Rattle.psk_ends.specs.declared.peer.stage.Phase.TheVariants as phase
use Rattle.psk_ends.specs.declared.peer.stage.Progress.{Progress}
use Rattle.psk_ends.specs.declared.peer.stage.Progress.TheVariants as progress

-- the state of a peer with a login
abbrev pub in_phase : Phase → Login → View
in_phase phase.Wait login = wait login
in_phase (phase.Over good) login = over login good

-- a login in the parts of the peer's state
abbrev pub login_of : Side → List ℕ → List ℕ → Login
login_of side nonce
    rand_s = record { cred = side.cred; nonce = nonce; id_s = side.id_s; rand_s = rand_s }

-- the peer's state
abbrev pub view_in : Side → List ℕ → Progress → View
view_in side nonce progress.Unset = unset
view_in side nonce progress.Fresh = fresh side.cred nonce
view_in side nonce (progress.Known added phase) = in_phase phase (login_of side nonce added.rand_s)

-- the key is one of EAP-PSK, and the keys of a login are its own
abbrev pub IsReady : Side → List ℕ → Progress → Type 0
IsReady side nonce progress.Unset = ⊤
IsReady side nonce progress.Fresh = length side.cred.psk ≡ 16
IsReady side nonce (progress.Known added phase) =
    AreKeysOf side.cred.psk nonce added.keys × (length added.rand_s ≡ 16)

-- a turn with what it wrote, and the peer's state after it
abbrev pub outcome_with : brief.PeerAnswer → List ℕ → Tags → View → PeerOutcome View
outcome_with turn packet tags
    after = record { turn = peer_turn_with turn packet tags; after = after }

-- the login that begins with PSK-1
abbrev pub login_with : Credential → List ℕ → Psk1 → Login
login_with cred nonce
    psk1 = record { cred = cred; nonce = nonce; id_s = psk1.id_s.now; rand_s = psk1.rand_s }

-- what a peer that has begun makes of the PSK-1 that it accepts, or of the cause why it accepts
-- none
abbrev pub fresh_with : Credential → List ℕ → ℕ → Result Psk1 Cause → PeerOutcome View
fresh_with cred nonce id (Err cause) = discarded (fresh cred nonce) cause
fresh_with cred nonce id (Ok psk1) = answers (login_with cred nonce psk1) id

-- the login, if it has succeeded
abbrev pub successful : View → Option Login
successful (over login good) = if good then Some login else None
successful view = None
