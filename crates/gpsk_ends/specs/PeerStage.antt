-- The state of a peer of EAP-GPSK, and its state after a call, as its definition says it.
use Rattle.std.specs.Prelude.{◌≡◌, ◌≤◌, ℕ, List, length, Option, Some, None, if◌then◌else◌, Result}
use Rattle.std.specs.Prelude.{Ok, Err, ⊤}
use Rattle.eap_packet.specs.declared.cause.Cause.{Cause}
use Rattle.eap_method.specs.Tags.{Tags}
use Rattle.eap_method.specs.declared.turn.PeerAnswer as brief
use Rattle.eap_method.specs.declared.values.Credential.{Credential}
use Rattle.eap_method.specs.GpskPeer.{Login, View, unset, fresh, wait, over, keys_of, answers}
use Rattle.eap_method.specs.PeerSide.{Side}
use Rattle.eap_method.specs.PeerTurn.{peer_turn_with}
use Rattle.eap_method.specs.Turns.{PeerOutcome, discarded}
use Rattle.gpsk_ends.specs.Keys.{SuiteKeys}
use Rattle.gpsk_ends.specs.declared.peer.stage.Phase.{Phase}
use Rattle.gpsk_ends.specs.declared.peer.stage.Phase.TheVariants as phase
use Rattle.gpsk_ends.specs.declared.peer.stage.Progress.{Progress}
use Rattle.gpsk_ends.specs.declared.peer.stage.Progress.TheVariants as progress
use Rattle.gpsk_ends.specs.declared.peer.offer.Offer.{Offer}

-- the peer's state in a login
abbrev pub view_in : Login → Phase → View
view_in login phase.Wait = wait login
view_in login (phase.Over good) = over login good

-- a login in the parts of the peer's state
abbrev pub login_of : Side → List ℕ → List ℕ → SuiteKeys → Login
login_of side nonce rand_s keys = record {
  cred = side.cred;
  nonce = nonce;
  id_s = side.id_s;
  rand_s = rand_s;
  suite = keys.suite;
}

-- the keys are those of the login; a nonce has 32 octets
pub record AreReady (side : Side) (own server : List ℕ) (derived : SuiteKeys) : Type 0 where
  pub keys : derived.keys ≡ keys_of (login_of side own server derived)
  pub rand_p : length own ≡ 32
  pub rand_s : length server ≡ 32

-- the peer's state
abbrev pub view_of : Side → List ℕ → Progress → View
view_of side nonce progress.Unset = unset
view_of side nonce progress.Fresh = fresh side.cred nonce
view_of side nonce (progress.Known added phase) =
    view_in (login_of side nonce added.rand_s added.keys) phase

-- the key is one of EAP-GPSK, and the keys of a login are its own
abbrev pub IsReady : Side → List ℕ → Progress → Type 0
IsReady side nonce progress.Unset = ⊤
IsReady side nonce progress.Fresh = 32 ≤ length side.cred.psk
IsReady side nonce (progress.Known added phase) = AreReady side nonce added.rand_s added.keys

-- a turn with what it wrote, and the peer's state after it
abbrev pub outcome_with : brief.PeerAnswer → List ℕ → Tags → View → PeerOutcome View
outcome_with turn packet tags
    after = record { turn = peer_turn_with turn packet tags; after = after }

-- the login that begins with an offer
abbrev pub login_with : Credential → List ℕ → Offer → Login
login_with cred nonce offer = record {
  cred = cred;
  nonce = nonce;
  id_s = offer.id_s.now;
  rand_s = offer.rand_s;
  suite = offer.suite;
}

-- its keys
abbrev pub keys_with : Credential → List ℕ → Offer → SuiteKeys
keys_with cred nonce
    offer = record { suite = offer.suite; keys = keys_of (login_with cred nonce offer) }

-- what a peer that has begun makes of the offer that it accepts, or of the cause why it accepts
-- none
abbrev pub outcome_of_offer : Credential → List ℕ → ℕ → Result Offer Cause → PeerOutcome View
outcome_of_offer cred nonce id (Err cause) = discarded (fresh cred nonce) cause
outcome_of_offer cred nonce id (Ok offer) = answers (login_with cred nonce offer) id offer.list.now

-- the login, if it has succeeded
abbrev pub successful : View → Option Login
successful (over login good) = if good then Some login else None
successful view = None
