-- What a peer's object has done since it began: its Responses, with the tags that it has accepted
-- and made and its last decision (RFC 4137 section 4.2). Every method has such a history; what it
-- implies is each method's own.
use Rattle.std.specs.Prelude.{◌≡◌, ◌≢◌, ℕ, List, [], ◌++◌, true, Option, None, Some}
use Rattle.login_setup.specs.declared.setup.PeerSetup.{PeerSetup}
use Rattle.octet_lists.specs.Among.{is_among}
use Rattle.eap_method.specs.declared.tags.TagRecord.{TagRecord}
use Rattle.eap_method.specs.declared.values.Decision.{Decision}
use Rattle.eap_method.specs.declared.values.Decision.TheVariants as decision
use Rattle.eap_method.specs.declared.values.MethodState.{MethodState}
use Rattle.eap_method.specs.GpskPeer as gpsk_peer
use Rattle.eap_method.specs.PskPeer as psk_peer
use Rattle.eap_method.specs.Peer.{Method, by_psk, by_gpsk, by_other, View, PeerShown, PeerViews}
use Rattle.eap_method.specs.Peer.{peer_kind, peer_step, started_peer, credential_for}
use Rattle.eap_method.specs.PeerTurn.{Reply}
use Rattle.eap_method.specs.Tags.{Tags}
use Rattle.method_laws.specs.GpskPeerInvariant.{GpskPeerTags}
use Rattle.method_laws.specs.PskPeerInvariant.{PskPeerTags}

-- it has begun, or has made one Response more
pub data PeerHistory (setup : PeerSetup) : PeerShown → Decision → List TagRecord → List TagRecord
    → Type 0 where
  initiated : (s : PeerShown) (allowed : is_among setup.methods (peer_kind s) ≡ true)
      → PeerHistory setup (started_peer (credential_for setup (peer_kind s)) setup.nonce s)
      decision.Fail [] []
  responded : (s after : PeerShown) (octets packet : List ℕ) (m : MethodState) (d last : Decision)
      (tags : Tags) (accepted made : List TagRecord) (before : PeerHistory setup s last accepted
      made) (turn : peer_step s octets ≡ record { turn = Reply packet m d tags; after = after })
      → PeerHistory setup after d (accepted ++ tags.accepted) (made ++ tags.made)

-- before the peer selects a method each object has just begun; that of the selected one has done
-- this
pub data PeerHas (setup : PeerSetup) (selected : Option ℕ) (views : PeerViews) (d : Decision)
    : List TagRecord → List TagRecord → Type 0 where
  each_initiated : (unselected : selected ≡ None) (fails : d ≡ decision.Fail)
      (history : (kind : ℕ) (s : PeerShown) → views kind ≡ Some s
      → PeerHistory setup s decision.Fail [] []) → PeerHas setup selected views d [] []
  selected_has : (kind : ℕ) (s : PeerShown) (accepted made : List TagRecord)
      (is_selected : selected ≡ Some kind) (in_view : views kind ≡ Some s)
      (history : PeerHistory setup s d accepted made) → PeerHas setup selected views d accepted made

-- ---- what a history implies

-- the tags, and of a decision other than FAIL a success
pub record Implied {V : Type 0} (HasTags : V → List TagRecord → List TagRecord → Type 0)
    (Succeeds : V → Type 0) (view : V) (d : Decision) (accepted made : List TagRecord)
    : Type 0 where
  pub tags : HasTags view accepted made
  pub decided : d ≢ decision.Fail → Succeeds view

abbrev pub psk_succeeds : psk_peer.View → Type 0
psk_succeeds view = (login : psk_peer.Login) × (view ≡ psk_peer.over login true)

abbrev pub gpsk_succeeds : gpsk_peer.View → Type 0
gpsk_succeeds view = (login : gpsk_peer.Login) × (view ≡ gpsk_peer.over login true)

-- by its method; of a maker's method it implies nothing
abbrev pub ImpliedOf : PeerSetup → (m : Method) → View m → Decision → List TagRecord
    → List TagRecord → Type 0
ImpliedOf setup by_psk view d accepted made =
    Implied (PskPeerTags setup) psk_succeeds view d accepted made
ImpliedOf setup by_gpsk view d accepted made =
    Implied (GpskPeerTags setup) gpsk_succeeds view d accepted made
ImpliedOf setup (by_other custom) view d accepted made = Unit {0}

-- every history implies so
abbrev pub PeerHistoriesImply : Type 0
PeerHistoriesImply = (setup : PeerSetup) (s : PeerShown) (d : Decision)
    (accepted made : List TagRecord) → PeerHistory setup s d accepted made
    → ImpliedOf setup s.method s.view d accepted made
