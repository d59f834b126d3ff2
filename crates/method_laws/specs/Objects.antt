-- The objects of an end from its begin on, whatever their methods (RFC 3748 section 5): each stands
-- at its own Type, which the end allows or proposes, and stays of its method.
use Rattle.std.specs.Prelude.{◌≡◌, ℕ, List, true, Some, option_map}
use Rattle.octet_lists.specs.Among.{is_among}
use Rattle.eap_method.specs.Peer as peer
use Rattle.eap_method.specs.Peer.{PeerShown, PeerViews, peer_kind}
use Rattle.eap_method.specs.Server as server
use Rattle.eap_method.specs.Server.{ServerShown, ServerViews, server_kind}

-- ---- the peer

pub record PeerHasOwn (methods : List ℕ) (first : PeerViews) : Type 0 where
  pub allowed : (kind : ℕ) (s : PeerShown) → first kind ≡ Some s → is_among methods kind ≡ true
  pub at_own : (kind : ℕ) (s : PeerShown) → first kind ≡ Some s → peer_kind s ≡ kind

-- at each Type stands an object of the method with which the peer began
pub record PeerHasMethods (methods : List ℕ) (first views : PeerViews) : Type 0 where
  pub own : PeerHasOwn methods first
  pub same : (kind : ℕ) → option_map peer.method_of (views kind)
      ≡ option_map peer.method_of (first kind)

-- ---- the server

pub record ServerHasOwn (methods : List ℕ) (first : ServerViews) : Type 0 where
  pub ordered : (kind : ℕ) (s : ServerShown) → first kind ≡ Some s → is_among methods kind ≡ true
  pub at_own : (kind : ℕ) (s : ServerShown) → first kind ≡ Some s → server_kind s ≡ kind

-- at each Type stands an object of the method with which the server began
pub record ServerHasMethods (methods : List ℕ) (first views : ServerViews) : Type 0 where
  pub own : ServerHasOwn methods first
  pub same : (kind : ℕ) → option_map server.method_of (views kind)
      ≡ option_map server.method_of (first kind)
