-- What no call of an end changes at its objects: their methods, and the state of one whose method
-- the end doesn't name.
use Rattle.std.specs.Prelude.{◌≡◌, ℕ, List, not}
use Rattle.std.specs.List.{filter}
use Rattle.octet_lists.specs.Among.{is_among}
use Rattle.eap_method.specs.Peer.{PeerShown, peer_kind, peer_methods}
use Rattle.eap_method.specs.Server.{ServerShown, server_kind, server_methods}

-- the objects of the methods that aren't named, as they are, in their order
unfoldable pub peers_unnamed : List ℕ → List PeerShown → List PeerShown
peers_unnamed named shown = filter (λ s. not (is_among named (peer_kind s))) shown

unfoldable pub servers_unnamed : List ℕ → List ServerShown → List ServerShown
servers_unnamed named shown = filter (λ s. not (is_among named (server_kind s))) shown

-- before and after, the objects of an end that names these methods are of the same methods in the
-- same order, and those of methods that it doesn't name are as they were
pub record PreservesPeers (named : List ℕ) (before after : List PeerShown) : Type 0 where
  pub methods : peer_methods after ≡ peer_methods before
  pub unnamed : peers_unnamed named after ≡ peers_unnamed named before

pub record PreservesServers (named : List ℕ) (before after : List ServerShown) : Type 0 where
  pub methods : server_methods after ≡ server_methods before
  pub unnamed : servers_unnamed named after ≡ servers_unnamed named before
