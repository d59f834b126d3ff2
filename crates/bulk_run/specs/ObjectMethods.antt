-- The objects of both ends, by their methods.
use Rattle.std.specs.Prelude.{◌≡◌, List, map}
use Rattle.eap_method.specs.Peer as peers
use Rattle.eap_method.specs.Peer.{PeerShown, peer_methods}
use Rattle.eap_method.specs.Server as servers
use Rattle.eap_method.specs.Server.{ServerShown, server_methods}
use Rattle.eap_world.specs.World.{WorldValue}

-- the methods of which each end has an object, one after the other
pub record ObjectMethods : Type 0 where
  pub peer : List peers.Method
  pub server : List servers.Method

abbrev pub methods_of : {P S : Type 0} → (P → PeerShown) → (S → ServerShown) → List P → List S
    → ObjectMethods
methods_of peer_shown server_shown peer server =
    record {
      peer = peer_methods (map peer_shown peer);
      server = server_methods (map server_shown server);
    }

-- the objects of both ends are of the same methods before and after
abbrev pub HaveSameMethods : {P S : Type 0} → (P → PeerShown) → (S → ServerShown) → List P → List S
    → List P → List S → Type 0
HaveSameMethods peer_shown server_shown peer server peer_after server_after =
    methods_of peer_shown server_shown peer_after server_after
    ≡ methods_of peer_shown server_shown peer server

abbrev pub PreservesMethods : {P S : Type 0} → (P → PeerShown) → (S → ServerShown) → WorldValue P S
    → WorldValue P S → Type 0
PreservesMethods peer_shown server_shown before after =
    HaveSameMethods peer_shown server_shown before.peer.methods before.server.methods
    after.peer.methods after.server.methods
