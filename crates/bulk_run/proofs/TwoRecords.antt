-- Objects that are kept are of the same methods.
use Rattle.std.proofs.Common.{ℕ, List, ap₂}
use Rattle.eap_method.specs.Peer.{PeerShown}
use Rattle.eap_method.specs.Server.{ServerShown}
use Rattle.eap_world.specs.World.{PreservesObjects}
use Rattle.bulk_run.specs.ObjectMethods.{HaveSameMethods}

pub same_methods : {P S : Type 0} (peer_shown : P → PeerShown) (server_shown : S → ServerShown)
    (peer_named server_named : List ℕ) (peer : List P) (server : List S) (peer_after : List P)
    (server_after : List S)
    → PreservesObjects peer_shown server_shown peer_named server_named peer server peer_after
    server_after
    → HaveSameMethods peer_shown server_shown peer server peer_after server_after
same_methods peer_shown server_shown peer_named server_named peer server peer_after server_after h =
    ap₂ (λ p s. record { peer = p; server = s }) h.peer_preserved.methods h.server_preserved.methods
