-- Two ends of EAP-PAX agree: the peer's object holds the name of the server's, since no message of
-- PAX_STD (RFC 4746 section 2.1) carries it; it isn't asked that they have one AK.
use Rattle.std.specs.Prelude.{ℕ, List}
use Rattle.eap_method.specs.Peer as peer
use Rattle.eap_method.specs.Server as server
use Rattle.method_laws.specs.Agreeing.{Agreeing}
use Rattle.pax_method.specs.PaxPeer.{pax_peer}
use Rattle.pax_method.specs.PaxServer.{pax_server}

abbrev pub PaxAgrees : Type 0
PaxAgrees = (ak other name peer_state server_state : List ℕ)
    → Agreeing (peer.other (pax_peer ak name) peer_state)
    (server.other (pax_server other name) server_state)
