-- The nonces of a login that has succeeded (RFC 5433 section 3).
use Rattle.std.specs.Prelude.{if◌then◌else◌, Option, Some, None}
use Rattle.eap_method.specs.GpskPeer as peer
use Rattle.eap_method.specs.GpskServer as server
use Rattle.gpsk_ends.specs.declared.nonces.Nonces.{Nonces}

-- RAND_Peer and RAND_Server of a peer's login, and those of a view
abbrev pub peer_nonces_of : peer.Login → Nonces
peer_nonces_of login = record { rand_p = login.nonce; rand_s = login.rand_s }

abbrev pub peer_nonces : peer.View → Option Nonces
peer_nonces (peer.over login good) = if good then Some (peer_nonces_of login) else None
peer_nonces view = None

-- the same of a server
abbrev pub server_nonces_of : server.Login → Nonces
server_nonces_of login = record { rand_p = login.rand_p; rand_s = login.nonce }

abbrev pub server_nonces : server.View → Option Nonces
server_nonces (server.over login good) = if good then Some (server_nonces_of login) else None
server_nonces view = None
