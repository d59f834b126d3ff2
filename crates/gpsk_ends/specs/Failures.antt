-- Whether a login has failed within the method.
use Rattle.std.specs.Prelude.{Bool, true, false, not}
use Rattle.eap_method.specs.GpskPeer as peer
use Rattle.eap_method.specs.GpskServer as server

-- whether a peer's login has failed: GPSK-Fail or GPSK-Protected-Fail came
abbrev pub peer_has_failed : peer.View → Bool
peer_has_failed (peer.over login good) = not good
peer_has_failed view = false

-- whether a server has refused a user that it doesn't know, by GPSK-Fail
abbrev pub is_unknown : server.View → Bool
is_unknown (server.refusing own nonce) = true
is_unknown (server.refused own nonce) = true
is_unknown view = false

-- whether a server has barred a user that it knows, by GPSK-Protected-Fail
abbrev pub server_has_failed : server.View → Bool
server_has_failed (server.barring login) = true
server_has_failed (server.over login good) = not good
server_has_failed view = false
