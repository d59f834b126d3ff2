-- Whether a login has failed within the method.
use Rattle.std.specs.Prelude.{Bool, true, false, not}
use Rattle.eap_method.specs.PskPeer as peer
use Rattle.eap_method.specs.PskServer as server

-- whether a peer's login has failed: PSK-3 carried DONE_FAILURE
abbrev pub peer_has_failed : peer.View → Bool
peer_has_failed (peer.over login good) = not good
peer_has_failed view = false

-- whether a server has refused a user that it doesn't know
abbrev pub is_unknown : server.View → Bool
is_unknown (server.refused own nonce) = true
is_unknown view = false

-- whether the login of a user that a server knows has failed: PSK-3 or PSK-4 carried DONE_FAILURE
abbrev pub server_has_failed : server.View → Bool
server_has_failed (server.over login good) = not good
server_has_failed view = false
