-- What an object of either method shows: its view, the nonces of a login that has succeeded, and
-- whether it has failed.
use Rattle.std.specs.Prelude.{Bool, false, Option, None, option_map}
use Rattle.eap_method.specs.Peer as peer
use Rattle.eap_method.specs.Peer.{PeerShown}
use Rattle.eap_method.specs.Server as server
use Rattle.eap_method.specs.Server.{ServerShown}
use Rattle.psk_ends.specs.Failures as psk_failures
use Rattle.psk_ends.specs.Nonces as psk_nonces
use Rattle.psk_ends.specs.declared.nonces.Nonces as psk_declared
use Rattle.gpsk_ends.specs.Failures as gpsk_failures
use Rattle.gpsk_ends.specs.Nonces as gpsk_nonces
use Rattle.gpsk_ends.specs.declared.nonces.Nonces as gpsk_declared
use Rattle.end_objects.specs.declared.objects.Nonces.{Nonces}
use Rattle.end_objects.specs.declared.objects.PeerObject.{PeerObject}
use Rattle.end_objects.specs.declared.objects.PeerObject.TheVariants as peers
use Rattle.end_objects.specs.declared.objects.ServerObject.{ServerObject}
use Rattle.end_objects.specs.declared.objects.ServerObject.TheVariants as servers

abbrev pub peer_object_shown : PeerObject → PeerShown
peer_object_shown (peers.Psk view) = peer.psk view
peer_object_shown (peers.Gpsk view) = peer.gpsk view

abbrev pub server_object_shown : ServerObject → ServerShown
server_object_shown (servers.Psk view) = server.psk view
server_object_shown (servers.Gpsk view) = server.gpsk view

-- RAND_P and RAND_S of EAP-PSK; RAND_Peer and RAND_Server of EAP-GPSK
abbrev pub of_psk : psk_declared.Nonces → Nonces
of_psk nonces = record { peer = nonces.rand_p; server = nonces.rand_s }

abbrev pub of_gpsk : gpsk_declared.Nonces → Nonces
of_gpsk nonces = record { peer = nonces.rand_p; server = nonces.rand_s }

-- the nonces of a login that has succeeded; none of a method of a maker
abbrev pub peer_nonces_of : (m : peer.Method) → peer.View m → Option Nonces
peer_nonces_of peer.by_psk view = option_map of_psk (psk_nonces.peer_nonces view)
peer_nonces_of peer.by_gpsk view = option_map of_gpsk (gpsk_nonces.peer_nonces view)
peer_nonces_of (peer.by_other custom) view = None

unfoldable pub peer_nonces : PeerShown → Option Nonces
peer_nonces s = peer_nonces_of s.method s.view

abbrev pub server_nonces_of : (m : server.Method) → server.View m → Option Nonces
server_nonces_of server.by_psk view = option_map of_psk (psk_nonces.server_nonces view)
server_nonces_of server.by_gpsk view = option_map of_gpsk (gpsk_nonces.server_nonces view)
server_nonces_of (server.by_other custom) view = None

unfoldable pub server_nonces : ServerShown → Option Nonces
server_nonces s = server_nonces_of s.method s.view

-- whether the server has refused a peer, as far as the two methods tell
abbrev pub peer_has_failed_by : (m : peer.Method) → peer.View m → Bool
peer_has_failed_by peer.by_psk view = psk_failures.peer_has_failed view
peer_has_failed_by peer.by_gpsk view = gpsk_failures.peer_has_failed view
peer_has_failed_by (peer.by_other custom) view = false

unfoldable pub peer_has_failed : PeerShown → Bool
peer_has_failed s = peer_has_failed_by s.method s.view

-- whether a server has refused a user that it doesn't know, likewise
abbrev pub is_unknown_by : (m : server.Method) → server.View m → Bool
is_unknown_by server.by_psk view = psk_failures.is_unknown view
is_unknown_by server.by_gpsk view = gpsk_failures.is_unknown view
is_unknown_by (server.by_other custom) view = false

unfoldable pub is_unknown : ServerShown → Bool
is_unknown s = is_unknown_by s.method s.view

-- whether the login of a user that a server knows has failed, likewise
abbrev pub server_has_failed_by : (m : server.Method) → server.View m → Bool
server_has_failed_by server.by_psk view = psk_failures.server_has_failed view
server_has_failed_by server.by_gpsk view = gpsk_failures.server_has_failed view
server_has_failed_by (server.by_other custom) view = false

unfoldable pub server_has_failed : ServerShown → Bool
server_has_failed s = server_has_failed_by s.method s.view
