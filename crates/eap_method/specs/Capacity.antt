-- A packet that has room for an Expanded Type (RFC 3748 section 5.7).
use Rattle.std.specs.Prelude.{◌≤◌, ℕ, List, length, Bool, true, false, ⊤}
use Rattle.eap_packet.specs.Fault.{length_of}
use Rattle.eap_packet.specs.Expanded.{max_wrapped}
use Rattle.eap_method.specs.declared.turn.PeerAnswer as brief_peer
use Rattle.eap_method.specs.declared.turn.PeerAnswer.TheVariants as peer
use Rattle.eap_method.specs.declared.turn.ServerAnswer as brief_server
use Rattle.eap_method.specs.declared.turn.ServerAnswer.TheVariants as server
use Rattle.eap_method.specs.declared.turn.PeerTurn as whole_peer
use Rattle.eap_method.specs.declared.turn.PeerTurn.TheVariants as peer_turn
use Rattle.eap_method.specs.declared.turn.ServerTurn as whole_server
use Rattle.eap_method.specs.declared.turn.ServerTurn.TheVariants as server_turn

-- the octets are whole by their Length, have a Type, and leave room for seven octets more
pub record HasCapacity (octets : List ℕ) : Type 0 where
  pub typed : 5 ≤ length_of octets
  pub whole : length_of octets ≤ length octets
  pub fits : length_of octets ≤ max_wrapped

-- whether a turn sends a packet
abbrev pub replies : brief_peer.PeerAnswer → Bool
replies (peer.Discard cause) = false
replies (peer.Reply state decision) = true

abbrev pub requests : brief_server.ServerAnswer → Bool
requests (server.Discard cause) = false
requests server.Request = true
requests (server.Done success) = false

-- what a turn that is answered whole sends has room
abbrev pub PeerTurnHasCapacity : whole_peer.PeerTurn → Type 0
PeerTurnHasCapacity (peer_turn.Discard cause) = ⊤
PeerTurnHasCapacity (peer_turn.Reply packet state decision tags) = HasCapacity packet

abbrev pub ServerTurnHasCapacity : whole_server.ServerTurn → Type 0
ServerTurnHasCapacity (server_turn.Discard cause) = ⊤
ServerTurnHasCapacity (server_turn.Request packet tags) = HasCapacity packet
ServerTurnHasCapacity (server_turn.Done success tags) = ⊤
