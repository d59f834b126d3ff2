-- What a captured packet is by itself, before its Type-Data is looked at.
use Rattle.std.specs.Prelude.{ℕ, List, Bool, if◌then◌else◌, Result, Ok, Err}
use Rattle.eap_packet.specs.Packet.{PacketValue, request, response, success, failure}
use Rattle.eap_packet.specs.Fault.{packet_of}
use Rattle.eap_packet.specs.declared.cause.Cause.{Cause}
use Rattle.eap_packet.specs.declared.cause.Cause.TheVariants.{WrongRole}

-- malformed; without a Type; a Request to the peer or a Response from it, with its Type and
-- Type-Data
pub data Classified : Type 0 where
  malformed : Cause → Classified
  plain : Classified
  typed : Bool → ℕ → List ℕ → Classified

-- only Responses come from a peer, and none goes to it (RFC 3748 section 4)
abbrev pub packet_class : Bool → PacketValue → Classified
packet_class to_peer (request id kind body) =
    if to_peer then typed to_peer kind body else malformed WrongRole
packet_class to_peer (response id kind body) =
    if to_peer then malformed WrongRole else typed to_peer kind body
packet_class to_peer (success id) = if to_peer then plain else malformed WrongRole
packet_class to_peer (failure id) = if to_peer then plain else malformed WrongRole

abbrev pub decoded_class : Bool → Result PacketValue Cause → Classified
decoded_class to_peer (Err cause) = malformed cause
decoded_class to_peer (Ok packet) = packet_class to_peer packet

-- what a packet is
unfoldable pub classified_of : Bool → List ℕ → Classified
classified_of to_peer octets = decoded_class to_peer (packet_of octets)
