-- The peer's name in a Response, and the server's in a Request.
use Rattle.std.specs.Prelude.{ℕ, List, Option, None, Result, Ok, Err}
use Rattle.eap_packet.specs.declared.cause.Cause.{Cause}
use Rattle.eap_packet.specs.Packet.{PacketValue, request, response}
use Rattle.eap_packet.specs.Fault.{packet_of}
use Rattle.eap_method.specs.Plain.{plain_octets}
use Rattle.tuvaddri_c.specs.ByMethod.{name_by, server_by}

-- the packet that octets begin with, in its plain form (RFC 3748 section 5.7)
abbrev pub plain_packet_of : List ℕ → Result PacketValue Cause
plain_packet_of octets = elim (packet_of octets) [
  | Ok packet ↦ packet_of (plain_octets octets packet)
  | Err cause ↦ Err cause
]

-- the name that a packet of the peer gives
abbrev pub name_in : Result PacketValue Cause → Option (List ℕ)
name_in (Ok (response id kind body)) = name_by kind body
name_in packet = None

-- the name of the peer in octets that came from it
abbrev pub response_name : List ℕ → Option (List ℕ)
response_name octets = name_in (plain_packet_of octets)

-- the name that a packet of the server gives
abbrev pub server_in : Result PacketValue Cause → Option (List ℕ)
server_in (Ok (request id kind body)) = server_by kind body
server_in packet = None

-- the name of the server in octets that came from it
abbrev pub request_name : List ℕ → Option (List ℕ)
request_name octets = server_in (plain_packet_of octets)
