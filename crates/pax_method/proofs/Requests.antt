-- What is known of the octets of a Request and of a Response.
use Rattle.std.proofs.Common.{ℕ, ◌≤◌, List, length, ap, arith}
use Rattle.eap_packet.specs.Packet.{spelled}
use Rattle.eap_method.specs.Peer.{IsRequest}
use Rattle.eap_method.specs.Server.{IsResponse}

-- a Request has a Code, an Identifier, a Length and a Type, and at most 1,500 octets
pub has_a_type : (kind : ℕ) (octets : List ℕ) → IsRequest kind octets → 5 ≤ length octets
unfolding spelled
has_a_type kind octets h = omega (arith, ap length h.encoding_of)

pub is_bounded : (kind : ℕ) (octets : List ℕ) → IsRequest kind octets → length octets ≤ 1500
unfolding spelled
is_bounded kind octets h = omega (arith, ap length h.encoding_of, h.packet.0.size)

-- and so has a Response
pub response_has_a_type : (kind : ℕ) (octets : List ℕ) → IsResponse kind octets → 5 ≤ length octets
unfolding spelled
response_has_a_type kind octets h = omega (arith, ap length h.encoding_of)

pub response_is_bounded : (kind : ℕ) (octets : List ℕ) → IsResponse kind octets
    → length octets ≤ 1500
unfolding spelled
response_is_bounded kind octets h = omega (arith, ap length h.encoding_of, h.packet.0.size)
