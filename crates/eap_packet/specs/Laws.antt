-- Laws of the packets' grammar (RFC 3748 section 4) and of Expanded Types (section 5.7), over the
-- definitions alone.
use Rattle.std.specs.Prelude.{◌≡◌, ◌↔◌, ◌≤◌, ◌<◌, ℕ, List, ◌++◌, length, true, false, ◌==◌, ◌&&◌}
use Rattle.std.specs.Prelude.{None, Ok}
use Rattle.octet_lists.specs.Among.{nak_kind}
use Rattle.eap_packet.specs.Packet.{PacketValue, request, response, success, failure, spelled}
use Rattle.eap_packet.specs.Packet.{IsPacket, IsOctets}
use Rattle.eap_packet.specs.Fault.{fault, packet_of}
use Rattle.eap_packet.specs.Expanded.{max_wrapped, vendor_of, vendor_type_of, is_ietf, is_nak_body}
use Rattle.eap_packet.specs.Expanded.{inner_kind, has_plain, has_plain_form, plain, wrap}
use Rattle.eap_packet.specs.Expanded.{expanded_form}

-- the octets are the packet's encoding with some octets behind it
pub record IsPrefixed (octets : List ℕ) (packet : PacketValue) : Type 0 where
  pub is_packet : IsPacket packet
  pub rest : List ℕ
  pub joined : octets ≡ spelled packet ++ rest

-- an encoding with any octets behind it is read as its packet
abbrev pub EncodingsAreRead : Type 0
EncodingsAreRead = (packet : PacketValue) (rest : List ℕ) → IsPacket packet
    → packet_of (spelled packet ++ rest) ≡ Ok packet

-- no two packets have encodings that begin one list
abbrev pub EncodingsAreApart : Type 0
EncodingsAreApart =
    (one other : PacketValue) (rest others : List ℕ) → IsPacket one → IsPacket other →
    spelled one ++ rest ≡ spelled other ++ others → one ≡ other

-- what is read is the packet with whose encoding the octets begin
abbrev pub ReadsTheEncoding : Type 0
ReadsTheEncoding =
    (octets : List ℕ) (packet : PacketValue) → IsOctets octets
    → (packet_of octets ≡ Ok packet) ↔ IsPrefixed octets packet

-- no cause applies exactly if the octets begin with the encoding of some packet
abbrev pub FaultlessIsEncoded : Type 0
FaultlessIsEncoded =
    (octets : List ℕ) → IsOctets octets
    → (fault octets ≡ None) ↔ ((packet : PacketValue) × IsPrefixed octets packet)

-- the fields of Type-Data are whole: Vendor-Id 0 and a Vendor-Type under 256, which is the Type
-- inside (section 5.7)
pub record IsOfIetf (body : List ℕ) : Type 0 where
  pub whole : 7 ≤ length body
  pub vendor : vendor_of body ≡ 0
  pub small : vendor_type_of body < 256
  pub inner : vendor_type_of body ≡ inner_kind body

-- the test by octets is that of the fields
abbrev pub IetfIsVendorZero : Type 0
IetfIsVendorZero = (body : List ℕ) → IsOctets body → (is_ietf body ≡ true) ↔ IsOfIetf body

-- so is the test for an Expanded Nak (section 5.3.2): Vendor-Id 0 and Vendor-Type 3
abbrev pub NakIsVendorZero : Type 0
NakIsVendorZero = (body : List ℕ) → 7 ≤ length body
    → is_nak_body body ≡ ((vendor_of body == 0) && (vendor_type_of body == nak_kind))

-- a packet whose Type, if it has one, has a plain form
abbrev pub HasPlain : PacketValue → Type 0
HasPlain (request id kind body) = has_plain kind ≡ true
HasPlain (response id kind body) = has_plain kind ≡ true
HasPlain (success id) = Unit {0}
HasPlain (failure id) = Unit {0}

-- the plain form of a wrapped packet is that packet (section 5.7)
abbrev pub PlainOfWrap : Type 0
PlainOfWrap = (packet : PacketValue) → HasPlain packet → plain (wrap packet) ≡ packet

-- a packet is its plain form exactly if it has no other
abbrev pub OnlyWrappedDiffer : Type 0
OnlyWrappedDiffer =
    (packet : PacketValue) → (has_plain_form packet ≡ false) ↔ (plain packet ≡ packet)

-- a Request or a Response
abbrev pub IsTyped : PacketValue → Type 0
IsTyped (request id kind body) = Unit {0}
IsTyped (response id kind body) = Unit {0}
IsTyped (success id) = ⊥
IsTyped (failure id) = ⊥

-- a packet's encoding, with any octets behind it, is wrapped as the packet is
abbrev pub WrapsTheEncoding : Type 0
WrapsTheEncoding =
    (packet : PacketValue) (rest : List ℕ) → IsTyped packet → expanded_form (spelled packet ++ rest)
    ≡ spelled (wrap packet)

-- the plain form of a packet is one
abbrev pub PlainIsPacket : Type 0
PlainIsPacket = (packet : PacketValue) → IsPacket packet → IsPacket (plain packet)

-- so is a wrapped packet, if the seven octets more fit
abbrev pub WrapIsPacket : Type 0
WrapIsPacket = (packet : PacketValue) → IsPacket packet → length (spelled packet) ≤ max_wrapped
    → IsPacket (wrap packet)
