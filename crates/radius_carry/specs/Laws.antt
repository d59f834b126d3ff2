-- Laws of RADIUS packets that carry EAP, over the definitions alone.
use Rattle.std.specs.Prelude.{◌≡◌, ◌↔◌, ℕ, ◌≤◌, List, [], ◌++◌, length, IsTrue, ◌≢◌, None, Ok}
use Rattle.octet_lists.specs.Sizes.{max_packet}
use Rattle.eap_packet.specs.Packet.{IsOctets}
use Rattle.radius_carry.specs.Packet.{RadiusPacket, spelled, IsRadius, eap_of, is_code, max_value}
use Rattle.radius_carry.specs.Fault.{fault, packet_of}
use Rattle.radius_carry.specs.Tags.{IsGoodRequest, IsGoodReply}
use Rattle.radius_carry.specs.Written.{request_of, reply_of}

-- the octets are the packet's encoding with some octets behind it
pub record IsPrefixed (octets : List ℕ) (packet : RadiusPacket) : Type 0 where
  pub is_radius : IsRadius packet (spelled packet)
  pub rest : List ℕ
  pub joined : octets ≡ spelled packet ++ rest

-- an encoding with any octets behind it is read as its packet
abbrev pub EncodingsAreRead : Type 0
EncodingsAreRead =
    (packet : RadiusPacket) (rest : List ℕ) → IsRadius packet (spelled packet)
    → packet_of (spelled packet ++ rest) ≡ Ok packet

-- no two packets have encodings that begin one list
abbrev pub EncodingsAreApart : Type 0
EncodingsAreApart =
    (one other : RadiusPacket) (rest others : List ℕ) → IsRadius one (spelled one)
    → IsRadius other (spelled other) →
    spelled one ++ rest ≡ spelled other ++ others → one ≡ other

-- what is read is the packet with whose encoding the octets begin
abbrev pub ReadsTheEncoding : Type 0
ReadsTheEncoding =
    (octets : List ℕ) (packet : RadiusPacket) → IsOctets octets
    → (packet_of octets ≡ Ok packet) ↔ IsPrefixed octets packet

-- no cause applies exactly if the octets begin with the encoding of some packet
abbrev pub FaultlessIsEncoded : Type 0
FaultlessIsEncoded =
    (octets : List ℕ) → IsOctets octets
    → (fault octets ≡ None) ↔ ((packet : RadiusPacket) × IsPrefixed octets packet)

-- the Code of a reply
pub record IsReply (code : ℕ) : Type 0 where
  pub known : IsTrue (is_code code)
  pub is_reply : code ≢ 1

-- the limits of what is written: an Authenticator, a name, a state, an EAP packet
pub record AreFields (authenticator user state eap : List ℕ) : Type 0 where
  pub sixteen : length authenticator ≡ 16
  pub user_bounded : length user ≤ max_value
  pub state_bounded : length state ≤ max_value
  pub some_eap : 1 ≤ length eap
  pub eap_bounded : length eap ≤ max_packet

-- a packet is read from its encoding, with any octets behind it, and carries this EAP packet
pub record ReadsBack (packet : RadiusPacket) (eap rest : List ℕ) : Type 0 where
  pub read : packet_of (spelled packet ++ rest) ≡ Ok packet
  pub carries : eap_of packet.attributes ≡ eap

-- a request that is written is read back, and is good under its secret
abbrev pub RequestsAreReadBack : Type 0
RequestsAreReadBack =
    (secret authenticator user state eap rest : List ℕ) (id : ℕ)
    → AreFields authenticator user state eap →
    ReadsBack (request_of secret id authenticator user state eap) eap rest

abbrev pub RequestsAreGood : Type 0
RequestsAreGood =
    (secret authenticator user state eap : List ℕ) (id : ℕ)
    → AreFields authenticator user state eap →
    IsGoodRequest secret (request_of secret id authenticator user state eap)

-- a reply that is written is read back, and is good under its secret for the request that it
-- answers
abbrev pub RepliesAreReadBack : Type 0
RepliesAreReadBack =
    (secret asked state eap rest : List ℕ) (code id : ℕ) → IsReply code
    → AreFields asked [] state eap →
    ReadsBack (reply_of secret code id asked state eap) eap rest

abbrev pub RepliesAreGood : Type 0
RepliesAreGood =
    (secret asked state eap : List ℕ) (code id : ℕ) → IsReply code → AreFields asked [] state eap →
    IsGoodReply secret asked (reply_of secret code id asked state eap)
