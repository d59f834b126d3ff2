-- RADIUS packets (RFC 2865 sections 3 and 5): packet values, their one encoding, and which of them
-- carry EAP (RFC 3579 sections 3.1 and 3.2).
use Rattle.std.specs.Prelude.{◌≡◌, ℕ, ◌+◌, ◌≤◌, List, [], ◌∷◌, ◌++◌, length, Bool, ◌==◌, ◌||◌}
use Rattle.std.specs.Prelude.{if◌then◌else◌, IsTrue, Option, Some, None}
use Rattle.octet_lists.specs.Sizes.{max_packet}
use Rattle.eap_packet.specs.Packet.{two_octets}
use Rattle.radius_carry.specs.declared.view.RadiusKind.{RadiusKind}
use Rattle.radius_carry.specs.declared.view.RadiusKind.TheVariants.{Request, Accept, Reject}
use Rattle.radius_carry.specs.declared.view.RadiusKind.TheVariants.{Challenge}

-- an attribute: its Type and its Value
abbrev pub Attribute : Type 0
Attribute = ℕ × List ℕ

-- a packet, with its attributes in their order
pub record RadiusPacket : Type 0 where
  pub code : ℕ
  pub id : ℕ
  pub authenticator : List ℕ
  pub attributes : List Attribute

-- the octets of an attribute: Length counts the Type and itself too
abbrev pub attribute_octets : Attribute → List ℕ
attribute_octets (kind, value) = kind ∷ (length value + 2) ∷ value

unfoldable pub octets_of : List Attribute → List ℕ
octets_of [] = []
octets_of ((kind, value) ∷ rest) = attribute_octets (kind, value) ++ octets_of rest

-- Code, Identifier and Length before so many octets of attributes; Length counts the Authenticator
-- too
abbrev pub head_of : ℕ → ℕ → ℕ → List ℕ
head_of code id size = code ∷ id ∷ two_octets (20 + size)

-- the octets of a packet
unfoldable pub spelled : RadiusPacket → List ℕ
spelled packet =
    head_of packet.code packet.id (length
    (octets_of packet.attributes)) ++ (packet.authenticator ++ octets_of packet.attributes)

-- how many attributes of a type there are
unfoldable pub count : ℕ → List Attribute → ℕ
count kind [] = 0
count kind ((other, value) ∷ rest) = if other == kind then 1 + count kind rest else count kind rest

-- the values of a type, joined in their order
unfoldable pub value_of_kind : ℕ → List Attribute → List ℕ
value_of_kind kind [] = []
value_of_kind kind ((other, value) ∷ rest) =
    if other == kind then value ++ value_of_kind kind rest else value_of_kind kind rest

-- the value of the first attribute of a type
unfoldable pub first_value : ℕ → List Attribute → Option (List ℕ)
first_value kind [] = None
first_value kind ((other, value) ∷ rest) =
    if other == kind then Some value else first_value kind rest

-- the EAP packet that the attributes EAP-Message carry (RFC 3579 section 3.1)
abbrev pub eap_of : List Attribute → List ℕ
eap_of attributes = value_of_kind 79 attributes

-- the value of the attribute Message-Authenticator (RFC 3579 section 3.2)
abbrev pub tag_of : List Attribute → List ℕ
tag_of attributes = value_of_kind 80 attributes

-- the Code field: Access-Request, Access-Accept, Access-Reject, Access-Challenge
abbrev pub number_of : RadiusKind → ℕ
number_of Request = 1
number_of Accept = 2
number_of Reject = 3
number_of Challenge = 11

abbrev pub is_code : ℕ → Bool
is_code code = (code == 1) || (code == 2) || (code == 3) || (code == 11)

-- the octets of a packet (RFC 2865 section 3), and of the value of an attribute (section 5)
abbrev pub max_radius : ℕ
max_radius = 4096

abbrev pub max_value : ℕ
max_value = 253

-- the octets are this packet, which carries EAP: at least one attribute EAP-Message, and exactly
-- one Message-Authenticator, with 16 octets
pub record IsRadius (packet : RadiusPacket) (octets : List ℕ) : Type 0 where
  pub encoding_of : octets ≡ spelled packet
  pub known : IsTrue (is_code packet.code)
  pub authenticator : length packet.authenticator ≡ 16
  pub size : length octets ≤ max_radius
  pub carries : 1 ≤ count 79 packet.attributes
  pub eap_bounded : length (eap_of packet.attributes) ≤ max_packet
  pub lone_tag : count 80 packet.attributes ≡ 1
  pub tag_size : length (tag_of packet.attributes) ≡ 16
