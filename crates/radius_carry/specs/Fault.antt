-- What keeps octets from being a RADIUS packet that carries EAP, and the packet that they begin
-- with.
use Rattle.std.specs.Prelude.{ℕ, zero, suc, ◌+◌, ◌-◌, ◌*◌, List, [], ◌∷◌, ◌++◌, length, take, drop}
use Rattle.std.specs.Prelude.{slice_index, Bool, ◌==◌, ◌&&◌, ◌||◌, not, nat_lt}
use Rattle.std.specs.Prelude.{nat_le, if◌then◌else◌, Option, Some, None, Result, Ok, Err}
use Rattle.octet_lists.specs.Sizes.{max_packet}
use Rattle.radius_carry.specs.Packet.{Attribute, RadiusPacket, count, eap_of, tag_of, is_code}
use Rattle.radius_carry.specs.Packet.{number_of, max_radius}
use Rattle.radius_carry.specs.declared.cause.RadiusCause.{RadiusCause}
use Rattle.radius_carry.specs.declared.cause.RadiusCause.TheVariants.{RadiusShort, RadiusCode}
use Rattle.radius_carry.specs.declared.cause.RadiusCause.TheVariants.{RadiusLength, RadiusTruncated}
use Rattle.radius_carry.specs.declared.cause.RadiusCause.TheVariants.{RadiusAttribute, NoEap}
use Rattle.radius_carry.specs.declared.cause.RadiusCause.TheVariants.{EapTooLong, NoAuthenticator}
use Rattle.radius_carry.specs.declared.view.RadiusView.{RadiusView}

-- ---- the attributes of octets (RFC 2865 section 5)

-- whether octets begin with an attribute: its Length is at least 2 and isn't past the end
abbrev pub begins : List ℕ → Bool
begins octets = nat_le 2 (slice_index octets 1) && nat_le (slice_index octets 1) (length octets)

-- the first attribute
abbrev pub first : List ℕ → Attribute
first octets = (slice_index octets 0, take (slice_index octets 1 - 2) (drop 2 octets))

-- the octets behind it
abbrev pub behind : List ℕ → List ℕ
behind octets = drop (slice_index octets 1) octets

-- at most so many attributes, as far as they go
unfoldable pub attributes_in : ℕ → List ℕ → List Attribute
attributes_in zero octets = []
attributes_in (suc most) octets =
    if begins octets then first octets ∷ attributes_in most (behind octets) else []

-- the octets behind them
unfoldable pub left_in : ℕ → List ℕ → List ℕ
left_in zero octets = octets
left_in (suc most) octets = if begins octets then left_in most (behind octets) else octets

-- the attributes of the octets, as far as they go
unfoldable pub attributes_of : List ℕ → List Attribute
attributes_of octets = attributes_in (length octets) octets

-- the octets that are left, where no attribute begins
unfoldable pub left_of : List ℕ → List ℕ
left_of octets = left_in (length octets) octets

-- ---- the packet

-- the Code and Length fields
abbrev pub code_of : List ℕ → ℕ
code_of octets = slice_index octets 0

abbrev pub length_of : List ℕ → ℕ
length_of octets = 256 * slice_index octets 2 + slice_index octets 3

-- the octets of the attributes; the octets past Length are ignored
abbrev pub body_of : List ℕ → List ℕ
body_of octets = drop 20 (take (length_of octets) octets)

-- the conditions on the fields before the attributes
abbrev pub has_bad_length : List ℕ → Bool
has_bad_length octets = nat_lt (length_of octets) 20 || nat_lt max_radius (length_of octets)

-- the conditions on the attributes
abbrev pub has_bad_attribute : List ℕ → Bool
has_bad_attribute body = not (length (left_of body) == 0)

abbrev pub lacks_eap : List ℕ → Bool
lacks_eap body = count 79 (attributes_of body) == 0

abbrev pub has_long_eap : List ℕ → Bool
has_long_eap body = nat_lt max_packet (length (eap_of (attributes_of body)))

abbrev pub lacks_tag : List ℕ → Bool
lacks_tag body =
    not ((count 80 (attributes_of body) == 1) && (length (tag_of (attributes_of body)) == 16))

-- the causes in their order, each with its condition
abbrev pub head_table : List ℕ → List (Bool × RadiusCause)
head_table octets =
    (nat_lt (length octets) 20, RadiusShort) ∷
    (not (is_code (code_of octets)), RadiusCode) ∷
    (has_bad_length octets, RadiusLength) ∷
    (nat_lt (length octets) (length_of octets), RadiusTruncated) ∷ []

abbrev pub body_table : List ℕ → List (Bool × RadiusCause)
body_table body =
    (has_bad_attribute body, RadiusAttribute) ∷
    (lacks_eap body, NoEap) ∷
    (has_long_eap body, EapTooLong) ∷
    (lacks_tag body, NoAuthenticator) ∷ []

-- the first cause whose condition holds
abbrev pub first_cause : List (Bool × RadiusCause) → Option RadiusCause
first_cause [] = None
first_cause ((test, cause) ∷ rest) = if test then Some cause else first_cause rest

-- the first cause for which the octets begin with no such packet
unfoldable pub fault : List ℕ → Option RadiusCause
fault octets = first_cause (head_table octets ++ body_table (body_of octets))

-- the packet whose fields the octets have
unfoldable pub packet_at : List ℕ → RadiusPacket
packet_at octets = record {
  code = code_of octets;
  id = slice_index octets 1;
  authenticator = take 16 (drop 4 octets);
  attributes = attributes_of (body_of octets);
}

abbrev pub packet_unless : Option RadiusCause → List ℕ → Result RadiusPacket RadiusCause
packet_unless (Some cause) octets = Err cause
packet_unless None octets = Ok (packet_at octets)

-- the packet that the octets begin with, or the first cause that keeps them from it
unfoldable pub packet_of : List ℕ → Result RadiusPacket RadiusCause
packet_of octets = packet_unless (fault octets) octets

-- ---- views

-- the packet that a view represents
unfoldable pub value_of : RadiusView → RadiusPacket
value_of view = record {
  code = number_of view.kind;
  id = view.id;
  authenticator = view.authenticator;
  attributes = attributes_of view.attributes.now;
}

-- a reader's answer, with the packet in place of the view
abbrev pub read_value : Result RadiusView RadiusCause → Result RadiusPacket RadiusCause
read_value (Ok view) = Ok (value_of view)
read_value (Err cause) = Err cause
