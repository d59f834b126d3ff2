-- Expanded Types (RFC 3748 section 5.7): their fields, the plain form of a packet, and a packet
-- wrapped.
use Rattle.std.specs.Prelude.{ℕ, ◌+◌, ◌*◌, ◌-◌, List, [], ◌∷◌, ◌++◌, length, take, drop, Bool, true}
use Rattle.std.specs.Prelude.{false, ◌==◌, ◌&&◌, ◌||◌, not, nat_le, nat_lt, if◌then◌else◌, Option}
use Rattle.std.specs.Prelude.{Some, None, slice_index}
use Rattle.std.specs.Str.{bytes_eq}
use Rattle.octet_lists.specs.Among.{is_filled, nak_kind, expanded_kind, ietf}
use Rattle.eap_packet.specs.declared.expanded.Expanded.{Expanded}
use Rattle.eap_packet.specs.Packet.{PacketValue, request, response, success, failure, two_octets}
use Rattle.eap_packet.specs.Fault.{length_of}

-- the octets of a packet that leaves room for the seven more of an Expanded Type
abbrev pub max_wrapped : ℕ
max_wrapped = 1493

-- the Vendor-Id in three octets and the Vendor-Type in four, the most significant octet first
abbrev pub vendor_of : List ℕ → ℕ
vendor_of body = 65536 * slice_index body 0 + 256 * slice_index body 1 + slice_index body 2

abbrev pub vendor_type_of : List ℕ → ℕ
vendor_type_of body =
    16777216 * slice_index body 3 + 65536 * slice_index body 4 + 256 * slice_index body 5
    + slice_index body 6

-- the fields of an Expanded Type: the Vendor-Id, the Vendor-Type and the Vendor data
pub record ExpandedValue : Type 0 where
  pub vendor : ℕ
  pub vendor_type : ℕ
  pub rest : List ℕ

-- those of the Type-Data of Type 254, if the Vendor-Id and the Vendor-Type are whole
abbrev pub expanded_of : List ℕ → Option ExpandedValue
expanded_of body =
    if nat_lt (length body) 7 then None
    else Some
    (record { vendor = vendor_of body; vendor_type = vendor_type_of body; rest = drop 7 body })

-- a reader's answer, with the list of the Vendor data in place of its octets
abbrev pub expanded_value : Option Expanded → Option ExpandedValue
expanded_value None = None
expanded_value (Some fields) = Some
    (record { vendor = fields.vendor; vendor_type = fields.vendor_type; rest = fields.rest.now })

-- whether Type-Data has Vendor-Id 0 and a Vendor-Type under 256; that Type, and the data behind it
abbrev pub is_ietf : List ℕ → Bool
is_ietf body = nat_le 7 (length body) && bytes_eq (take 6 body) ietf

abbrev pub inner_kind : List ℕ → ℕ
inner_kind body = slice_index body 6

abbrev pub inner_body : List ℕ → List ℕ
inner_body body = drop 7 body

-- whether a Type has a plain form: any but 0, the Nak and Type 254 itself
abbrev pub has_plain : ℕ → Bool
has_plain kind = not (kind == 0) && (not (kind == nak_kind) && not (kind == expanded_kind))

abbrev pub is_plain_body : List ℕ → Bool
is_plain_body body = is_ietf body && has_plain (inner_kind body)

-- whether Type-Data is that of an Expanded Nak (section 5.3.2)
abbrev pub is_nak_body : List ℕ → Bool
is_nak_body body = is_ietf body && (inner_kind body == nak_kind)

-- whether a Type and its Type-Data are those of a Type of the IETF that has a plain form
abbrev pub is_wrapped : ℕ → List ℕ → Bool
is_wrapped kind body = (kind == expanded_kind) && is_plain_body body

-- whether a packet isn't its own plain form
abbrev pub has_plain_form : PacketValue → Bool
has_plain_form (request id kind body) = is_wrapped kind body
has_plain_form (response id kind body) = is_wrapped kind body
has_plain_form (success id) = false
has_plain_form (failure id) = false

-- the plain form of a packet: of Type 254 with such a Type of the IETF, the packet of that Type; of
-- any other, itself
abbrev pub plain : PacketValue → PacketValue
plain (request id kind body) =
    if is_wrapped kind body then request id (inner_kind body) (inner_body body)
    else request id kind body
plain (response id kind body) =
    if is_wrapped kind body then response id (inner_kind body) (inner_body body)
    else response id kind body
plain (success id) = success id
plain (failure id) = failure id

-- a packet wrapped: its Type as the Vendor-Type of Vendor-Id 0
abbrev pub wrap : PacketValue → PacketValue
wrap (request id kind body) = request id expanded_kind (ietf ++ kind ∷ body)
wrap (response id kind body) = response id expanded_kind (ietf ++ kind ∷ body)
wrap (success id) = success id
wrap (failure id) = failure id

-- the octets of a packet wrapped, without padding: Code and Identifier, the new Length, Type 254
-- and the vendor before the Type
abbrev pub expanded_form : List ℕ → List ℕ
expanded_form octets =
    slice_index octets 0 ∷ slice_index octets 1 ∷ two_octets (length_of octets + 7) ++
    expanded_kind ∷ ietf ++ take (length_of octets - 4) (drop 4 octets)

-- entries of eight octets that each begin with 254
unfoldable pub are_expanded : List ℕ → Bool
are_expanded [] = true
are_expanded (a ∷ b ∷ c ∷ d ∷ e ∷ f ∷ g ∷ h ∷ rest) = (a == expanded_kind) && are_expanded rest
are_expanded octets = false

-- the list of an Expanded Nak (section 5.3.2): one such entry or more
abbrev pub are_entries : List ℕ → Bool
are_entries list = is_filled list && are_expanded list

-- Type-Data of Type 254 that no party accepts: it is too short, or an Expanded Nak that is asked,
-- or one whose list has another form
abbrev pub is_bad_body : Bool → List ℕ → Bool
is_bad_body is_asked body = nat_lt (length
    body) 7 || (is_nak_body body && (is_asked || not (are_entries (inner_body body))))

-- whether a packet of Type 254 is one that no party accepts; a Request asks
abbrev pub is_bad_expanded : PacketValue → Bool
is_bad_expanded (request id kind body) = (kind == expanded_kind) && is_bad_body true body
is_bad_expanded (response id kind body) = (kind == expanded_kind) && is_bad_body false body
is_bad_expanded (success id) = false
is_bad_expanded (failure id) = false
