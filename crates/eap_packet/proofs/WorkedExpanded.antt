-- Worked values of the definitions of Expanded Types (RFC 3748 sections 5.3.2 and 5.7).
use Rattle.std.proofs.Common.{◌≡◌, ℕ, List, [], ◌∷◌, true, false, Some, None, Ok, refl}
use Rattle.eap_packet.specs.Packet.{PacketValue, request, response, success}
use Rattle.eap_packet.specs.Fault.{fault, packet_of}
use Rattle.eap_packet.specs.Expanded.{expanded_of, are_expanded, plain, wrap, expanded_form}
use Rattle.eap_packet.specs.Expanded.{is_bad_expanded}

-- a Request of vendor 1 with Vendor-Type 2: it is read so, is its own plain form, and isn't bad
abbrev vendor_octets : List ℕ
vendor_octets = 1 ∷ 9 ∷ 0 ∷ 12 ∷ 254 ∷ 0 ∷ 0 ∷ 1 ∷ 0 ∷ 0 ∷ 0 ∷ 2 ∷ []

abbrev vendor_packet : PacketValue
vendor_packet = request 9 254 (0 ∷ 0 ∷ 1 ∷ 0 ∷ 0 ∷ 0 ∷ 2 ∷ [])

vendor_is_read : packet_of vendor_octets ≡ Ok vendor_packet
unfolding packet_of fault
vendor_is_read = refl

vendor_fields : expanded_of (0 ∷ 0 ∷ 1 ∷ 0 ∷ 0 ∷ 0 ∷ 2 ∷ [])
    ≡ Some (record { vendor = 1; vendor_type = 2; rest = [] })
vendor_fields = refl

vendor_is_plain : plain vendor_packet ≡ vendor_packet
vendor_is_plain = refl

vendor_is_not_bad : is_bad_expanded vendor_packet ≡ false
vendor_is_not_bad = refl

-- the most significant octet comes first
large_fields : expanded_of (1 ∷ 2 ∷ 3 ∷ 4 ∷ 5 ∷ 6 ∷ 7 ∷ 8 ∷ [])
    ≡ Some (record { vendor = 66051; vendor_type = 67438087; rest = 8 ∷ [] })
large_fields = refl

-- a Request with one octet of Type-Data has no whole fields
short_octets : packet_of (1 ∷ 9 ∷ 0 ∷ 6 ∷ 254 ∷ 0 ∷ []) ≡ Ok (request 9 254 (0 ∷ []))
unfolding packet_of fault
short_octets = refl

short_has_none : expanded_of (0 ∷ []) ≡ None
short_has_none = refl

short_is_bad : is_bad_expanded (request 9 254 (0 ∷ [])) ≡ true
short_is_bad = refl

-- six octets of Type-Data are too few, also of Vendor-Id 0
six_are_bad : is_bad_expanded (response 9 254 (0 ∷ 0 ∷ 0 ∷ 0 ∷ 0 ∷ 0 ∷ [])) ≡ true
six_are_bad = refl

-- the Expanded Nak of a peer that allows Type 47 alone: as a Response it is taken, and stays as it
-- is; as a Request it is bad
nak_octets : packet_of
    (2 ∷ 1 ∷ 0 ∷ 20 ∷ 254 ∷ 0 ∷ 0 ∷ 0 ∷ 0 ∷ 0 ∷ 0 ∷ 3 ∷ 254 ∷ 0 ∷ 0 ∷ 0 ∷ 0 ∷ 0 ∷ 0 ∷ 47 ∷ [])
    ≡ Ok (response 1 254 (0 ∷ 0 ∷ 0 ∷ 0 ∷ 0 ∷ 0 ∷ 3 ∷ 254 ∷ 0 ∷ 0 ∷ 0 ∷ 0 ∷ 0 ∷ 0 ∷ 47 ∷ []))
unfolding packet_of fault
nak_octets = refl

nak_is_accepted : is_bad_expanded (response 1 254
    (0 ∷ 0 ∷ 0 ∷ 0 ∷ 0 ∷ 0 ∷ 3 ∷ 254 ∷ 0 ∷ 0 ∷ 0 ∷ 0 ∷ 0 ∷ 0 ∷ 47 ∷ [])) ≡ false
unfolding are_expanded
nak_is_accepted = refl

nak_is_plain : plain
    (response 1 254 (0 ∷ 0 ∷ 0 ∷ 0 ∷ 0 ∷ 0 ∷ 3 ∷ 254 ∷ 0 ∷ 0 ∷ 0 ∷ 0 ∷ 0 ∷ 0 ∷ 47 ∷ []))
    ≡ response 1 254 (0 ∷ 0 ∷ 0 ∷ 0 ∷ 0 ∷ 0 ∷ 3 ∷ 254 ∷ 0 ∷ 0 ∷ 0 ∷ 0 ∷ 0 ∷ 0 ∷ 47 ∷ [])
nak_is_plain = refl

asked_nak_is_bad : is_bad_expanded (request 1 254
    (0 ∷ 0 ∷ 0 ∷ 0 ∷ 0 ∷ 0 ∷ 3 ∷ 254 ∷ 0 ∷ 0 ∷ 0 ∷ 0 ∷ 0 ∷ 0 ∷ 47 ∷ [])) ≡ true
asked_nak_is_bad = refl

-- without an entry, with a part of one, and with one of another first octet it is bad; of another
-- vendor it isn't
empty_nak_is_bad : is_bad_expanded (response 1 254 (0 ∷ 0 ∷ 0 ∷ 0 ∷ 0 ∷ 0 ∷ 3 ∷ [])) ≡ true
empty_nak_is_bad = refl

cut_nak_is_bad : is_bad_expanded (response 1 254
    (0 ∷ 0 ∷ 0 ∷ 0 ∷ 0 ∷ 0 ∷ 3 ∷ 254 ∷ 0 ∷ 0 ∷ 0 ∷ 0 ∷ 0 ∷ 0 ∷ 47 ∷ 254 ∷ [])) ≡ true
unfolding are_expanded
cut_nak_is_bad = refl

other_entry_is_bad : is_bad_expanded (response 1 254
    (0 ∷ 0 ∷ 0 ∷ 0 ∷ 0 ∷ 0 ∷ 3 ∷ 253 ∷ 0 ∷ 0 ∷ 0 ∷ 0 ∷ 0 ∷ 0 ∷ 47 ∷ [])) ≡ true
unfolding are_expanded
other_entry_is_bad = refl

other_vendor_is_not : is_bad_expanded (response 1 254 (0 ∷ 0 ∷ 1 ∷ 0 ∷ 0 ∷ 0 ∷ 3 ∷ [])) ≡ false
other_vendor_is_not = refl

-- a Notification wrapped, its octets, and its plain form again
abbrev notice : PacketValue
notice = request 5 2 (65 ∷ [])

notice_wrapped : wrap notice ≡ request 5 254 (0 ∷ 0 ∷ 0 ∷ 0 ∷ 0 ∷ 0 ∷ 2 ∷ 65 ∷ [])
notice_wrapped = refl

notice_octets : expanded_form (1 ∷ 5 ∷ 0 ∷ 6 ∷ 2 ∷ 65 ∷ [])
    ≡ 1 ∷ 5 ∷ 0 ∷ 13 ∷ 254 ∷ 0 ∷ 0 ∷ 0 ∷ 0 ∷ 0 ∷ 0 ∷ 2 ∷ 65 ∷ []
notice_octets = refl

notice_again : plain (wrap notice) ≡ notice
notice_again = refl

-- octets behind the Length are padding and left out
padded : (rest : List ℕ) → expanded_form (1 ∷ 1 ∷ 0 ∷ 5 ∷ 51 ∷ rest)
    ≡ 1 ∷ 1 ∷ 0 ∷ 12 ∷ 254 ∷ 0 ∷ 0 ∷ 0 ∷ 0 ∷ 0 ∷ 0 ∷ 51 ∷ []
padded rest = refl

-- Vendor-Types 0, 254 and over 255 of Vendor-Id 0 have no plain form
zero_type : plain (request 1 254 (0 ∷ 0 ∷ 0 ∷ 0 ∷ 0 ∷ 0 ∷ 0 ∷ []))
    ≡ request 1 254 (0 ∷ 0 ∷ 0 ∷ 0 ∷ 0 ∷ 0 ∷ 0 ∷ [])
zero_type = refl

nested_type : plain (request 1 254 (0 ∷ 0 ∷ 0 ∷ 0 ∷ 0 ∷ 0 ∷ 254 ∷ 1 ∷ []))
    ≡ request 1 254 (0 ∷ 0 ∷ 0 ∷ 0 ∷ 0 ∷ 0 ∷ 254 ∷ 1 ∷ [])
nested_type = refl

large_type : plain (request 1 254 (0 ∷ 0 ∷ 0 ∷ 0 ∷ 0 ∷ 1 ∷ 47 ∷ []))
    ≡ request 1 254 (0 ∷ 0 ∷ 0 ∷ 0 ∷ 0 ∷ 1 ∷ 47 ∷ [])
large_type = refl

-- what isn't of Type 254 is its own plain form, and so is a Success
other_type : (body : List ℕ) → plain (response 1 47 body) ≡ response 1 47 body
other_type body = refl

a_success : plain (success 7) ≡ success 7
a_success = refl
