-- What keeps octets from being a packet (RFC 3748 section 4), and the packet that they begin with.
use Rattle.std.specs.Prelude.{ℕ, ◌+◌, ◌*◌, ◌-◌, List, [], ◌∷◌, length, take, drop, Bool, ◌==◌, ◌&&◌}
use Rattle.std.specs.Prelude.{◌||◌, not, nat_lt, nat_le, if◌then◌else◌, Option, Some, None, Result}
use Rattle.std.specs.Prelude.{Ok, Err, slice_index}
use Rattle.octet_lists.specs.Sizes.{max_packet}
use Rattle.octet_lists.specs.Among.{nak_kind}
use Rattle.eap_packet.specs.Packet.{PacketValue, request, response, success, failure}
use Rattle.eap_packet.specs.declared.cause.Cause.{Cause}
use Rattle.eap_packet.specs.declared.cause.Cause.TheVariants.{Short, BadCode, BadLength, Truncated}
use Rattle.eap_packet.specs.declared.cause.Cause.TheVariants.{TooLong, NakRequest, BadNak}

-- the Code, Length and Type fields
abbrev pub code_of : List ℕ → ℕ
code_of octets = slice_index octets 0

abbrev pub length_of : List ℕ → ℕ
length_of octets = 256 * slice_index octets 2 + slice_index octets 3

abbrev pub type_of : List ℕ → ℕ
type_of octets = slice_index octets 4

-- the conditions under which octets are no packet
abbrev pub is_short : List ℕ → Bool
is_short octets = nat_lt (length octets) 4

-- Code is 1 to 4
abbrev pub has_bad_code : List ℕ → Bool
has_bad_code octets = (code_of octets == 0) || nat_lt 4 (code_of octets)

-- a Request or a Response has a Type, a Success or a Failure no field after Length
abbrev pub has_bad_length : List ℕ → Bool
has_bad_length octets =
    if nat_le (code_of octets) 2 then nat_lt (length_of octets) 5 else not (length_of octets == 4)

abbrev pub is_truncated : List ℕ → Bool
is_truncated octets = nat_lt (length octets) (length_of octets)

abbrev pub is_too_long : List ℕ → Bool
is_too_long octets = nat_lt max_packet (length_of octets)

-- a Nak is a Response alone
abbrev pub is_nak_request : List ℕ → Bool
is_nak_request octets = (code_of octets == 1) && (type_of octets == nak_kind)

-- a Nak has at least one octet of Type-Data
abbrev pub is_bad_nak : List ℕ → Bool
is_bad_nak octets = (code_of octets == 2) && (type_of octets == nak_kind) && (length_of octets == 5)

-- the causes in their order, each with its condition
abbrev pub fault_table : List ℕ → List (Bool × Cause)
fault_table octets =
    (is_short octets, Short) ∷
    (has_bad_code octets, BadCode) ∷
    (has_bad_length octets, BadLength) ∷
    (is_truncated octets, Truncated) ∷
    (is_too_long octets, TooLong) ∷
    (is_nak_request octets, NakRequest) ∷
    (is_bad_nak octets, BadNak) ∷ []

-- the first cause whose condition holds
abbrev pub first_cause : List (Bool × Cause) → Option Cause
first_cause [] = None
first_cause ((test, cause) ∷ rest) = if test then Some cause else first_cause rest

-- the first cause for which the octets begin with no packet
unfoldable pub fault : List ℕ → Option Cause
fault octets = first_cause (fault_table octets)

-- the packet whose fields the octets have
abbrev pub fields_of : ℕ → List ℕ → PacketValue
fields_of code octets =
    let id = slice_index octets 1 in
    let body = take (length_of octets - 5) (drop 5 octets) in
    if code == 1 then request id (type_of octets) body
    else if code == 2 then response id (type_of octets) body
    else if code == 3 then success id
    else failure id

abbrev pub packet_unless : Option Cause → List ℕ → Result PacketValue Cause
packet_unless (Some cause) octets = Err cause
packet_unless None octets = Ok (fields_of (code_of octets) octets)

-- the packet that the octets begin with, or the first cause that keeps them from it
unfoldable pub packet_of : List ℕ → Result PacketValue Cause
packet_of octets = packet_unless (fault octets) octets
