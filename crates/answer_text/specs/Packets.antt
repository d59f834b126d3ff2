-- What a packet is, in one line.
use Rattle.std.specs.Prelude.{ℕ, ◌-◌, List, [], ◌∷◌, ◌++◌, length, ◌==◌, if◌then◌else◌, Option}
use Rattle.std.specs.Prelude.{Some, None, Result, Ok, Err, codes, decimal}
use Rattle.std.specs.List.{concat}
use Rattle.octet_lists.specs.Among.{expanded_kind, identity_kind, nak_kind}
use Rattle.eap_packet.specs.Words.{cause_word}
use Rattle.eap_packet.specs.Packet.{PacketValue, request, response, success, failure, spelled}
use Rattle.eap_packet.specs.Fault.{packet_of}
use Rattle.eap_packet.specs.Expanded.{ExpandedValue, expanded_of}
use Rattle.eap_packet.specs.declared.cause.Cause.{Cause}
use Rattle.eap_packet.specs.declared.cause.Cause.TheVariants as cause
use Rattle.answer_text.specs.Answers.{message_text}
use Rattle.answer_text.specs.Pieces.{hex_text}

-- octets as decimal numbers, each after a space
abbrev pub numbers_text : List ℕ → List ℕ
numbers_text [] = []
numbers_text (b ∷ rest) = codes " " ++ (decimal b ++ numbers_text rest)

-- the vendor, the Vendor-Type and the Vendor data of an Expanded Type, or that it is too short for
-- them
abbrev pub expanded_note : Option ExpandedValue → List ℕ
expanded_note None = cause_word cause.BadExpanded
expanded_note (Some fields) =
    concat (codes "expanded " ∷ decimal fields.vendor ∷ codes " " ∷ decimal fields.vendor_type
    ∷ codes " " ∷ hex_text fields.rest ∷ [])

-- what the Type-Data of a Type says: an identity in hex, the methods that a Nak desires, an
-- Expanded Type, a message
unfoldable pub note_text : ℕ → List ℕ → List ℕ
note_text kind body =
    if kind == identity_kind then concat (codes "identity " ∷ hex_text body ∷ [])
    else if kind == nak_kind then codes "nak" ++ numbers_text body
    else if kind == expanded_kind then expanded_note (expanded_of body)
    else message_text kind body

-- the line of a Request or a Response: its number, Code, Identifier, Type and Length, how many of
-- the octets are padding, and what its Type-Data says
unfoldable pub typed_text : ℕ → List ℕ → ℕ → ℕ → List ℕ → ℕ → ℕ → List ℕ
typed_text number code id kind body whole octets = concat (
    decimal number ∷ codes " " ∷ code ∷ codes " " ∷ decimal id ∷ codes " type " ∷ decimal kind
    ∷ codes " length " ∷ decimal whole ∷
    codes " padding " ∷ decimal (octets - whole) ∷ codes " " ∷ note_text kind body
    ∷ codes "\n" ∷ [])

-- the line of a Success or a Failure
abbrev pub end_line_text : ℕ → List ℕ → ℕ → ℕ → ℕ → List ℕ
end_line_text number code id whole octets = concat (
    decimal number ∷ codes " " ∷ code ∷ codes " " ∷ decimal id ∷ codes " length " ∷ decimal whole ∷
    codes " padding " ∷ decimal (octets - whole) ∷ codes "\n" ∷ [])

-- the line of a packet, if it has so many octets and so many came
abbrev pub value_text : ℕ → PacketValue → ℕ → ℕ → List ℕ
value_text number (request id kind body) whole octets =
    typed_text number (codes "request") id kind body whole octets
value_text number (response id kind body) whole octets =
    typed_text number (codes "response") id kind body whole octets
value_text number (success id) whole octets = end_line_text number (codes "success") id whole octets
value_text number (failure id) whole octets = end_line_text number (codes "failure") id whole octets

-- the line of octets that begin with no packet
abbrev pub malformed_text : ℕ → Cause → List ℕ
malformed_text number cause =
    concat (decimal number ∷ codes " malformed " ∷ cause_word cause ∷ codes "\n" ∷ [])

abbrev pub packet_text_by : ℕ → List ℕ → Result PacketValue Cause → List ℕ
packet_text_by number octets (Err cause) = malformed_text number cause
packet_text_by number octets (Ok value) =
    value_text number value (length (spelled value)) (length octets)

-- the line of the packet with this number
unfoldable pub packet_text : ℕ → List ℕ → List ℕ
packet_text number octets = packet_text_by number octets (packet_of octets)

-- the last line: how many packets there were, and how many of them are malformed
unfoldable pub packets_text : ℕ → ℕ → List ℕ
packets_text packets malformed = concat
    (codes "packets " ∷ decimal packets ∷ codes " malformed " ∷ decimal malformed ∷ codes "\n" ∷ [])
