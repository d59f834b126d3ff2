-- The tags of EAP-PSK (RFC 4764 sections 3 and 5): what they cover, and their records.
use Rattle.std.specs.Prelude.{ℕ, ◌*◌, ◌/◌, ◌%◌, List, [], ◌∷◌, ◌++◌, Bool, ◌==◌, ◌||◌, take}
use Rattle.std.specs.Prelude.{replicate, slice_index, Option, None}
use Rattle.std.specs.Int.{w32, to_be_bytes}
use Rattle.octet_lists.specs.Among.{psk_kind}
use Rattle.eap_packet.specs.declared.cause.Cause.{Cause}
use Rattle.eap_packet.specs.declared.cause.Cause.TheVariants.{BadResult, Extended}
use Rattle.eap_packet.specs.Packet.{request, response}
use Rattle.eap_packet.specs.Packet as packets
use Rattle.psk_messages.specs.Message.{Message}
use Rattle.psk_messages.specs.Message as messages
use Rattle.eax_mode.specs.Eax.{Sealed, eax_sealed, eax_plaintext, eax_accepts}
use Rattle.eap_method.specs.declared.tags.Label.TheVariants.{Ak, Tek}
use Rattle.eap_method.specs.declared.tags.TagRecord.{TagRecord}
use Rattle.eap_method.specs.Turns.{fault_if}

-- the octets of a Request or a Response with this message
abbrev pub psk_request : ℕ → Message → List ℕ
psk_request id message = packets.spelled (request id psk_kind (messages.spelled message))

abbrev pub psk_response : ℕ → Message → List ℕ
psk_response id message = packets.spelled (response id psk_kind (messages.spelled message))

-- what MAC_P covers: ID_P, ID_S, RAND_S, RAND_P (section 5.2)
unfoldable pub mac_p_octets : List ℕ → List ℕ → List ℕ → List ℕ → List ℕ
mac_p_octets id_p id_s rand_s rand_p = ((id_p ++ id_s) ++ rand_s) ++ rand_p

-- what MAC_S covers: ID_S, RAND_P (section 5.3)
unfoldable pub mac_s_octets : List ℕ → List ℕ → List ℕ
mac_s_octets id_s rand_p = id_s ++ rand_p

-- the record of MAC_P or MAC_S
abbrev pub ak_record : List ℕ → List ℕ → List ℕ → TagRecord
ak_record psk octets
    tag = record { method = psk_kind; label = Ak; psk = psk; octets = octets; tag = tag }

-- PCHANNEL's nonce for EAX: the Nonce field behind twelve octets of 0 (section 5.3)
unfoldable pub channel_nonce : ℕ → List ℕ
channel_nonce number = replicate 12 0 ++ to_be_bytes w32 number

-- the header that EAX covers: the first 22 octets of the packet, up to PCHANNEL or MAC_S
abbrev pub header_of : List ℕ → List ℕ
header_of packet = take 22 packet

-- R, the result of the side that sends PCHANNEL: DONE_SUCCESS or DONE_FAILURE (section 5.3)
abbrev pub done_success : ℕ
done_success = 2

abbrev pub done_failure : ℕ
done_failure = 3

-- the two high bits of the octet in PCHANNEL are R; the next bit is E
abbrev pub result_of : ℕ → ℕ
result_of octet = octet / 64

abbrev pub is_extended : ℕ → Bool
is_extended octet = (octet / 32 % 2 == 1) || (result_of octet == 1)

-- the octet that is sent: R, no E, the reserved bits 0
abbrev pub octet_with : ℕ → ℕ
octet_with r = 64 * r

-- the sealed octet as a list, and the octet that it hides
abbrev pub hidden_octet : List ℕ → ℕ → ℕ → ℕ
hidden_octet tek number sealed =
    slice_index (eax_plaintext tek (channel_nonce number) (sealed ∷ [])) 0

-- what is sealed into PCHANNEL under this header
unfoldable pub sealed_result : List ℕ → ℕ → List ℕ → ℕ → Sealed
sealed_result tek number header r = eax_sealed tek (channel_nonce number) header (octet_with r ∷ [])

-- whether PCHANNEL's tag is the one over its Nonce, the header and the sealed octet
abbrev pub is_sealed : List ℕ → ℕ → List ℕ → ℕ → List ℕ → Bool
is_sealed tek number header sealed tag =
    eax_accepts tek (channel_nonce number) header (sealed ∷ []) tag

-- what EAX's tag covers, as it is recorded
unfoldable pub channel_octets : ℕ → List ℕ → ℕ → List ℕ
channel_octets number header sealed = channel_nonce number ++ (header ++ sealed ∷ [])

-- the record of PCHANNEL's tag
abbrev pub tek_record : List ℕ → ℕ → List ℕ → ℕ → List ℕ → TagRecord
tek_record psk number header sealed tag =
    record {
      method = psk_kind;
      label = Tek;
      psk = psk;
      octets = channel_octets number header sealed;
      tag = tag;
    }

-- what is wrong with the octet that was opened
abbrev pub result_fault : ℕ → Option Cause
result_fault octet =
    fault_if (result_of octet == 0) BadResult (fault_if (is_extended octet) Extended None)

-- the blank tag with which the header of a packet is known
abbrev pub blank_tag : List ℕ
blank_tag = replicate 16 0

-- RAND_S or RAND_P of a nonce
abbrev pub rand_of : List ℕ → List ℕ
rand_of nonce = take 16 nonce
