-- No line of `decode` or `keys` begins as the line of the verdict does.
use Rattle.std.proofs.Common.{◌≡◌, ℕ, ◌-◌, ◌==◌, List, [], ◌∷◌, ◌++◌, length, true, Option, Some}
use Rattle.std.proofs.Common.{None, Result, Ok, Err, refl, codes, decimal}
use Rattle.octet_lists.specs.Among.{psk_kind, gpsk_kind, expanded_kind}
use Rattle.eap_packet.specs.Fault.{packet_of}
use Rattle.eap_packet.specs.Expanded.{ExpandedValue, expanded_of}
use Rattle.eap_packet.specs.Words.{cause_word}
use Rattle.eap_packet.specs.Packet.{PacketValue, request, response, success, failure, spelled}
use Rattle.eap_packet.specs.declared.cause.Cause.{Cause}
use Rattle.eap_packet.specs.declared.cause.Cause.TheVariants as cause
use Rattle.psk_messages.specs.Reading as psk_reading
use Rattle.gpsk_messages.specs.Reading as gpsk_reading
use Rattle.aes_block.specs.Cipher.{aes128}
use Rattle.cmac_mac.specs.Cmac.{aes_cmac}
use Rattle.hmac_mac.specs.Hmac.{hmac_sha256}
use Rattle.eax_mode.specs.Eax.{eax_sealed}
use Rattle.login_keys.specs.Gpsk.{gpsk_keys_of}
use Rattle.login_keys.specs.KeyName.{key_name_of}
use Rattle.request_text.specs.declared.key_line.KeyLine.{KeyLine}
use Rattle.request_text.specs.declared.key_line.KeyLine.TheVariants as asked
use Rattle.answer_text.specs.Answers.{message_text, key_text}
use Rattle.answer_text.specs.Gpsk.{gpsk_note}
use Rattle.answer_text.specs.Packets.{numbers_text, expanded_note, note_text, typed_text}
use Rattle.answer_text.specs.Packets.{end_line_text}
use Rattle.answer_text.specs.Packets.{value_text, packet_text_by, packet_text, packets_text}
use Rattle.answer_text.specs.Pieces.{hex_text}
use Rattle.answer_text.specs.Psk.{psk_note}
use Rattle.answer_text.proofs.Plain.{is_within, plain, through, within_join, decimal_within}
use Rattle.answer_text.proofs.Plain.{decimal_first}
use Rattle.answer_text.proofs.PlainGpsk.{gpsk_within, gpsk_plain}
use Rattle.answer_text.proofs.PlainKeys.{starts_result, no_result, hex_line_plain, sealed_plain}
use Rattle.answer_text.proofs.PlainPsk.{psk_within, psk_plain}
use Rattle.answer_text.proofs.PlainWords.{cause_within, hex_within, either_within}

numbers_within : (octets : List ℕ) → is_within (numbers_text octets) ≡ true
numbers_within [] = refl
numbers_within (o ∷ rest) =
    within_join (decimal o) (numbers_text rest) (decimal_within o) (numbers_within rest)

expanded_within : (x : Option ExpandedValue) → is_within (expanded_note x) ≡ true
expanded_within None = cause_within cause.BadExpanded
expanded_within (Some fields) =
    within_join (decimal fields.vendor) _ (decimal_within fields.vendor)
    (within_join (decimal fields.vendor_type) _ (decimal_within fields.vendor_type)
    (within_join (hex_text fields.rest) [] (hex_within fields.rest) refl))

message_within : (kind : ℕ) (body : List ℕ) → is_within (message_text kind body) ≡ true
message_within kind body =
    either_within (kind == psk_kind) (psk_note (psk_reading.read_of body)) _
    (psk_within (psk_reading.read_of body))
    (either_within (kind == gpsk_kind) (gpsk_note (gpsk_reading.read_of None body)) (codes "-")
    (gpsk_within (gpsk_reading.read_of None body)) refl)

note_within : (kind : ℕ) (body : List ℕ) → is_within (note_text kind body) ≡ true
unfolding note_text
note_within kind body =
    either_within (kind == 1) (codes "identity " ++ (hex_text body ++ [])) _
    (within_join (hex_text body) [] (hex_within body) refl)
    (either_within (kind == 3) (codes "nak" ++ numbers_text body) _ (numbers_within body)
    (either_within (kind == expanded_kind) (expanded_note (expanded_of body))
    (message_text kind body) (expanded_within (expanded_of body)) (message_within kind body)))

typed_plain : (number : ℕ) (code : List ℕ) (id kind : ℕ) (body : List ℕ) (whole octets : ℕ)
    → is_within code ≡ true
    → plain starts_result true (typed_text number code id kind body whole octets) ≡ true
unfolding typed_text
typed_plain number code id kind body whole octets h =
    decimal_first starts_result no_result number _
    (through starts_result code _ h
    (through starts_result (decimal id) _ (decimal_within id)
    (through starts_result (decimal kind) _ (decimal_within kind)
    (through starts_result (decimal whole) _ (decimal_within whole)
    (through starts_result (decimal (octets - whole)) _ (decimal_within (octets - whole))
    (through starts_result (note_text kind body) _ (note_within kind body) refl))))))

end_line_plain : (number : ℕ) (code : List ℕ) (id whole octets : ℕ) → is_within code ≡ true
    → plain starts_result true (end_line_text number code id whole octets) ≡ true
end_line_plain number code id whole octets h =
    decimal_first starts_result no_result number _
    (through starts_result code _ h
    (through starts_result (decimal id) _ (decimal_within id)
    (through starts_result (decimal whole) _ (decimal_within whole)
    (through starts_result (decimal (octets - whole)) _ (decimal_within (octets - whole)) refl))))

value_plain : (number : ℕ) (value : PacketValue) (whole octets : ℕ)
    → plain starts_result true (value_text number value whole octets) ≡ true
value_plain number (request id kind body) whole octets =
    typed_plain number (codes "request") id kind body whole octets refl
value_plain number (response id kind body) whole octets =
    typed_plain number (codes "response") id kind body whole octets refl
value_plain number (success id) whole octets =
    end_line_plain number (codes "success") id whole octets refl
value_plain number (failure id) whole octets =
    end_line_plain number (codes "failure") id whole octets refl

packet_by_plain : (number : ℕ) (octets : List ℕ) (x : Result PacketValue Cause)
    → plain starts_result true (packet_text_by number octets x) ≡ true
packet_by_plain number octets (Err cause) = decimal_first starts_result no_result number _
    (through starts_result (cause_word cause) _ (cause_within cause) refl)
packet_by_plain number octets (Ok value) =
    value_plain number value (length (spelled value)) (length octets)

pub packet_plain : (number : ℕ) (octets : List ℕ)
    → plain starts_result true (packet_text number octets) ≡ true
unfolding packet_text
packet_plain number octets = packet_by_plain number octets (packet_of octets)

pub packets_plain : (packets malformed : ℕ)
    → plain starts_result true (packets_text packets malformed) ≡ true
unfolding packets_text
packets_plain packets malformed =
    through starts_result (decimal packets) _ (decimal_within packets)
    (through starts_result (decimal malformed) _ (decimal_within malformed) refl)

pub key_plain : (asked : KeyLine) → plain starts_result true (key_text asked) ≡ true
unfolding key_text
key_plain (asked.Aes key block) = hex_line_plain (codes "aes") (aes128 key block) refl
key_plain (asked.Cmac key text) = hex_line_plain (codes "cmac") (aes_cmac key text) refl
key_plain (asked.Hmac key text) = hex_line_plain (codes "hmac") (hmac_sha256 key text) refl
key_plain (asked.Eax key nonce header text) = sealed_plain (eax_sealed key nonce header text)
key_plain (asked.Gpsk suite psk rand_p id_p rand_s id_s) =
    gpsk_plain (gpsk_keys_of suite psk rand_p id_p rand_s id_s)
key_plain (asked.Psk psk rand_p) = psk_plain psk rand_p
key_plain (asked.Name key) = hex_line_plain (codes "name") (key_name_of key) refl
