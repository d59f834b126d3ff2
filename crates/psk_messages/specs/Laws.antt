-- Laws of the grammar of EAP-PSK (RFC 4764 section 5), over its definitions alone.
use Rattle.std.specs.Prelude.{◌≡◌, ◌↔◌, ℕ, List, length, Ok, Err}
use Rattle.eap_packet.specs.declared.cause.Cause.TheVariants.{PskShape}
use Rattle.eap_packet.specs.Packet.{IsOctets}
use Rattle.psk_messages.specs.Message.{Message, AreFields, IsPsk, spelled, size_of}
use Rattle.psk_messages.specs.Reading.{read_of}

-- what is read is the message that the octets encode
abbrev pub ReadsTheEncoding : Type 0
ReadsTheEncoding = (octets : List ℕ) (message : Message) → IsOctets octets
    → (read_of octets ≡ Ok message) ↔ IsPsk message octets

-- no list of octets encodes two messages
abbrev pub EncodingsAreApart : Type 0
EncodingsAreApart =
    (octets : List ℕ) (one other : Message) → IsPsk one octets → IsPsk other octets → one ≡ other

-- octets are refused exactly if they encode no message
abbrev pub RefusesTheRest : Type 0
RefusesTheRest =
    (octets : List ℕ) → IsOctets octets → (read_of octets ≡ Err PskShape)
    ↔ (¬ ((message : Message) × IsPsk message octets))

-- how many octets are sent
abbrev pub EncodingsAreSized : Type 0
EncodingsAreSized = (message : Message) → length (spelled message) ≡ size_of message

-- what is sent is read
abbrev pub SentIsRead : Type 0
SentIsRead = (message : Message) → AreFields message → read_of (spelled message) ≡ Ok message
