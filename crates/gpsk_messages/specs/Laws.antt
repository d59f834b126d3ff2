-- Laws of the messages' grammar (RFC 5433 section 9), over its definitions alone.
use Rattle.std.specs.Prelude.{◌≡◌, ◌↔◌, ◌⊎◌, ℕ, ◌-◌, List, length, take, drop, Option, Ok, Err}
use Rattle.eap_packet.specs.declared.cause.Cause.{Cause}
use Rattle.eap_packet.specs.declared.cause.Cause.TheVariants.{GpskShape, ListTooLong}
use Rattle.eap_packet.specs.Packet.{IsOctets}
use Rattle.gpsk_messages.specs.Message.{Message, op_code, covered_of, mac_of, without_mac, spelled}
use Rattle.gpsk_messages.specs.Message.{size_of, AreFields, IsGpsk, IsGpskLoose}
use Rattle.gpsk_messages.specs.Reading.{read_of}

-- what is encoded so is read
abbrev pub EncodingsAreRead : Type 0
EncodingsAreRead = (ks : Option ℕ) (octets : List ℕ) (message : Message) → IsGpsk ks message octets
    → read_of ks octets ≡ Ok message

-- what is read is the message that the octets encode
abbrev pub ReadsTheEncoding : Type 0
ReadsTheEncoding =
    (ks : Option ℕ) (octets : List ℕ) (message : Message) → IsOctets octets
    → (read_of ks octets ≡ Ok message) ↔ IsGpsk ks message octets

-- no two messages have one encoding, whatever the number of suites
abbrev pub EncodingsAreApart : Type 0
EncodingsAreApart =
    (ks : Option ℕ) (octets : List ℕ) (one other : Message) → IsGpskLoose ks one octets
    → IsGpskLoose ks other octets → one ≡ other

-- GpskShape comes exactly if the octets encode no message, whatever the number of suites
abbrev pub ShapelessEncodesNothing : Type 0
ShapelessEncodesNothing =
    (ks : Option ℕ) (octets : List ℕ) → IsOctets octets → (read_of ks octets ≡ Err GpskShape)
    ↔ ((message : Message) → ¬ IsGpskLoose ks message octets)

-- the octets encode a message, but none whose list has at most 20 suites
pub record EncodesALongList (ks : Option ℕ) (octets : List ℕ) : Type 0 where
  pub message : Message
  pub spells : IsGpskLoose ks message octets
  pub no_other : (other : Message) → ¬ IsGpsk ks other octets

-- why octets are refused
abbrev pub Refuses : Option ℕ → List ℕ → Cause → Type 0
Refuses ks octets cause =
    ((cause ≡ GpskShape) × ((message : Message) → ¬ IsGpskLoose ks message octets))
    ⊎ ((cause ≡ ListTooLong) × EncodesALongList ks octets)

-- ListTooLong comes exactly if the octets encode a message, but none whose list has at most 20
-- suites
abbrev pub LongListsAreNamed : Type 0
LongListsAreNamed =
    (ks : Option ℕ) (octets : List ℕ) → IsOctets octets → (read_of ks octets ≡ Err ListTooLong)
    ↔ EncodesALongList ks octets

-- the octets of an encoding
abbrev pub EncodingsAreSized : Type 0
EncodingsAreSized = (message : Message) → length (spelled message) ≡ size_of message

-- the covered octets are those after the OP-Code up to the MAC
abbrev pub CoveredIsTheMiddle : Type 0
CoveredIsTheMiddle =
    (ks : ℕ) (message : Message) → length (mac_of message) ≡ ks →
    take (length (spelled message) - 1 - ks) (drop 1 (spelled message)) ≡ covered_of message

-- two messages of one kind with equal covered octets have equal fields but for the MAC
abbrev pub CoveredOctetsFixFields : Type 0
CoveredOctetsFixFields =
    (one other : Message) → AreFields one → AreFields other → op_code one ≡ op_code other →
    covered_of one ≡ covered_of other → without_mac one ≡ without_mac other
