-- EAP-PSK messages (RFC 4764 section 5): message values, their octets, their limits.
use Rattle.std.specs.Prelude.{◌≡◌, ℕ, ◌+◌, ◌*◌, ◌/◌, ◌^◌, ◌<◌, ◌≤◌, List, [], ◌∷◌, ◌++◌, length}
use Rattle.std.specs.Prelude.{Result, Ok, Err}
use Rattle.std.specs.Int.{w32, to_be_bytes}
use Rattle.octet_lists.specs.Sizes.{max_name}
use Rattle.eap_packet.specs.declared.cause.Cause.{Cause}
use Rattle.eap_packet.specs.Packet.{IsOctets}
use Rattle.psk_messages.specs.declared.view.PskMessage.{PskMessage}
use Rattle.psk_messages.specs.declared.view.PskMessage.TheVariants as view

-- a message, with its fields in their order; the Nonce and the octet that is sealed are numbers
pub data Message : Type 0 where
  -- RAND_S, ID_S
  psk1 : List ℕ → List ℕ → Message
  -- RAND_S, RAND_P, MAC_P, ID_P
  psk2 : List ℕ → List ℕ → List ℕ → List ℕ → Message
  -- RAND_S, MAC_S, and of PCHANNEL the Nonce, the Tag and the sealed octet
  psk3 : List ℕ → List ℕ → ℕ → List ℕ → ℕ → Message
  -- RAND_S, and of PCHANNEL the Nonce, the Tag and the sealed octet
  psk4 : List ℕ → ℕ → List ℕ → ℕ → Message

-- the T field
abbrev pub t_of : Message → ℕ
t_of (psk1 rand_s id_s) = 0
t_of (psk2 rand_s rand_p mac id_p) = 1
t_of (psk3 rand_s mac nonce tag sealed) = 2
t_of (psk4 rand_s nonce tag sealed) = 3

-- PCHANNEL (section 5.3): the Nonce in four octets, the Tag and one octet
abbrev pub channel : ℕ → List ℕ → ℕ → List ℕ
channel nonce tag sealed = to_be_bytes w32 nonce ++ (tag ++ (sealed ∷ []))

-- the octets after Flags
abbrev pub fields_of : Message → List ℕ
fields_of (psk1 rand_s id_s) = rand_s ++ id_s
fields_of (psk2 rand_s rand_p mac id_p) = rand_s ++ (rand_p ++ (mac ++ id_p))
fields_of (psk3 rand_s mac nonce tag sealed) = rand_s ++ (mac ++ channel nonce tag sealed)
fields_of (psk4 rand_s nonce tag sealed) = rand_s ++ channel nonce tag sealed

-- the identity, if there is one
abbrev pub identity_of : Message → List ℕ
identity_of (psk1 rand_s id_s) = id_s
identity_of (psk2 rand_s rand_p mac id_p) = id_p
identity_of (psk3 rand_s mac nonce tag sealed) = []
identity_of (psk4 rand_s nonce tag sealed) = []

-- a nonce, a MAC or a tag
abbrev pub IsSixteen : List ℕ → Type 0
IsSixteen field = length field ≡ 16

abbrev pub IsIdentity : List ℕ → Type 0
IsIdentity name = length name ≤ max_name

-- the limits of the fields
abbrev pub AreFields : Message → Type 0
AreFields (psk1 rand_s id_s) = IsSixteen rand_s × IsIdentity id_s
AreFields (psk2 rand_s rand_p mac id_p) =
    IsSixteen rand_s × IsSixteen rand_p × IsSixteen mac × IsIdentity id_p
AreFields (psk3 rand_s mac nonce tag sealed) =
    IsSixteen rand_s × IsSixteen mac × (nonce < 2 ^ 32) × IsSixteen tag
AreFields (psk4 rand_s nonce tag sealed) = IsSixteen rand_s × (nonce < 2 ^ 32) × IsSixteen tag

-- the octets are the message: T is the two high bits of Flags, and the six low bits are free
pub record IsPsk (message : Message) (octets : List ℕ) : Type 0 where
  pub fields : AreFields message
  pub flags : ℕ
  pub high_bits : flags / 64 ≡ t_of message
  pub encoding_of : octets ≡ flags ∷ fields_of message
  pub fit : IsOctets octets

-- the octets encode no message
abbrev pub EncodesNone : List ℕ → Type 0
EncodesNone octets = (message : Message) → ¬ IsPsk message octets

-- the octets of the message that is sent: the six low bits of Flags are 0
unfoldable pub spelled : Message → List ℕ
spelled message = 64 * t_of message ∷ fields_of message

-- the octets of the message that is sent, counted: Flags, the Nonce in four, the octet that is
-- sealed
abbrev pub size_of : Message → ℕ
size_of (psk1 rand_s id_s) = 1 + length rand_s + length id_s
size_of (psk2 rand_s rand_p mac id_p) = 1 + length rand_s + length rand_p + length mac + length id_p
size_of (psk3 rand_s mac nonce tag sealed) = 6 + length rand_s + length mac + length tag
size_of (psk4 rand_s nonce tag sealed) = 6 + length rand_s + length tag

-- the message that a view shows
abbrev pub message_of : PskMessage → Message
message_of (view.P1 first) = psk1 first.rand_s first.id_s.now
message_of (view.P2 second) = psk2 second.rand_s second.rand_p second.mac second.id_p.now
message_of (view.P3 third) =
    psk3 third.rand_s third.mac third.channel.nonce third.channel.tag third.channel.sealed
message_of (view.P4 fourth) =
    psk4 fourth.rand_s fourth.channel.nonce fourth.channel.tag fourth.channel.sealed

-- a reader's answer, with the message in place of the view
abbrev pub read_value : Result PskMessage Cause → Result Message Cause
read_value (Ok shown) = Ok (message_of shown)
read_value (Err cause) = Err cause
