-- Reading Type-Data as an EAP-PSK message (RFC 4764 section 5).
use Rattle.std.specs.Prelude.{ℕ, ◌+◌, ◌/◌, List, [], ◌∷◌, length, take, drop, slice_index, Bool}
use Rattle.std.specs.Prelude.{◌==◌, ◌&&◌, nat_le, if◌then◌else◌, Result, Ok, Err}
use Rattle.std.specs.Int.{w32, from_be_bytes}
use Rattle.octet_lists.specs.Sizes.{max_name}
use Rattle.eap_packet.specs.declared.cause.Cause.{Cause}
use Rattle.eap_packet.specs.declared.cause.Cause.TheVariants.{PskShape}
use Rattle.psk_messages.specs.Message.{Message, psk1, psk2, psk3, psk4}

-- whether a message with this T may have so many octets after Flags
abbrev pub is_size : ℕ → ℕ → Bool
is_size t size =
    if t == 0 then nat_le 16 size && nat_le size (16 + max_name)
    else if t == 1 then nat_le 48 size && nat_le size (48 + max_name)
    else if t == 2 then size == 53
    else size == 37

-- a field of sixteen octets, and the octets behind it
abbrev pub front : List ℕ → List ℕ
front octets = take 16 octets

abbrev pub behind : List ℕ → List ℕ
behind octets = drop 16 octets

-- the Nonce, the Tag and the sealed octet of PCHANNEL
abbrev pub nonce_at : List ℕ → ℕ
nonce_at channel = from_be_bytes w32 (take 4 channel)

abbrev pub tag_at : List ℕ → List ℕ
tag_at channel = front (drop 4 channel)

abbrev pub sealed_at : List ℕ → ℕ
sealed_at channel = slice_index channel 20

-- the fields of each message
abbrev pub psk1_at : List ℕ → Message
psk1_at octets = psk1 (front octets) (behind octets)

abbrev pub psk2_at : List ℕ → Message
psk2_at octets =
    let rest = behind octets in
    psk2 (front octets) (front rest) (front (behind rest)) (behind (behind rest))

abbrev pub psk3_at : List ℕ → Message
psk3_at octets =
    let rest = behind octets in
    let channel = behind rest in
    psk3 (front octets) (front rest) (nonce_at channel) (tag_at channel) (sealed_at channel)

abbrev pub psk4_at : List ℕ → Message
psk4_at octets =
    let channel = behind octets in
    psk4 (front octets) (nonce_at channel) (tag_at channel) (sealed_at channel)

-- the message with this T and these octets after Flags
abbrev pub message_at : ℕ → List ℕ → Message
message_at t octets =
    if t == 0 then psk1_at octets
    else if t == 1 then psk2_at octets
    else if t == 2 then psk3_at octets
    else psk4_at octets

-- the message that the octets encode, if they encode one
unfoldable pub read_of : List ℕ → Result Message Cause
read_of [] = Err PskShape
read_of (flags ∷ octets) =
    if is_size (flags / 64) (length octets) then Ok (message_at (flags / 64) octets)
    else Err PskShape
