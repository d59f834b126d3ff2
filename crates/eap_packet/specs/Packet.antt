-- EAP packets (RFC 3748 section 4): packet values and their one encoding.
use Rattle.std.specs.Prelude.{◌≡◌, ◌≢◌, ℕ, ◌+◌, ◌/◌, ◌%◌, ◌<◌, ◌≤◌, List, [], ◌∷◌, ◌++◌, length}
use Rattle.std.specs.Prelude.{All, Bool, true, false, Result, Ok, Err}
use Rattle.octet_lists.specs.Among.{nak_kind}
use Rattle.eap_packet.specs.declared.packet.PacketView.{PacketView}
use Rattle.eap_packet.specs.declared.packet.Code.{Code}
use Rattle.eap_packet.specs.declared.cause.Cause.{Cause}
use Rattle.eap_packet.specs.declared.packet.Code.TheVariants.{Request, Response, Success, Failure}

-- a packet: an Identifier, and for a Request or a Response a Type and its Type-Data
pub data PacketValue : Type 0 where
  request : ℕ → ℕ → List ℕ → PacketValue
  response : ℕ → ℕ → List ℕ → PacketValue
  success : ℕ → PacketValue
  failure : ℕ → PacketValue

-- a number in two octets, the more significant first
abbrev pub two_octets : ℕ → List ℕ
two_octets n = n / 256 ∷ n % 256 ∷ []

-- Code, Identifier and Length before the data; Length counts all four fields
abbrev pub frame_of : ℕ → ℕ → List ℕ → List ℕ
frame_of code id «data» = code ∷ id ∷ two_octets (length «data» + 4) ++ «data»

-- the Code field
abbrev pub number_of : Code → ℕ
number_of Request = 1
number_of Response = 2
number_of Success = 3
number_of Failure = 4

-- the octets of a packet
unfoldable pub spelled : PacketValue → List ℕ
spelled (request id kind body) = frame_of 1 id (kind ∷ body)
spelled (response id kind body) = frame_of 2 id (kind ∷ body)
spelled (success id) = frame_of 3 id []
spelled (failure id) = frame_of 4 id []

-- numbers of one octet each
abbrev pub IsOctets : List ℕ → Type 0
IsOctets octets = All (λ b. b < 256) octets

-- the octets of Type-Data: those of a packet but for its header and its Type (section 4.1)
abbrev pub max_type_data : ℕ
max_type_data = 1495

-- the Identifier, the Type and the Type-Data of a packet of at most 1,500 octets
pub record AreTypedFields (id kind : ℕ) (body : List ℕ) : Type 0 where
  pub id_bounded : id < 256
  pub kind_bounded : kind < 256
  pub octets : IsOctets body
  pub size : length body ≤ max_type_data

-- the packets of the standard with at most 1,500 octets: no Request is a Nak, and a Nak desires
-- some method
abbrev pub IsPacket : PacketValue → Type 0
IsPacket (request id kind body) = AreTypedFields id kind body × (kind ≢ nak_kind)
IsPacket (response id kind body) = AreTypedFields id kind body × (kind ≡ nak_kind → body ≢ [])
IsPacket (success id) = id < 256
IsPacket (failure id) = id < 256

-- the packet value of these fields; a Success or a Failure has neither Type nor Type-Data
abbrev pub value_with : Code → ℕ → ℕ → List ℕ → PacketValue
value_with Request id kind body = request id kind body
value_with Response id kind body = response id kind body
value_with Success id kind body = success id
value_with Failure id kind body = failure id

-- whether a packet of this Code has a Type
abbrev pub has_type : Code → Bool
has_type Request = true
has_type Response = true
has_type Success = false
has_type Failure = false

-- what a Success or a Failure shows in place of the fields that it lacks: Type 0 and no Type-Data
abbrev pub IsPlain : Code → ℕ → List ℕ → Type 0
IsPlain Request kind body = Unit {0}
IsPlain Response kind body = Unit {0}
IsPlain Success kind body = (kind ≡ 0) × (body ≡ [])
IsPlain Failure kind body = (kind ≡ 0) × (body ≡ [])

-- the packet value that a view shows
abbrev pub value_of : PacketView → PacketValue
value_of view = value_with view.code view.id view.kind view.body.now

-- a decoder's answer, with the packet value in place of the view
abbrev pub decoded_value : Result PacketView Cause → Result PacketValue Cause
decoded_value (Ok view) = Ok (value_of view)
decoded_value (Err cause) = Err cause
