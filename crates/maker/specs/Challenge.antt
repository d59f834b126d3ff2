-- The Type-Data of EAP MD5-Challenge (RFC 3748 section 5.4): Value-Size, Value and Name, as CHAP has
-- them (RFC 1994 section 4.1).
use Rattle.std.specs.Prelude.{ℕ, List, [], ◌∷◌, ◌++◌, length, take, Bool, ◌==◌, ◌||◌, nat_lt}
use Rattle.std.specs.Prelude.{if◌then◌else◌, Option, Some, None}
use Rattle.md5.specs.Md5.{md5}
use Rattle.eap_packet.specs.Packet.{request, response, spelled}

-- the Type of MD5-Challenge (RFC 3748 section 5.4)
abbrev pub md5_kind : ℕ
md5_kind = 4

-- the Value, of the octets behind Value-Size: as many as it says, one at least; the others are the
-- Name
abbrev pub is_missing : ℕ → List ℕ → Bool
is_missing size rest = (size == 0) || nat_lt (length rest) size

abbrev pub value_of : List ℕ → Option (List ℕ)
value_of [] = None
value_of (size ∷ rest) = if is_missing size rest then None else Some (take size rest)

-- the Value of a Response: MD5 over the Identifier, the secret, and the Value of the Challenge (RFC
-- 1994 section 4.1)
unfoldable pub response_value : List ℕ → ℕ → List ℕ → List ℕ
response_value secret id challenge = md5 (id ∷ secret ++ challenge)

-- the Type-Data with a Value of 16 octets, and no Name
abbrev pub type_data : List ℕ → List ℕ
type_data value = 16 ∷ value

-- the Challenge, and the Response
abbrev pub challenge_packet : ℕ → List ℕ → List ℕ
challenge_packet id challenge = spelled (request id md5_kind (type_data challenge))

abbrev pub response_packet : List ℕ → ℕ → List ℕ → List ℕ
response_packet secret id challenge =
    spelled (response id md5_kind (type_data (response_value secret id challenge)))
