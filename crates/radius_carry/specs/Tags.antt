-- What a RADIUS packet that carries EAP proves of its sender: the Message-Authenticator (RFC 3579
-- section 3.2) and the Response Authenticator (RFC 2865 section 3).
use Rattle.std.specs.Prelude.{◌≡◌, ◌≢◌, ℕ, List, [], ◌∷◌, ◌++◌, length, replicate, Bool, ◌==◌, ◌&&◌}
use Rattle.std.specs.Prelude.{not, if◌then◌else◌}
use Rattle.std.specs.Str.{bytes_eq}
use Rattle.hmac_mac.specs.Hmac.{hmac}
use Rattle.md5.specs.Md5.{md5}
use Rattle.radius_carry.specs.Packet.{Attribute, RadiusPacket, spelled, tag_of}

-- HMAC (RFC 2104 section 2) with MD5
abbrev pub hmac_md5 : List ℕ → List ℕ → List ℕ
hmac_md5 key text = hmac md5 key text

-- the attributes, with each Message-Authenticator of zeros
unfoldable pub blank_attributes : List Attribute → List Attribute
blank_attributes [] = []
blank_attributes ((kind, value) ∷ rest) =
    (kind, if kind == 80 then replicate (length value) 0 else value) ∷ blank_attributes rest

-- what a tag covers: the packet with this Authenticator, and zeros in the tag's place
unfoldable pub blank_text : List ℕ → RadiusPacket → List ℕ
blank_text authenticator packet = spelled (record
    packet { authenticator = authenticator; attributes = blank_attributes packet.attributes })

-- a request's tag: the HMAC over the whole packet
abbrev pub request_tag : List ℕ → RadiusPacket → List ℕ
request_tag secret packet = hmac_md5 secret (blank_text packet.authenticator packet)

-- a reply's tag: the same, with the Request Authenticator in the Authenticator's place
abbrev pub reply_tag : List ℕ → List ℕ → RadiusPacket → List ℕ
reply_tag secret asked packet = hmac_md5 secret (blank_text asked packet)

-- what the Response Authenticator covers: the reply with the Request Authenticator, and the secret
unfoldable pub asked_text : List ℕ → List ℕ → RadiusPacket → List ℕ
asked_text asked secret packet = spelled (record packet { authenticator = asked }) ++ secret

-- the Response Authenticator of a reply to the request with this Authenticator
abbrev pub response_authenticator : List ℕ → List ℕ → RadiusPacket → List ℕ
response_authenticator secret asked packet = md5 (asked_text asked secret packet)

-- a request of one who knows the secret
pub record IsGoodRequest (secret : List ℕ) (packet : RadiusPacket) : Type 0 where
  pub is_request : packet.code ≡ 1
  pub tag : tag_of packet.attributes ≡ request_tag secret packet

-- a reply of one who knows the secret, to the request with this Authenticator
pub record IsGoodReply (secret asked : List ℕ) (packet : RadiusPacket) : Type 0 where
  pub is_reply : packet.code ≢ 1
  pub tag : tag_of packet.attributes ≡ reply_tag secret asked packet
  pub authenticator : packet.authenticator ≡ response_authenticator secret asked packet

-- the same as tests
unfoldable pub is_good_request : List ℕ → RadiusPacket → Bool
is_good_request secret packet =
    (packet.code == 1) && bytes_eq (tag_of packet.attributes) (request_tag secret packet)

unfoldable pub is_good_reply : List ℕ → List ℕ → RadiusPacket → Bool
is_good_reply secret asked packet =
    (not (packet.code == 1) && bytes_eq (tag_of packet.attributes) (reply_tag secret asked packet))
    && bytes_eq packet.authenticator (response_authenticator secret asked packet)
