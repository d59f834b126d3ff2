-- The packets that are written (RFC 2865 sections 3 and 5, RFC 3579 sections 3.1 and 3.2).
use Rattle.std.specs.Prelude.{ℕ, zero, suc, List, [], ◌∷◌, ◌++◌, length, take, drop, replicate}
use Rattle.radius_carry.specs.Packet.{Attribute, RadiusPacket, spelled, max_value}
use Rattle.radius_carry.specs.Tags.{hmac_md5, response_authenticator}

-- a name or a state has no attribute if it is empty
abbrev pub field : ℕ → List ℕ → List Attribute
field kind [] = []
field kind (octet ∷ rest) = (kind, octet ∷ rest) ∷ []

-- at most so many attributes EAP-Message: each but the last has 253 octets
unfoldable pub pieces_in : ℕ → List ℕ → List Attribute
pieces_in zero eap = []
pieces_in (suc most) [] = []
pieces_in (suc most) (octet ∷ rest) =
    (79, take max_value (octet ∷ rest)) ∷ pieces_in most (drop max_value (octet ∷ rest))

-- an EAP packet in attributes EAP-Message
unfoldable pub pieces : List ℕ → List Attribute
pieces eap = pieces_in (length eap) eap

-- the attributes before the tag: User-Name, State, EAP-Message
abbrev pub attributes_before_tag : List ℕ → List ℕ → List ℕ → List Attribute
attributes_before_tag user state eap = field 1 user ++ (field 24 state ++ pieces eap)

-- a packet with this tag behind its other attributes
unfoldable pub packet_with_tag : ℕ → ℕ → List ℕ → List Attribute → List ℕ → RadiusPacket
packet_with_tag code id authenticator attributes tag =
    record {
      code = code;
      id = id;
      authenticator = authenticator;
      attributes = attributes ++ (80, tag) ∷ [];
    }

-- the same with zeros where the tag will be
abbrev pub blank_of : ℕ → ℕ → List ℕ → List Attribute → RadiusPacket
blank_of code id authenticator attributes =
    packet_with_tag code id authenticator attributes (replicate 16 0)

-- a packet with its tag over itself, of zeros where the tag will be
unfoldable pub sealed_packet : List ℕ → ℕ → ℕ → List ℕ → List Attribute → RadiusPacket
sealed_packet secret code id authenticator attributes =
    packet_with_tag code id authenticator attributes
    (hmac_md5 secret (spelled (blank_of code id authenticator attributes)))

-- a request with this Authenticator
abbrev pub request_of : List ℕ → ℕ → List ℕ → List ℕ → List ℕ → List ℕ → RadiusPacket
request_of secret id authenticator user state eap =
    sealed_packet secret 1 id authenticator (attributes_before_tag user state eap)

-- a reply to the request with this Authenticator: first the tag, then the Response Authenticator
abbrev pub reply_of : List ℕ → ℕ → ℕ → List ℕ → List ℕ → List ℕ → RadiusPacket
reply_of secret code id asked state eap =
    let reply = sealed_packet secret code id asked (attributes_before_tag [] state eap) in
    record reply { authenticator = response_authenticator secret asked reply }
