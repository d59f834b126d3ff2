-- Worked values of the definitions. The packets and their tags were computed with the modules hmac
-- and hashlib of Python, the tags of short texts stand in RFC 2202 section 2.
use Rattle.std.proofs.Common.{◌≡◌, ℕ, List, [], ◌∷◌, ◌++◌, codes, Some, None, replicate, refl}
use Rattle.hmac_mac.specs.Hmac.{block_key_of, filled, hmac, padded}
use Rattle.md5.specs.Md5.{block_words, compress, digest_bytes, hash_after, md5, rounds}
use Rattle.radius_carry.specs.Packet.{octets_of, spelled, count, value_of_kind, eap_of}
use Rattle.radius_carry.specs.Fault.{attributes_in, attributes_of, left_in, left_of, fault}
use Rattle.radius_carry.specs.Tags.{asked_text, hmac_md5}
use Rattle.radius_carry.specs.Written.{pieces, pieces_in, packet_with_tag, sealed_packet}
use Rattle.radius_carry.specs.Written.{request_of, reply_of}
use Rattle.radius_carry.specs.declared.cause.RadiusCause.TheVariants.{RadiusShort, RadiusCode}
use Rattle.radius_carry.specs.declared.cause.RadiusCause.TheVariants.{RadiusLength, RadiusTruncated}
use Rattle.radius_carry.specs.declared.cause.RadiusCause.TheVariants.{RadiusAttribute, NoEap}
use Rattle.radius_carry.specs.declared.cause.RadiusCause.TheVariants.{NoAuthenticator}

-- sixteen octets of one value
sixteen : ℕ → List ℕ
sixteen b = b ∷ b ∷ b ∷ b ∷ b ∷ b ∷ b ∷ b ∷ b ∷ b ∷ b ∷ b ∷ b ∷ b ∷ b ∷ b ∷ []

-- a name, an empty State, and what begins no attribute
some_attributes : attributes_of (1 ∷ 4 ∷ 97 ∷ 98 ∷ 24 ∷ 2 ∷ 79 ∷ 1 ∷ 5 ∷ [])
    ≡ (1, 97 ∷ 98 ∷ []) ∷ (24, []) ∷ []
unfolding attributes_of attributes_in
some_attributes = refl

some_left : left_of (1 ∷ 4 ∷ 97 ∷ 98 ∷ 24 ∷ 2 ∷ 79 ∷ 1 ∷ 5 ∷ []) ≡ 79 ∷ 1 ∷ 5 ∷ []
unfolding left_of left_in
some_left = refl

-- past the end
past : attributes_of (1 ∷ 4 ∷ 97 ∷ []) ≡ []
unfolding attributes_of attributes_in
past = refl

-- the pieces of an EAP packet are joined in their order
pieced : eap_of ((79, 1 ∷ []) ∷ (1, 7 ∷ []) ∷ (79, 2 ∷ 3 ∷ []) ∷ []) ≡ 1 ∷ 2 ∷ 3 ∷ []
unfolding value_of_kind
pieced = refl

-- the octets of a packet with this Code, this Length in one octet and these attributes
whole : ℕ → ℕ → List ℕ → List ℕ
whole code size body = code ∷ 0 ∷ 0 ∷ size ∷ sixteen 34 ++ body

-- an EAP Success, and a tag
success : List ℕ
success = 79 ∷ 6 ∷ 3 ∷ 0 ∷ 0 ∷ 4 ∷ []

tag : List ℕ
tag = 80 ∷ 18 ∷ sixteen 1

-- the first cause, one row each
nineteen : fault (sixteen 2 ++ 1 ∷ 1 ∷ 1 ∷ []) ≡ Some RadiusShort
unfolding fault attributes_of attributes_in left_of left_in count value_of_kind whole
    sixteen success tag
nineteen = refl

bad_code : fault (whole 4 20 []) ≡ Some RadiusCode
unfolding fault attributes_of attributes_in left_of left_in count value_of_kind whole
    sixteen success tag
bad_code = refl

short_length : fault (whole 1 19 []) ≡ Some RadiusLength
unfolding fault attributes_of attributes_in left_of left_in count value_of_kind whole
    sixteen success tag
short_length = refl

long_length : fault (1 ∷ 0 ∷ 16 ∷ 1 ∷ sixteen 34) ≡ Some RadiusLength
unfolding fault attributes_of attributes_in left_of left_in count value_of_kind whole
    sixteen success tag
long_length = refl

truncated : fault (whole 1 21 []) ≡ Some RadiusTruncated
unfolding fault attributes_of attributes_in left_of left_in count value_of_kind whole
    sixteen success tag
truncated = refl

length_of_one : fault (whole 1 24 (1 ∷ 1 ∷ 0 ∷ 0 ∷ [])) ≡ Some RadiusAttribute
unfolding fault attributes_of attributes_in left_of left_in count value_of_kind whole
    sixteen success tag
length_of_one = refl

no_eap : fault (whole 2 38 tag) ≡ Some NoEap
unfolding fault attributes_of attributes_in left_of left_in count value_of_kind whole
    sixteen success tag
no_eap = refl

no_tag : fault (whole 2 26 success) ≡ Some NoAuthenticator
unfolding fault attributes_of attributes_in left_of left_in count value_of_kind whole
    sixteen success tag
no_tag = refl

two_tags : fault (whole 2 62 (success ++ (tag ++ tag))) ≡ Some NoAuthenticator
unfolding fault attributes_of attributes_in left_of left_in count value_of_kind whole
    sixteen success tag
two_tags = refl

short_tag : fault (whole 3 29 (success ++ 80 ∷ 3 ∷ 7 ∷ [])) ≡ Some NoAuthenticator
unfolding fault attributes_of attributes_in left_of left_in count value_of_kind whole
    sixteen success tag
short_tag = refl

nothing_wrong : fault (whole 11 44 (success ++ (tag ++ 9 ∷ 9 ∷ []))) ≡ None
unfolding fault attributes_of attributes_in left_of left_in count value_of_kind whole
    sixteen success tag
nothing_wrong = refl

-- HMAC-MD5 of RFC 2202: a key that is shorter than a block, and one that is longer
short_key : hmac_md5 (codes "Jefe") (codes "what do ya want for nothing?") ≡
    117 ∷ 12 ∷ 120 ∷ 62 ∷ 106 ∷ 176 ∷ 181 ∷ 3 ∷ 234 ∷ 168 ∷ 110 ∷ 49 ∷ 10 ∷ 93 ∷ 183 ∷ 56 ∷ []
unfolding block_words rounds compress hash_after digest_bytes md5 block_key_of filled padded hmac
short_key = refl

long_key : hmac_md5 (replicate 80 0xaa) (codes
    "Test Using Larger Than Block-Size Key - Hash Key First") ≡
    107 ∷ 26 ∷ 183 ∷ 254 ∷ 75 ∷ 215 ∷ 191 ∷ 143 ∷ 11 ∷ 98 ∷ 230 ∷ 206 ∷ 97 ∷ 185 ∷ 208 ∷ 205 ∷ []
unfolding block_words rounds compress hash_after digest_bytes md5 block_key_of filled padded hmac
long_key = refl

-- a request, and a reply to it
a_request : spelled (request_of (codes "xyzzy5461") 7 (replicate 16 34) (codes "alice") []
    (2 ∷ 0 ∷ 0 ∷ 10 ∷ 1 ∷ codes "alice")) ≡
    1 ∷ 7 ∷ 0 ∷ 57 ∷ 34 ∷ 34 ∷ 34 ∷ 34 ∷ 34 ∷ 34 ∷ 34 ∷ 34 ∷ 34 ∷ 34 ∷ 34 ∷ 34 ∷ 34 ∷ 34 ∷ 34 ∷ 34
    ∷ 1 ∷ 7 ∷ 97 ∷ 108 ∷
    105 ∷ 99 ∷ 101 ∷ 79 ∷ 12 ∷ 2 ∷ 0 ∷ 0 ∷ 10 ∷ 1 ∷ 97 ∷ 108 ∷ 105 ∷ 99 ∷ 101 ∷ 80 ∷ 18 ∷ 219 ∷ 205
    ∷ 42 ∷ 183 ∷ 69 ∷ 101 ∷ 43 ∷
    116 ∷ 6 ∷ 62 ∷ 131 ∷ 75 ∷ 117 ∷ 86 ∷ 25 ∷ 30 ∷ []
unfolding spelled octets_of sealed_packet packet_with_tag pieces pieces_in block_words rounds
    compress hash_after digest_bytes md5 block_key_of filled padded hmac
a_request = refl

a_reply : spelled (reply_of (codes "xyzzy5461") 3 7 (replicate 16 34) (1 ∷ []) (4 ∷ 0 ∷ 0 ∷ 4 ∷ []))
    ≡
    3 ∷ 7 ∷ 0 ∷ 47 ∷ 62 ∷ 212 ∷ 223 ∷ 119 ∷ 132 ∷ 197 ∷ 46 ∷ 41 ∷ 86 ∷ 111 ∷ 209 ∷ 16 ∷ 78 ∷ 5 ∷ 241
    ∷ 118 ∷ 24 ∷ 3 ∷ 1 ∷ 79 ∷
    6 ∷ 4 ∷ 0 ∷ 0 ∷ 4 ∷ 80 ∷ 18 ∷ 218
    ∷ 94 ∷ 211 ∷ 131 ∷ 17 ∷ 187 ∷ 146 ∷ 86 ∷ 41
    ∷ 37 ∷ 225 ∷ 22 ∷ 32 ∷ 110 ∷ 1 ∷ 165 ∷ []
unfolding spelled octets_of sealed_packet packet_with_tag pieces pieces_in asked_text block_words
    rounds compress hash_after digest_bytes md5 block_key_of filled padded hmac
a_reply = refl
