-- Worked values of the Type-Data, and of a login.
use Rattle.std.proofs.Common.{◌≡◌, [], ◌∷◌, replicate, Some, None, refl}
use Rattle.std.specs.Prelude.{codes}
use Rattle.md5.specs.Md5.{block_words, compress, digest_bytes, hash_after, md5, rounds}
use Rattle.eap_packet.specs.Packet.{spelled}
use Rattle.maker.specs.Challenge.{value_of, response_value, challenge_packet, response_packet}

-- no Value-Size, one of 0, too few octets, and a Value before a Name
no_size : value_of [] ≡ None
no_size = refl

empty_value : value_of (0 ∷ 9 ∷ []) ≡ None
empty_value = refl

short_value : value_of (3 ∷ 9 ∷ 9 ∷ []) ≡ None
short_value = refl

named_value : value_of (2 ∷ 9 ∷ 8 ∷ codes "srv") ≡ Some (9 ∷ 8 ∷ [])
named_value = refl

-- MD5 of "abc" (RFC 1321 appendix A.5), as an Identifier, a secret and a Challenge
of_abc : response_value (codes "b") 97 (codes "c") ≡
    144 ∷ 1 ∷ 80 ∷ 152 ∷ 60 ∷ 210 ∷ 79 ∷ 176 ∷ 214 ∷ 150 ∷ 63 ∷ 125 ∷ 40 ∷ 225 ∷ 127 ∷ 114 ∷ []
unfolding block_words rounds compress hash_after digest_bytes md5 response_value
of_abc = refl

-- a Challenge, and its Response, whose Value OpenSSL has computed
a_challenge : challenge_packet 2 (replicate 16 34) ≡ 1 ∷ 2 ∷ 0 ∷ 22 ∷ 4 ∷ 16 ∷ replicate 16 34
unfolding spelled
a_challenge = refl

a_response : response_packet (codes "a secret of both") 2 (replicate 16 34) ≡
    2 ∷ 2 ∷ 0 ∷ 22 ∷ 4 ∷ 16 ∷
    114 ∷ 118 ∷ 54 ∷ 27 ∷ 83 ∷ 53 ∷ 119 ∷ 172 ∷ 60 ∷ 78 ∷ 126 ∷ 83 ∷ 252 ∷ 127 ∷ 224 ∷ 166 ∷ []
unfolding block_words rounds compress hash_after digest_bytes md5 response_value spelled
a_response = refl
