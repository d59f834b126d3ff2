-- Worked values of the keys and of a login, computed by the HMAC and the SHA-256 of Python.
use Rattle.std.proofs.Common.{◌≡◌, ℕ, List, [], ◌∷◌, replicate, refl}
use Rattle.std.specs.Prelude.{codes}
use Rattle.sha2.specs.Sha256.{compress, digest_bytes, first_words, hash_after, rounds, schedule}
use Rattle.sha2.specs.Sha256.{sha256}
use Rattle.hmac_mac.specs.Hmac.{block_key_of, filled, hmac, hmac_sha256, padded}
use Rattle.eap_packet.specs.Packet.{spelled}
use Rattle.pax_method.specs.Keys.{mac, kdf, mk_of, ck_of, ick_of}
use Rattle.pax_method.specs.Messages.{ack_of, mac_2, mac_3, std_1_of, std_2_of, std_3_of}
use Rattle.pax_method.specs.Packets.{ack, packet_with, std_1, std_2, std_3}
use Rattle.pax_method.specs.declared.login.Login.{Login}

-- AK, and A, B and CID
abbrev ak : List ℕ
ak = 0 ∷ 1 ∷ 2 ∷ 3 ∷ 4 ∷ 5 ∷ 6 ∷ 7 ∷ 8 ∷ 9 ∷ 10 ∷ 11 ∷ 12 ∷ 13 ∷ 14 ∷ 15 ∷ []

abbrev login : Login
login = record { a = replicate 32 34; b = replicate 32 17; cid = codes "alice" }

-- MK
a_mk : mk_of ak login ≡
    167 ∷ 195 ∷ 138 ∷ 127 ∷ 199 ∷ 156 ∷ 115 ∷ 12 ∷ 98 ∷ 24 ∷ 92 ∷ 242 ∷ 151 ∷ 229 ∷ 117 ∷ 24 ∷ []
unfolding first_words schedule rounds compress hash_after digest_bytes sha256 block_key_of filled
    padded hmac hmac_sha256 mac kdf mk_of
a_mk = refl

-- PAX_STD-1
a_first : std_1_of (replicate 32 34) 2 ≡
    1 ∷ 2 ∷ 0 ∷ 60 ∷ 46 ∷ 1 ∷ 0 ∷ 2 ∷ 0 ∷ 0 ∷ 0 ∷ 32 ∷ 34 ∷ 34 ∷ 34 ∷ 34 ∷ 34 ∷ 34 ∷ 34 ∷ 34 ∷
    34 ∷ 34 ∷ 34 ∷ 34 ∷ 34 ∷ 34 ∷ 34 ∷ 34 ∷ 34 ∷ 34 ∷ 34 ∷ 34 ∷ 34 ∷ 34 ∷ 34 ∷ 34 ∷ 34 ∷ 34 ∷
    34 ∷ 34 ∷ 34 ∷ 34 ∷ 34 ∷ 34 ∷ 186 ∷ 40 ∷ 163 ∷ 232 ∷ 20 ∷ 7 ∷ 232 ∷ 178 ∷ 131 ∷ 179 ∷ 15 ∷
    245 ∷ 19 ∷ 36 ∷ 32 ∷ 191 ∷ []
unfolding first_words schedule rounds compress hash_after digest_bytes sha256 block_key_of filled
    padded hmac hmac_sha256 mac kdf mk_of std_1_of packet_with std_1 spelled
a_first = refl

-- PAX_STD-2, PAX_STD-3 and PAX-ACK
a_second : std_2_of ak login 2 ≡
    2 ∷ 2 ∷ 0 ∷ 85 ∷ 46 ∷ 2 ∷ 0 ∷ 2 ∷ 0 ∷ 0 ∷ 0 ∷ 32 ∷ 17 ∷ 17 ∷ 17 ∷ 17 ∷ 17 ∷ 17 ∷ 17 ∷ 17 ∷
    17 ∷ 17 ∷ 17 ∷ 17 ∷ 17 ∷ 17 ∷ 17 ∷ 17 ∷ 17 ∷ 17 ∷ 17 ∷ 17 ∷ 17 ∷ 17 ∷ 17 ∷ 17 ∷ 17 ∷ 17 ∷
    17 ∷ 17 ∷ 17 ∷ 17 ∷ 17 ∷ 17 ∷ 0 ∷ 5 ∷ 97 ∷ 108 ∷ 105 ∷ 99 ∷ 101 ∷ 0 ∷ 16 ∷ 117 ∷ 51 ∷ 68 ∷
    66 ∷ 35 ∷ 8 ∷ 66 ∷ 246 ∷ 84 ∷ 151 ∷ 141 ∷ 137 ∷ 66 ∷ 54 ∷ 133 ∷ 151 ∷ 22 ∷ 239 ∷ 236 ∷ 67 ∷
    117 ∷ 75 ∷ 218 ∷ 51 ∷ 110 ∷ 5 ∷ 68 ∷ 191 ∷ 191 ∷ 140 ∷ 227 ∷ 155 ∷ []
unfolding first_words schedule rounds compress hash_after digest_bytes sha256 block_key_of filled
    padded hmac hmac_sha256 mac kdf mk_of ck_of ick_of mac_2
    std_2_of packet_with std_2 spelled
a_second = refl

a_third : std_3_of ak login 3 ≡
    1 ∷ 3 ∷ 0 ∷ 44 ∷ 46 ∷ 3 ∷ 0 ∷ 2 ∷ 0 ∷ 0 ∷ 0 ∷ 16 ∷ 194 ∷ 185 ∷ 28 ∷ 120 ∷ 16 ∷ 143 ∷ 64 ∷
    227 ∷ 237 ∷ 0 ∷ 187 ∷ 61 ∷ 24 ∷ 67 ∷ 36 ∷ 147 ∷ 28 ∷ 184 ∷ 107 ∷ 131 ∷ 229 ∷ 159 ∷ 87 ∷ 52 ∷
    178 ∷ 102 ∷ 143 ∷ 45 ∷ 248 ∷ 175 ∷ 178 ∷ 36 ∷ []
unfolding first_words schedule rounds compress hash_after digest_bytes sha256 block_key_of filled
    padded hmac hmac_sha256 mac kdf mk_of ck_of ick_of mac_3
    std_3_of packet_with std_3 spelled
a_third = refl

a_fourth : ack_of ak login 3 ≡
    2 ∷ 3 ∷ 0 ∷ 26 ∷ 46 ∷ 33 ∷ 0 ∷ 2 ∷ 0 ∷ 0 ∷ 210 ∷ 29 ∷ 58 ∷ 41 ∷ 19 ∷ 232 ∷ 128 ∷ 92 ∷ 176 ∷
    186 ∷ 150 ∷ 201 ∷ 175 ∷ 47 ∷ 93 ∷ 168 ∷ []
unfolding first_words schedule rounds compress hash_after digest_bytes sha256 block_key_of filled
    padded hmac hmac_sha256 mac kdf mk_of ick_of ack_of packet_with
    ack spelled
a_fourth = refl
