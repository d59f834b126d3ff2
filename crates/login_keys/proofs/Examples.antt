-- The definitions computed, with values of an independent program (Python with its hashlib and
-- hmac, and with AES of the package cryptography).
use Rattle.std.proofs.Common.{◌≡◌, ℕ, List, [], ◌∷◌, codes, refl}
use Rattle.std.specs.List.{range_with_len}
use Rattle.aes_block.specs.Field.{times, inverse, affine, sub_byte}
use Rattle.aes_block.specs.KeySchedule.{key_words, change_at, power_of_x, round_key}
use Rattle.aes_block.specs.Cipher.{sub_bytes, shift_rows, mixed, mix_columns, add_round_key, rounds}
use Rattle.aes_block.specs.Cipher.{aes128}
use Rattle.cmac_mac.specs.Cmac.{xor_blocks, doubled, last_block, chain, aes_cmac}
use Rattle.sha2.specs.Sha256.{compress, digest_bytes, first_words, hash_after, schedule, sha256}
use Rattle.sha2.specs.Sha256 as S
use Rattle.octet_lists.specs.declared.suite.Suite.TheVariants.{Cmac}
use Rattle.login_keys.specs.Gpsk.{gpsk_tag_of, gkdf_block, gkdf_blocks, gkdf}
use Rattle.login_keys.specs.Psk.{combined_with, counter_block, psk_long_of}
use Rattle.login_keys.specs.KeyName.{key_name_of}

-- the octets from 0 to 15
example_key : List ℕ
example_key = range_with_len 0 16

-- GKDF-20, which takes part of the second block
gkdf_example : gkdf Cmac 20 example_key (codes "abc") ≡
    0xee ∷ 0x20 ∷ 0xca ∷ 0x50 ∷ 0x39 ∷ 0x29 ∷ 0x2c ∷ 0x06
    ∷ 0x7a ∷ 0x99 ∷ 0x3f ∷ 0x79 ∷ 0x1e ∷ 0x78 ∷ 0xec ∷ 0xce
    ∷ 0x43 ∷ 0xe2 ∷ 0x7b ∷ 0xd5 ∷ []
unfolding example_key gkdf gkdf_blocks gkdf_block gpsk_tag_of aes_cmac chain last_block
    doubled xor_blocks aes128 add_round_key mix_columns mixed shift_rows sub_bytes rounds round_key
    key_words change_at power_of_x sub_byte inverse affine times
gkdf_example = refl

psk_example : psk_long_of example_key ≡ record {
  ak = 0x18 ∷ 0xb6 ∷ 0x2d ∷ 0x2c ∷ 0x84 ∷ 0xc5 ∷ 0xe4 ∷ 0x57 ∷ 0x1a ∷ 0xfc ∷ 0x41 ∷ 0xa2 ∷ 0x9d
      ∷ 0xb7 ∷ 0x1f ∷ 0x4d ∷ [];
  kdk = 0x97 ∷ 0xb7 ∷ 0x04 ∷ 0x35 ∷ 0x00 ∷ 0x85 ∷ 0x02 ∷ 0x83 ∷ 0x63 ∷ 0x92 ∷ 0x46 ∷ 0x12 ∷ 0x56
      ∷ 0x5b ∷ 0x9b ∷ 0x0d ∷ [];
}
unfolding example_key psk_long_of counter_block combined_with aes128 add_round_key mix_columns
    mixed shift_rows sub_bytes rounds round_key key_words change_at power_of_x sub_byte inverse
    affine times
psk_example = refl

name_example : key_name_of (codes "abc")
    ≡ 0x9d ∷ 0x16 ∷ 0x80 ∷ 0xcf ∷ 0xe0 ∷ 0xf2 ∷ 0x66 ∷ 0xe9 ∷ []
unfolding key_name_of sha256 first_words schedule compress hash_after digest_bytes S.rounds
name_example = refl
