-- The definition gives the standard's examples with no octet and with forty (RFC 4493, section 4).
use Rattle.std.proofs.Common.{◌≡◌, ℕ, List, [], ◌∷◌, refl}
use Rattle.aes_block.specs.Field.{times, inverse, affine, sub_byte}
use Rattle.aes_block.specs.KeySchedule.{key_words, change_at, power_of_x, round_key}
use Rattle.aes_block.specs.Cipher.{sub_bytes, shift_rows, mixed, mix_columns, add_round_key, rounds}
use Rattle.aes_block.specs.Cipher.{aes128}
use Rattle.cmac_mac.specs.Cmac.{xor_blocks, doubled, last_block, chain, aes_cmac}

example_key : List ℕ
example_key =
    0x2b ∷ 0x7e ∷ 0x15 ∷ 0x16 ∷ 0x28 ∷ 0xae ∷ 0xd2 ∷ 0xa6
    ∷ 0xab ∷ 0xf7 ∷ 0x15 ∷ 0x88 ∷ 0x09 ∷ 0xcf ∷ 0x4f ∷ 0x3c ∷ []

example_text : List ℕ
example_text =
    0x6b ∷ 0xc1 ∷ 0xbe ∷ 0xe2 ∷ 0x2e ∷ 0x40 ∷ 0x9f ∷ 0x96
    ∷ 0xe9 ∷ 0x3d ∷ 0x7e ∷ 0x11 ∷ 0x73 ∷ 0x93 ∷ 0x17 ∷ 0x2a
    ∷ 0xae ∷ 0x2d ∷ 0x8a ∷ 0x57 ∷ 0x1e ∷ 0x03 ∷ 0xac ∷ 0x9c
    ∷ 0x9e ∷ 0xb7 ∷ 0x6f ∷ 0xac ∷ 0x45 ∷ 0xaf ∷ 0x8e ∷ 0x51
    ∷ 0x30 ∷ 0xc8 ∷ 0x1c ∷ 0x46 ∷ 0xa3 ∷ 0x5c ∷ 0xe4 ∷ 0x11 ∷ []

empty_example : aes_cmac example_key [] ≡
    0xbb ∷ 0x1d ∷ 0x69 ∷ 0x29 ∷ 0xe9 ∷ 0x59 ∷ 0x37 ∷ 0x28
    ∷ 0x7f ∷ 0xa3 ∷ 0x7d ∷ 0x12 ∷ 0x9b ∷ 0x75 ∷ 0x67 ∷ 0x46 ∷ []
unfolding example_key aes_cmac chain last_block doubled xor_blocks aes128 add_round_key mix_columns
    mixed shift_rows sub_bytes rounds round_key key_words change_at power_of_x sub_byte inverse
    affine times
empty_example = refl

forty_example : aes_cmac example_key example_text ≡
    0xdf ∷ 0xa6 ∷ 0x67 ∷ 0x47 ∷ 0xde ∷ 0x9a ∷ 0xe6 ∷ 0x30
    ∷ 0x30 ∷ 0xca ∷ 0x32 ∷ 0x61 ∷ 0x14 ∷ 0x97 ∷ 0xc8 ∷ 0x27 ∷ []
unfolding example_key example_text aes_cmac chain last_block doubled xor_blocks aes128 add_round_key
    mix_columns mixed shift_rows sub_bytes rounds round_key key_words change_at power_of_x sub_byte
    inverse affine times
forty_example = refl
