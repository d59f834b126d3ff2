-- The definition gives the standard's example.
use Rattle.std.proofs.Common.{◌≡◌, ℕ, List, [], ◌∷◌, refl}
use Rattle.aes_block.specs.Field.{times, inverse, affine, sub_byte}
use Rattle.aes_block.specs.KeySchedule.{key_words, change_at, power_of_x, round_key}
use Rattle.aes_block.specs.Cipher.{sub_bytes, shift_rows, mixed, mix_columns, add_round_key, rounds}
use Rattle.aes_block.specs.Cipher.{aes128}

-- the example of FIPS 197, appendix B
pub example_key : List ℕ
example_key =
    0x2b ∷ 0x7e ∷ 0x15 ∷ 0x16 ∷ 0x28 ∷ 0xae ∷ 0xd2 ∷ 0xa6
    ∷ 0xab ∷ 0xf7 ∷ 0x15 ∷ 0x88 ∷ 0x09 ∷ 0xcf ∷ 0x4f ∷ 0x3c ∷ []

pub example_block : List ℕ
example_block =
    0x32 ∷ 0x43 ∷ 0xf6 ∷ 0xa8 ∷ 0x88 ∷ 0x5a ∷ 0x30 ∷ 0x8d
    ∷ 0x31 ∷ 0x31 ∷ 0x98 ∷ 0xa2 ∷ 0xe0 ∷ 0x37 ∷ 0x07 ∷ 0x34 ∷ []

pub example : aes128 example_key example_block ≡
    0x39 ∷ 0x25 ∷ 0x84 ∷ 0x1d ∷ 0x02 ∷ 0xdc ∷ 0x09 ∷ 0xfb
    ∷ 0xdc ∷ 0x11 ∷ 0x85 ∷ 0x97 ∷ 0x19 ∷ 0x6a ∷ 0x0b ∷ 0x32 ∷ []
unfolding example_key example_block aes128 add_round_key mix_columns mixed shift_rows sub_bytes
    rounds round_key key_words change_at power_of_x sub_byte inverse affine times
example = refl
