-- The table of the S-box, octet by octet: by one test over all octets, which computes.
use Rattle.std.proofs.Common.{◌≡◌, ℕ, ◌<◌, map, refl, bit_xor, get_or, ap, ◌∙◌, sym, arith}
use Rattle.std.proofs.lemmas.List.FromFn.{get_or-map-range_with_len}
use Rattle.aes_block.proofs.Octets.{same_at}
use Rattle.aes_block.specs.Field.{octets, times, inverse, affine, affine_bit, sub_byte}
use Rattle.aes_block.specs.declared.tables.TheConstants.{S_BOX}

-- the table holds the S-box of every octet
s_box_test : map sub_byte octets ≡ S_BOX
unfolding sub_byte inverse affine times
s_box_test = refl

pub get_or_S_BOX : (b : ℕ) → b < 256 → get_or S_BOX b 0 ≡ sub_byte b
get_or_S_BOX b h = ap (λ t. get_or t b 0) (sym s_box_test)
    ∙ get_or-map-range_with_len sub_byte 0 256 b b 0 h (omega arith)

-- a product with x + 1
tripled_test : map (λ b. bit_xor (times 2 b) b) octets ≡ map (times 3) octets
unfolding times
tripled_test = refl

pub times_three : (b : ℕ) → b < 256 → bit_xor (times 2 b) b ≡ times 3 b
times_three b h = same_at (λ b. bit_xor (times 2 b) b) (times 3) b tripled_test h

-- ---- its entries are octets

affine_bit_lt : (b i : ℕ) → affine_bit b i < 2
affine_bit_lt b i = omega arith

pub sub_byte_lt : (b : ℕ) → sub_byte b < 256
unfolding sub_byte affine
sub_byte_lt b =
    let x : ℕ = inverse b in
    omega (
      arith,
      affine_bit_lt x 0,
      affine_bit_lt x 1,
      affine_bit_lt x 2,
      affine_bit_lt x 3,
      affine_bit_lt x 4,
      affine_bit_lt x 5,
      affine_bit_lt x 6,
      affine_bit_lt x 7,
    )
