-- The field of 256 elements (FIPS 197, section 4). An octet is the polynomial whose coefficients
-- are its bits, taken modulo x^8 + x^4 + x^3 + x + 1. The sum of two elements is `bit_xor`.
use Rattle.std.specs.Prelude.{◌≡◌, ◌<◌, ℕ, zero, suc, ◌+◌, ◌*◌, ◌/◌, ◌%◌, ◌^◌, ◌==◌, nat_lt}
use Rattle.std.specs.Prelude.{if◌then◌else◌, List, find, unwrap_or, sum_by, bit_xor}
use Rattle.std.specs.Int.{bit_at}
use Rattle.std.specs.List.{range_with_len}

-- the octet b times x: if b has a term x^7, the product is reduced (4.2)
abbrev pub times_x : ℕ → ℕ
times_x b = if nat_lt b 0x80 then 2 * b else bit_xor (2 * b) 0x11b

-- the sum of b times x^i over those of the lowest n bits i of a that are 1
abbrev pub sum_of_shifts : ℕ → ℕ → ℕ → ℕ
sum_of_shifts zero a b = 0
sum_of_shifts (suc n) a b = bit_xor (a % 2 * b) (sum_of_shifts n (a / 2) (times_x b))

-- the product of two octets (4.2)
unfoldable pub times : ℕ → ℕ → ℕ
times a b = sum_of_shifts 8 a b

-- every octet
abbrev pub octets : List ℕ
octets = range_with_len 0 256

-- the inverse of an octet: the one octet c with b times c equal to 1, and 0 for b = 0 (4.4)
unfoldable pub inverse : ℕ → ℕ
inverse b = unwrap_or (find (λ c. times b c == 1) octets) 0

-- the octet c is the one inverse of b
pub record IsTheInverse (b c : ℕ) : Type 0 where
  pub octet : c < 256
  pub product : times b c ≡ 1
  pub alone : (other : ℕ) → other < 256 → times b other ≡ 1 → other ≡ c

-- every octet but 0 has one inverse, and it is this
abbrev pub InversesAreUnique : Type 0
InversesAreUnique = (b : ℕ) → 0 < b → b < 256 → IsTheInverse b (inverse b)

-- bit i of the affine map's answer (5.1.1)
abbrev pub affine_bit : ℕ → ℕ → ℕ
affine_bit b i =
    (bit_at b i + bit_at b ((i + 4) % 8) + bit_at b ((i + 5) % 8) + bit_at b ((i + 6) % 8)
    + bit_at b ((i + 7) % 8) + bit_at 0x63 i) % 2

-- the octet with these bits
unfoldable pub affine : ℕ → ℕ
affine b = sum_by (λ i. affine_bit b i * 2 ^ i) (range_with_len 0 8)

-- SBOX (5.1.1)
unfoldable pub sub_byte : ℕ → ℕ
sub_byte b = affine (inverse b)
