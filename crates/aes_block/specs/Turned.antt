-- The S-box by halves of octets, as the code looks it up. In a turned basis of the field an octet
-- is a pair of elements of the field of 16 elements, and its inverse comes from inverses of such
-- elements.
use Rattle.std.specs.Prelude.{ℕ, ◌≡◌, ◌<◌, ◌+◌, ◌-◌, ◌/◌, ◌%◌, ◌*◌, nat_le, nat_lt, ◌||◌, IsTrue}
use Rattle.std.specs.Prelude.{if◌then◌else◌, List, [], ◌∷◌, slice_index, slice_index_or, bit_and}
use Rattle.std.specs.Prelude.{bit_xor}
use Rattle.aes_block.specs.KeySchedule.{round_key}
use Rattle.aes_block.specs.Cipher.{entry, state_of}
use Rattle.aes_block.specs.declared.key_schedule.TurnedKey.{TurnedKey}
use Rattle.aes_block.specs.declared.lanes.TheConstants.{TURN_LOWER, TURN_UPPER, INVERSES, QUOTIENTS}
use Rattle.aes_block.specs.declared.lanes.TheConstants.{ONCE_FIRST, ONCE_SECOND, TWICE_FIRST}
use Rattle.aes_block.specs.declared.lanes.TheConstants.{TWICE_SECOND, PLAIN_FIRST, PLAIN_SECOND}

-- each octet of a state through f
abbrev pub all : (ℕ → ℕ) → List ℕ → List ℕ
all f state = state_of (λ row column. f (entry state row column))

-- the octet of a state r rows below this place, round about
abbrev pub below : List ℕ → ℕ → ℕ → ℕ → ℕ
below state r row column = entry state ((row + r) % 4) column

-- the lower four bits of an octet
abbrev pub lower : ℕ → ℕ
lower b = bit_and b 15

-- its upper four bits
abbrev pub upper : ℕ → ℕ
upper b = b / 16

-- a place in a table of sixteen, or 128 or more for no place
abbrev pub IsPlace : ℕ → Type 0
IsPlace place = IsTrue (nat_le 128 place || nat_lt place 16)

abbrev pub ArePlaces : List ℕ → Type 0
ArePlaces places = (i : ℕ) → IsPlace (slice_index places i)

-- the entry of a table at a place, and 0 at no place
unfoldable pub look : List ℕ → ℕ → ℕ
look table place = if nat_le 128 place then 0 else slice_index table place

-- an octet, in the turned basis
unfoldable pub turned : ℕ → ℕ
turned b = bit_xor (look TURN_LOWER (lower b)) (look TURN_UPPER (upper b))

-- the sum of the images of those bits of an octet that are 1, from the lowest bit on
abbrev pub by_bits : List ℕ → ℕ → ℕ
by_bits [] b = 0
by_bits (image ∷ images) b = bit_xor (b % 2 * image) (by_bits images (b / 2))

-- the octet that is this one in the turned basis
unfoldable pub plain : ℕ → ℕ
plain b = by_bits (0x60 ∷ 0xb6 ∷ 0x29 ∷ 0x08 ∷ 0xec ∷ 0xbc ∷ 0x51 ∷ 0xe0 ∷ []) b

-- the two halves of the inverse of an octet in the turned basis, each as a place in a table: from
-- the inverses of its upper half and of the sum of its halves, and the lower half's quotient
unfoldable pub first_sum : ℕ → ℕ
first_sum b = bit_xor (look INVERSES (upper b)) (look QUOTIENTS (lower b))

unfoldable pub second_sum : ℕ → ℕ
second_sum b = bit_xor (look INVERSES (bit_xor (lower b) (upper b))) (look QUOTIENTS (lower b))

unfoldable pub first_place : ℕ → ℕ
first_place b = bit_xor (look INVERSES (first_sum b)) (bit_xor (lower b) (upper b))

unfoldable pub second_place : ℕ → ℕ
second_place b = bit_xor (look INVERSES (second_sum b)) (upper b)

-- these are the two halves for each of these octets
pub record AreHalves (octets first second : List ℕ) : Type 0 where
  pub first_are : first ≡ all first_place octets
  pub second_are : second ≡ all second_place octets

-- what two tables have at the halves of the inverse
unfoldable pub looked : List ℕ → List ℕ → ℕ → ℕ
looked first second b = bit_xor (look first (first_place b)) (look second (second_place b))

-- of an octet in the turned basis, without the constant of the affine map: its S-box in the turned
-- basis, that times x, and its S-box
unfoldable pub once : ℕ → ℕ
once b = looked ONCE_FIRST ONCE_SECOND b

unfoldable pub twice : ℕ → ℕ
twice b = looked TWICE_FIRST TWICE_SECOND b

unfoldable pub plain_box : ℕ → ℕ
plain_box b = looked PLAIN_FIRST PLAIN_SECOND b

-- an octet of a round key, which is kept in the turned basis with the constant of the affine map
-- added
abbrev pub of_turned : ℕ → ℕ
of_turned b = bit_xor (plain b) 0x63

-- an octet of the last round key, which is kept with that constant added
abbrev pub of_last : ℕ → ℕ
of_last b = bit_xor b 0x63

-- the octets of the mixed columns, from the octets' S-box and that times x
abbrev pub mixed_lanes : List ℕ → List ℕ → List ℕ
mixed_lanes once twice = state_of (λ row column. bit_xor
    (bit_xor (bit_xor (entry twice row column) (below once 1 row column)) (below once 3 row column))
    (bit_xor (below twice 1 row column) (below once 2 row column)))

-- the state that is n columns before, with zeros in the first n columns
abbrev pub columns_on : ℕ → List ℕ → List ℕ
columns_on n state =
    state_of (λ row column. if nat_lt column n then 0 else entry state row (column - n))

-- each column added to those before it, in two steps
abbrev pub sums_of_two : List ℕ → List ℕ
sums_of_two state = state_of
    (λ row column. bit_xor (entry state row column) (entry (columns_on 1 state) row column))

abbrev pub sums_of_four : List ℕ → List ℕ
sums_of_four state = state_of (λ row column. bit_xor (entry (sums_of_two state) row column)
    (entry (columns_on 2 (sums_of_two state)) row column))

-- the state with this column four times
abbrev pub each_column : (ℕ → ℕ) → List ℕ
each_column octet = state_of (λ row column. octet row)

-- these are the key's round keys, as they are kept: the first as it is, then those of the nine full
-- rounds and the last
pub record AreTurned (key : List ℕ) (full : List TurnedKey) (last : List ℕ) : Type 0 where
  pub first_is : round_key key 0 ≡ key
  pub full_are : (r : ℕ) → r < 9 → (d : TurnedKey) → all of_turned (slice_index_or full r d).lanes
      ≡ round_key key (r + 1)
  pub last_is : all of_last last ≡ round_key key 10
