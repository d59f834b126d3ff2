-- Two states by slices of bits: eight words of 32 bits, of which word k has bit k of every octet.
use Rattle.std.specs.Prelude.{ℕ, ◌+◌, ◌-◌, ◌*◌, ◌/◌, ◌%◌, ◌^◌, ◌==◌, nat_lt, if◌then◌else◌, List}
use Rattle.std.specs.Prelude.{map, slice_index}
use Rattle.std.specs.Int.{bit_at, to_le_bytes, w32}
use Rattle.std.specs.List.{sum_by, range_with_len}
use Rattle.aes_block.specs.Cipher.{state_of}

-- the octet with these bits
abbrev pub octet_of : (ℕ → ℕ) → ℕ
octet_of bit = sum_by (λ k. bit k * 2 ^ k) (range_with_len 0 8)

-- the bits that the words have at a place: as a function of the word's index, and as a list
abbrev pub bits_at : List ℕ → ℕ → ℕ → ℕ
bits_at words place k = bit_at (slice_index words k) place

abbrev pub at_place : List ℕ → ℕ → List ℕ
at_place words place = map (λ word. bit_at word place) words

-- the octet whose bits the eight words have at a place: bit k of it is that bit of word k
unfoldable pub octet_at : List ℕ → ℕ → ℕ
octet_at words place = octet_of (bits_at words place)

-- the state in lane 0 or 1 of eight words: the octet of this row and column has the place
-- 8 row + 2 column + lane
unfoldable pub state_in : ℕ → List ℕ → List ℕ
state_in lane words = state_of (λ row column. octet_at words (8 * row + 2 * column + lane))

-- an octet of a word, from the lowest on
abbrev pub octet_in : ℕ → ℕ → ℕ
octet_in word row = slice_index (to_le_bytes w32 word) row

-- the state whose columns these words are
abbrev pub state_of_columns : List ℕ → List ℕ
state_of_columns words = state_of (λ row column. octet_in (slice_index words column) row)

-- where the bit of word k at a place comes from when each two words whose indices differ by d alone
-- exchange the bits at the places that differ by d alone
abbrev pub word_before : ℕ → ℕ → ℕ → ℕ
word_before d k place =
    if place / d % 2 == k / d % 2 then k else if k / d % 2 == 0 then k + d else k - d

abbrev pub place_before : ℕ → ℕ → ℕ → ℕ
place_before d k place =
    if place / d % 2 == k / d % 2 then place else if k / d % 2 == 0 then place - d else place + d

-- the bits at a place after that exchange
unfoldable pub exchanged : ℕ → List ℕ → ℕ → List ℕ
exchanged d words place =
    map (λ k. bits_at words (place_before d k place) (word_before d k place)) (range_with_len 0 8)

-- the same of two words x and y, where `low` has the places of y: the bits of the one and the other
-- at a place
abbrev pub bit_from_y : ℕ → ℕ → ℕ → ℕ → ℕ → ℕ
bit_from_y x y low d place =
    if nat_lt place d then bit_at x place
    else if bit_at low (place - d) == 1 then bit_at y (place - d) else bit_at x place

abbrev pub bit_from_x : ℕ → ℕ → ℕ → ℕ → ℕ → ℕ
bit_from_x x y low d place = if bit_at low place == 1 then bit_at x (place + d) else bit_at y place
