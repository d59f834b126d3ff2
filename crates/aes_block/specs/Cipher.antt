-- The cipher AES-128 (FIPS 197, section 5.1). The state is a list of sixteen octets, which fill its
-- four rows and four columns column by column (3.4).
use Rattle.std.specs.Prelude.{ℕ, zero, suc, ◌+◌, ◌*◌, ◌%◌, List, [], ◌∷◌, slice_index, bit_xor}
use Rattle.aes_block.specs.Field.{times, sub_byte}
use Rattle.aes_block.specs.KeySchedule.{word_of, round_key}

-- the octet of a state in this row and column
abbrev pub entry : List ℕ → ℕ → ℕ → ℕ
entry state row column = slice_index state (row + 4 * column)

-- the state with these octets
abbrev pub state_of : (ℕ → ℕ → ℕ) → List ℕ
state_of octet =
    octet 0 0 ∷ octet 1 0 ∷ octet 2 0 ∷ octet 3 0
    ∷ octet 0 1 ∷ octet 1 1 ∷ octet 2 1 ∷ octet 3 1
    ∷ octet 0 2 ∷ octet 1 2 ∷ octet 2 2 ∷ octet 3 2
    ∷ octet 0 3 ∷ octet 1 3 ∷ octet 2 3 ∷ octet 3 3 ∷ []

-- SUBBYTES: each octet through the S-box (5.1.1)
unfoldable pub sub_bytes : List ℕ → List ℕ
sub_bytes state = state_of (λ row column. sub_byte (entry state row column))

-- SHIFTROWS: row r is rotated by r places to the left (5.1.2)
unfoldable pub shift_rows : List ℕ → List ℕ
shift_rows state = state_of (λ row column. entry state row ((column + row) % 4))

-- one octet of a column times the circulant matrix whose first row is 2, 3, 1, 1, from the octet in
-- its place and the three below it, round about
unfoldable pub mixed : ℕ → ℕ → ℕ → ℕ → ℕ
mixed a b c d = bit_xor (bit_xor (bit_xor (times 2 a) (times 3 b)) c) d

-- a column times this matrix
abbrev pub mixed_column : List ℕ → List ℕ
mixed_column column =
    word_of (λ row. mixed (slice_index column row) (slice_index column ((row + 1) % 4))
    (slice_index column ((row + 2) % 4)) (slice_index column ((row + 3) % 4)))

-- MIXCOLUMNS: each column times the matrix (5.1.3)
unfoldable pub mix_columns : List ℕ → List ℕ
mix_columns state =
    state_of (λ row column. slice_index (mixed_column (word_of (λ i. entry state i column))) row)

-- ADDROUNDKEY (5.1.4)
unfoldable pub add_round_key : List ℕ → List ℕ → List ℕ
add_round_key state key =
    state_of (λ row column. bit_xor (entry state row column) (entry key row column))

-- one of the nine rounds that mix the columns, with its round key (5.1)
abbrev pub full_round_of : List ℕ → List ℕ → List ℕ
full_round_of state key = add_round_key (mix_columns (shift_rows (sub_bytes state))) key

-- the tenth round, which does not mix them
abbrev pub last_round_of : List ℕ → List ℕ → List ℕ
last_round_of state key = add_round_key (shift_rows (sub_bytes state)) key

-- the state after the key of round 0 was added and n of the nine rounds were made
unfoldable pub rounds : List ℕ → List ℕ → ℕ → List ℕ
rounds key block zero = add_round_key block (round_key key 0)
rounds key block (suc n) = full_round_of (rounds key block n) (round_key key (suc n))

-- the block's encryption under the key
unfoldable pub aes128 : List ℕ → List ℕ → List ℕ
aes128 key block = last_round_of (rounds key block 9) (round_key key 10)
