-- A state as four words of 32 bits, one a column, the first row's octet the most significant.
use Rattle.std.specs.Prelude.{ℕ, ◌+◌, ◌%◌, ◌<◌, ◌≡◌, List, [], ◌∷◌, slice_index, slice_index_or}
use Rattle.std.specs.Int.{w32, to_be_bytes}
use Rattle.aes_block.specs.Field.{times}
use Rattle.aes_block.specs.KeySchedule.{word_of, round_key}
use Rattle.aes_block.specs.Cipher.{state_of}

-- the octets of a word
abbrev pub octets_of : ℕ → List ℕ
octets_of word = to_be_bytes w32 word

-- the octet in this row of a column
abbrev pub octet : ℕ → ℕ → ℕ
octet word row = slice_index (octets_of word) row

-- the octets of four words
abbrev pub state_of_words : List ℕ → List ℕ
state_of_words words = state_of (λ row column. octet (slice_index words column) row)

-- after SHIFTROWS, the column that begins in the first of these four columns
abbrev pub diagonal : ℕ → ℕ → ℕ → ℕ → List ℕ
diagonal a b c d = octet a 0 ∷ octet b 1 ∷ octet c 2 ∷ octet d 3 ∷ []

-- what an octet adds to its column when that is mixed: its products, beginning with the one at the
-- place r, round about
abbrev pub added : ℕ → ℕ → List ℕ
added r octet =
    let products : List ℕ = times 2 octet ∷ octet ∷ octet ∷ times 3 octet ∷ [] in
    word_of (λ i. slice_index products ((i + r) % 4))

-- the first n of these are the keys of the rounds from 0 on, as words
abbrev pub AreWordKeys : List ℕ → List (List ℕ) → ℕ → Type 0
AreWordKeys key keys n =
    (r : ℕ) → r < n → state_of_words (slice_index_or keys r []) ≡ round_key key r
