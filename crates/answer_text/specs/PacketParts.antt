-- The parts of a packet's line, as they are put one after the other.
use Rattle.std.specs.Prelude.{ℕ, ◌-◌, List, [], ◌∷◌, codes, decimal}
use Rattle.std.specs.List.{concat}

unfoldable pub nak_word : List ℕ
nak_word = codes "nak"

-- an octet as a decimal number, after a space
unfoldable pub number_text : ℕ → List ℕ
number_text b = concat (codes " " ∷ decimal b ∷ [])

-- a line up to what the Type-Data says
unfoldable pub head_text : ℕ → List ℕ → ℕ → ℕ → ℕ → ℕ → List ℕ
head_text number code id kind whole octets = concat (
    decimal number ∷ codes " " ∷ code ∷ codes " " ∷ decimal id ∷ codes " type " ∷ decimal kind
    ∷ codes " length " ∷ decimal whole ∷
    codes " padding " ∷ decimal (octets - whole) ∷ codes " " ∷ [])

unfoldable pub line_end : List ℕ
line_end = codes "\n"
