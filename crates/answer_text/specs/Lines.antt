-- Lines of output.
use Rattle.std.specs.Prelude.{ℕ, List, [], ◌∷◌, ◌++◌, codes, decimal}
use Rattle.std.specs.List.{concat}
use Rattle.answer_text.specs.Pieces.{hex_text}

-- octets and LF
abbrev pub line_text : List ℕ → List ℕ
line_text line = concat (line ∷ codes "\n" ∷ [])

-- a name and octets in hex, in one line
unfoldable pub hex_line : List ℕ → List ℕ → List ℕ
hex_line name octets = concat (name ∷ codes " " ∷ hex_text octets ∷ codes "\n" ∷ [])

-- a text has the line: at its start or after an LF, and an LF follows
pub data HasLine (line : List ℕ) : List ℕ → Type 0 where
  first : (rest : List ℕ) → HasLine line (line ++ (10 ∷ rest))
  later : (passed rest : List ℕ) → HasLine line rest → HasLine line (passed ++ (10 ∷ rest))

-- the last line of a refused input: the number of the line, and why
abbrev pub refused_text : ℕ → List ℕ → List ℕ
refused_text number word =
    concat (codes "refused line " ∷ decimal number ∷ codes " " ∷ word ∷ codes "\n" ∷ [])
