-- The pieces of which lines are made.
use Rattle.std.specs.Prelude.{ℕ, List, [], ◌∷◌, ◌++◌, codes, decimal}
use Rattle.hex.specs.Hex.{encode_lower}
use Rattle.answer_text.specs.declared.pieces.Piece.{Piece}
use Rattle.answer_text.specs.declared.pieces.Piece.TheVariants.{Text, Hex, Number, Leading, Line}

-- octets in hex, `-` if there are none
abbrev pub hex_text : List ℕ → List ℕ
hex_text [] = codes "-"
hex_text (b ∷ rest) = encode_lower (b ∷ rest)

-- the text of a piece
abbrev pub text_of : Piece → List ℕ
text_of (Text octets) = octets.now
text_of (Hex front octets) = front.now ++ hex_text octets.now
text_of (Number front number) = front.now ++ decimal number
text_of (Leading number octets) = decimal number ++ octets.now
text_of (Line front number) = (front.now ++ decimal number) ++ codes "\n"

-- the text of a piece, and a text behind it
abbrev pub text_before : Piece → List ℕ → List ℕ
text_before (Text octets) rest = octets.now ++ rest
text_before (Hex front octets) rest = front.now ++ (hex_text octets.now ++ rest)
text_before (Number front number) rest = front.now ++ (decimal number ++ rest)
text_before (Leading number octets) rest = decimal number ++ (octets.now ++ rest)
text_before (Line front number) rest = front.now ++ (decimal number ++ (codes "\n" ++ rest))

-- the text of pieces, one after the other
abbrev pub text_of_pieces : List Piece → List ℕ
text_of_pieces [] = []
text_of_pieces (piece ∷ rest) = text_before piece (text_of_pieces rest)
