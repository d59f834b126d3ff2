-- The lines of an input without their reader: its octets, cut at each LF.
use Rattle.std.specs.Prelude.{◌≡◌, ℕ, List, [], ◌∷◌, ◌++◌, length, Bool, true, false, ◌==◌, ◌&&◌}
use Rattle.std.specs.Prelude.{not, nat_le, if◌then◌else◌}
use Rattle.std.specs.List.{slice_split, list_all}
use Rattle.octet_io.specs.Lines.{Lines, ended, too_long, too_much, line, lines, without_cr}
use Rattle.octet_io.specs.Lines.{max_line, max_input}

-- the pieces between the LFs; no LF ends the last of them
abbrev pub pieces : List ℕ → List (List ℕ)
pieces octets = slice_split (λ octet. octet == 10) octets

abbrev pub last_of : List (List ℕ) → List ℕ
last_of [] = []
last_of (piece ∷ []) = piece
last_of (piece ∷ next ∷ rest) = last_of (next ∷ rest)

-- a line for each piece that an LF ends, without the CR directly before the LF, and then these
abbrev pub whole_lines : List (List ℕ) → Lines → Lines
whole_lines [] then_these = then_these
whole_lines (piece ∷ []) then_these = then_these
whole_lines (piece ∷ next ∷ rest) then_these =
    line (without_cr piece) (whole_lines (next ∷ rest) then_these)

-- the last piece is a line as it is, but for an empty one
abbrev pub last_line : List ℕ → Lines
last_line [] = ended
last_line (octet ∷ rest) = line (octet ∷ rest) ended

-- at most 4,096 octets in each piece, and 16,777,216 in all
abbrev pub pieces_bounded : List (List ℕ) → Bool
pieces_bounded list = list_all (λ piece. nat_le (length piece) max_line) list

unfoldable pub is_within : List ℕ → Bool
is_within octets = nat_le (length octets) max_input && pieces_bounded (pieces octets)

-- the first octet past a limit
pub record FirstPast (octets : List ℕ) : Type 0 where
  pub front : List ℕ
  pub octet : ℕ
  pub rest : List ℕ
  pub joined : octets ≡ front ++ octet ∷ rest
  pub within : is_within front ≡ true
  pub past : is_within (front ++ octet ∷ []) ≡ false

-- whether an octet after these, which are within the limits, passes that of a line
abbrev pub is_past_line : List ℕ → ℕ → Bool
is_past_line front octet = not (octet == 10) && nat_le max_line (length (last_of (pieces front)))

-- within the limits the lines are the pieces
abbrev pub LinesAreThePieces : Type 0
LinesAreThePieces =
    (octets : List ℕ) → is_within octets ≡ true
    → lines octets ≡ whole_lines (pieces octets) (last_line (last_of (pieces octets)))

-- else they end at the first octet past a limit, before the line that is begun there
abbrev pub LinesEndAtALimit : Type 0
LinesEndAtALimit =
    (octets : List ℕ) (at : FirstPast octets) →
    lines octets
    ≡ whole_lines (pieces at.front) (if is_past_line at.front at.octet then too_long else too_much)

-- and there is one
abbrev pub SomeOctetIsPast : Type 0
SomeOctetIsPast = (octets : List ℕ) → is_within octets ≡ false → FirstPast octets
