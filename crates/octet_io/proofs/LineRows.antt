-- The lines of some inputs.
use Rattle.std.proofs.Common.{◌≡◌, [], ◌∷◌, replicate, refl}
use Rattle.octet_io.specs.Lines.{lines, lines_from}
use Rattle.octet_io.specs.Lines.Lines.{ended, too_long, too_much, line}

pub no_octets : lines [] ≡ ended
unfolding lines_from
no_octets = refl

pub empty_line : lines (10 ∷ []) ≡ line [] ended
unfolding lines_from
empty_line = refl

pub two_lines : lines (97 ∷ 13 ∷ 10 ∷ 98 ∷ 10 ∷ []) ≡ line (97 ∷ []) (line (98 ∷ []) ended)
unfolding lines_from
two_lines = refl

-- one CR is dropped, and only directly before an LF
pub returns_preserved : lines (13 ∷ 97 ∷ 13 ∷ 13 ∷ 10 ∷ []) ≡ line (13 ∷ 97 ∷ 13 ∷ []) ended
unfolding lines_from
returns_preserved = refl

-- the last line may lack its LF, and then keeps its CR
pub last_line : lines (97 ∷ 10 ∷ 98 ∷ 13 ∷ []) ≡ line (97 ∷ []) (line (98 ∷ 13 ∷ []) ended)
unfolding lines_from
last_line = refl

-- after 4,096 octets of a line an LF ends it, and a CR is too long
pub full_line : lines_from 0 (replicate 4096 120) (10 ∷ []) ≡ line (replicate 4096 120) ended
unfolding lines_from
full_line = refl

pub long_line : lines_from 0 (replicate 4096 120) (13 ∷ 10 ∷ []) ≡ too_long
unfolding lines_from
long_line = refl

-- after 16,777,216 octets of the input each one is too much, an LF too; but too long comes first
pub much : lines_from 16777216 [] (10 ∷ []) ≡ too_much
unfolding lines_from
much = refl

pub long_and_much : lines_from 16777216 (replicate 4096 120) (120 ∷ []) ≡ too_long
unfolding lines_from
long_and_much = refl
