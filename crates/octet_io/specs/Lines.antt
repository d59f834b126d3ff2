-- The lines of an input. A line ends with LF, and one CR directly before the LF is no part of it.
-- The last line may lack its LF. A line has at most 4,096 octets, its CR among them, and the input
-- at most 16,777,216.
use Rattle.std.specs.Prelude.{◌≡◌, ℕ, ◌+◌, ◌<◌, List, [], ◌∷◌, ◌++◌, length, Bool, true, false}
use Rattle.std.specs.Prelude.{◌==◌, ◌&&◌, not, if◌then◌else◌, Option, option_map, nat_le, min, ◌-◌}
use Rattle.octet_io.specs.Known.{nothing_known}
use Rattle.octet_io.specs.Shown.{Shown, HasRisen}
use Rattle.octet_io.specs.declared.lines.NextLine.{NextLine}
use Rattle.octet_io.specs.declared.lines.NextLine.TheVariants.{Line, End, TooLong, TooMuch, Read}

-- the lines in order, and how they end: with the input, at a line's 4,097th octet, or at the
-- input's octet 16,777,217
pub data Lines : Type 0 where
  ended : Lines
  too_long : Lines
  too_much : Lines
  line : List ℕ → Lines → Lines

-- the octets of a line, of an input
abbrev pub max_line : ℕ
max_line = 4096

abbrev pub max_input : ℕ
max_input = 16777216

-- the octets without a CR at their end
abbrev pub without_cr : List ℕ → List ℕ
without_cr [] = []
without_cr (x ∷ []) = if x == 13 then [] else x ∷ []
without_cr (x ∷ y ∷ rest) = x ∷ without_cr (y ∷ rest)

-- the lines of the octets that are left, if `taken` octets came before them, the last of which
-- begin the line as `begun`
unfoldable pub lines_from : ℕ → List ℕ → List ℕ → Lines
lines_from taken [] [] = ended
lines_from taken (b ∷ begun) [] = line (b ∷ begun) ended
lines_from taken begun (x ∷ rest) =
    if not (x == 10) && nat_le max_line (length begun) then too_long
    else if nat_le max_input taken then too_much
    else if x == 10 then line (without_cr begun) (lines_from (taken + 1) [] rest)
    else lines_from (taken + 1) (begun ++ x ∷ []) rest

-- the lines of an input
abbrev pub lines : List ℕ → Lines
lines octets = lines_from 0 [] octets

-- a reader of lines: how many octets it has returned, the octets that it has read ahead, the line
-- that it read last, that line's number, and whether it is over
pub record LineReading : Type 0 where
  pub taken : ℕ
  pub held : List ℕ
  pub line : List ℕ
  pub number : ℕ
  pub over : Bool

-- the lines that are still to come, if the source shows what it has left
abbrev pub lines_left : LineReading → Option (List ℕ) → Option Lines
lines_left reader left =
    option_map (λ octets. lines_from reader.taken [] (reader.held ++ octets)) left

-- how one answer divides the lines that were to come: into the line and those after it, or it is
-- how they end
abbrev pub Divides : NextLine → List ℕ → Option Lines → Option Lines → Type 0
Divides Line text before after = before ≡ option_map (line text) after
Divides End text before after = before ≡ option_map (λ _. ended) after
Divides TooLong text before after = before ≡ option_map (λ _. too_long) after
Divides TooMuch text before after = before ≡ option_map (λ _. too_much) after
Divides Read text before after = Unit {0}

-- the number of the line last begun, before and after an answer
abbrev pub Numbers : NextLine → ℕ → ℕ → Type 0
Numbers Line before after = after ≡ before + 1
Numbers End before after = after ≡ before
Numbers TooLong before after = after ≡ before + 1
Numbers TooMuch before after = after ≡ before + 1
Numbers Read before after = Unit {0}

-- if a read fails, the line last begun is that of the octets taken in the call, if there are some
abbrev pub StartsAt : NextLine → LineReading → LineReading → Type 0
StartsAt Read before after = after.number ≡ before.number + min 1 (after.taken - before.taken)
StartsAt Line before after = Unit {0}
StartsAt End before after = Unit {0}
StartsAt TooLong before after = Unit {0}
StartsAt TooMuch before after = Unit {0}

-- each line takes at least one octet
abbrev pub ConsumesSome : NextLine → ℕ → ℕ → Type 0
ConsumesSome Line before after = before < after
ConsumesSome End before after = Unit {0}
ConsumesSome TooLong before after = Unit {0}
ConsumesSome TooMuch before after = Unit {0}
ConsumesSome Read before after = Unit {0}

-- at the end nothing is left
abbrev pub Exhausts : NextLine → Option (List ℕ) → Type 0
Exhausts End left = left ≡ nothing_known left
Exhausts Line left = Unit {0}
Exhausts TooLong left = Unit {0}
Exhausts TooMuch left = Unit {0}
Exhausts Read left = Unit {0}

-- the answer Read comes only if the count of faults rose, or is at its last value; after any other
-- answer it is as it was
abbrev pub Faults : {S : Type 0} → Shown S → NextLine → S → S → Type 0
Faults shown Read before after = HasRisen shown before after
Faults shown Line before after = shown.faults after ≡ shown.faults before
Faults shown End before after = shown.faults after ≡ shown.faults before
Faults shown TooLong before after = shown.faults after ≡ shown.faults before
Faults shown TooMuch before after = shown.faults after ≡ shown.faults before

-- every answer but a line is the last one
abbrev pub is_last : NextLine → Bool
is_last Line = false
is_last End = true
is_last TooLong = true
is_last TooMuch = true
is_last Read = true
