-- What the octets that a reader has buffered do to a line that is begun.
use Rattle.std.specs.Prelude.{◌≡◌, ◌≢◌, ℕ, ◌+◌, ◌<◌, ◌≤◌, List, [], ◌∷◌, ◌++◌, length, min, Option}
use Rattle.std.specs.Prelude.{option_map}
use Rattle.octet_io.specs.Lines.{Lines, LineReading, lines_from, lines_left, max_line, max_input}
use Rattle.octet_io.specs.Lines.{Divides}
use Rattle.octet_io.specs.declared.lines.NextLine.TheVariants.{Line, End, TooLong, TooMuch, Read}
use Rattle.octet_io.specs.declared.lines.NextLine.{NextLine}
use Rattle.octet_io.specs.declared.lines.Step.{Step}
use Rattle.octet_io.specs.declared.lines.Step.TheVariants.{HasContinued, EndsLine, PassesLine}
use Rattle.octet_io.specs.declared.lines.Step.TheVariants.{PassesInput}

-- the lines that are still to come in mid-line, if the source shows what it has left
abbrev pub lines_within : LineReading → Option (List ℕ) → Option Lines
lines_within reader left =
    option_map (λ octets. lines_from reader.taken reader.line (reader.held ++ octets)) left

-- what the lines that were to come are after a step, if the source has these octets left
abbrev pub Advances : Step → LineReading → Option Lines → Option (List ℕ) → Type 0
Advances HasContinued now before left = (now.held ≡ []) × (before ≡ lines_within now left)
Advances EndsLine now before left = Divides Line now.line before (lines_left now left)
Advances PassesLine now before left = Divides TooLong now.line before (lines_left now left)
Advances PassesInput now before left = Divides TooMuch now.line before (lines_left now left)

-- how many octets a step takes: those that join the line, and its LF
abbrev pub ConsumesOctets : Step → LineReading → LineReading → Type 0
ConsumesOctets HasContinued before after = (before.taken < after.taken)
    × (after.taken + length before.line ≡ before.taken + length after.line)
ConsumesOctets EndsLine before after = before.taken < after.taken
ConsumesOctets PassesLine before after = before.taken ≤ after.taken
ConsumesOctets PassesInput before after = before.taken ≤ after.taken

-- the next octet that is buffered, if there is one, ends the line or passes a limit
abbrev pub StopsAt : List ℕ → List ℕ → ℕ → Type 0
StopsAt [] line taken = Unit {0}
StopsAt (octet ∷ rest) line taken = octet ≢ 10 → length line < max_line → max_input ≤ taken

abbrev pub Stops : LineReading → Type 0
Stops reader = StopsAt reader.held reader.line reader.taken

-- how many lines were begun for an answer, with so much of the line
abbrev pub initiated_by : NextLine → List ℕ → ℕ
initiated_by Line line = 1
initiated_by End line = 0
initiated_by TooLong line = 1
initiated_by TooMuch line = 1
initiated_by Read line = min 1 (length line)

-- at the end of the source a line that is begun is the answer, or else there is none
abbrev pub end_answer : List ℕ → NextLine
end_answer [] = End
end_answer (octet ∷ rest) = Line
