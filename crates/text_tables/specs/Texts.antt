-- A text, line by line: its table, what its lines say, which faults they have at their places, and
-- what they add.
use Rattle.std.specs.Prelude.{ℕ, List, not, ◌&&◌, ◌||◌, Bool, false, if◌then◌else◌, Option, Some}
use Rattle.std.specs.Prelude.{None, is_some, find, unwrap_or, Result, Ok, Err}
use Rattle.text_tables.specs.Fields.{◌>>=◌}
use Rattle.text_tables.specs.Laws.{Judges}
use Rattle.text_tables.specs.Phases.{may_occur}
use Rattle.text_tables.specs.Rows.{Row, faults, unless, fault_of_words, keyword_in, line_has}
use Rattle.text_tables.specs.Words.{words, is_passed_over}
use Rattle.text_tables.specs.declared.fault.LineFault.{LineFault}
use Rattle.text_tables.specs.declared.fault.LineFault.TheVariants as fault
use Rattle.text_tables.specs.declared.phase.Part.{Part}
use Rattle.text_tables.specs.declared.phase.Phase.{Phase}
use Rattle.text_tables.specs.declared.phase.Phase.TheVariants as phase

-- what a line says, and what has been read after it
pub record ReadLine (I S : Type 0) : Type 0 where
  pub item : I
  pub after : S

abbrev pub line_of : {I S : Type 0} → I → S → ReadLine I S
line_of item after = record { item = item; after = after }

-- a text with these keywords and entries, of which so much is kept, and whose lines say so much
pub record Table (K E S I : Type 0) : Type 0 where
  -- its keywords, and the one that stands for none
  pub keywords : S → List K
  pub none : K
  -- what a keyword says with the words of its line, and what that is to the text
  pub entry : K → List (List ℕ) → E
  pub part : E → Part
  -- how far it has come
  pub phase : S → Phase
  -- what is kept after line 1, if it is a header
  pub begun : S → List ℕ → Option S
  -- what the header says, and a line that is ignored
  pub nothing : I
  -- BadCount: one line too many of its kind
  pub is_crowded : S → K → Bool
  -- Repeated: what came before
  pub occurred_before : S → E → Bool
  -- Missing: what is needed before it
  pub is_missing : S → E → Bool
  -- what an entry says and adds
  pub taken : S → E → ReadLine I S

module _ {K E S I : Type 0} (row : K → Row) (t : Table K E S I) where
  -- the keyword of a line, if it has one, and what it says
  abbrev pub word_of : S → List ℕ → K
  word_of s line = unwrap_or (keyword_in row (t.keywords s) (words line)) t.none

  abbrev pub entry_in : S → List ℕ → E
  entry_in s line = t.entry (word_of s line) (words line)

  -- the faults of a line at its place; Order: what may not come there
  abbrev pub place_has : S → K → E → LineFault → Bool
  place_has s k e fault.BadCount = t.is_crowded s k
  place_has s k e fault.Repeated = t.occurred_before s e
  place_has s k e fault.Missing = t.is_missing s e
  place_has s k e fault.Order = not (may_occur (t.phase s) (t.part e))
  place_has s k e other = false

  -- a line after the first that isn't ignored has the fault, by its words or by its place
  unfoldable pub body_has : S → List ℕ → LineFault → Bool
  body_has s line f =
      line_has row (t.keywords s) line f || place_has s (word_of s line) (entry_in s line) f

  -- a line after the first
  unfoldable pub read_body : S → List ℕ → Result (ReadLine I S) LineFault
  read_body s line =
      if is_passed_over line then Ok (line_of t.nothing s)
      else unless (find (body_has s line) faults) (t.taken s (entry_in s line))

  -- the same step by step: the keyword, its words, its place
  abbrev pub place_fault : S → E → Option LineFault
  place_fault s e =
      if t.occurred_before s e then Some fault.Repeated
      else if t.is_missing s e then Some fault.Missing
      else if may_occur (t.phase s) (t.part e) then None
      else Some fault.Order

  unfoldable pub take : S → E → Result (ReadLine I S) LineFault
  take s e = unless (place_fault s e) (t.taken s e)

  abbrev pub read_words : S → K → List (List ℕ) → Result (ReadLine I S) LineFault
  read_words s k ws =
      if t.is_crowded s k then Err fault.BadCount
      else unless (fault_of_words (row k).least (row k).fields ws) (t.entry k ws) >>= take s

  -- the first line
  abbrev pub read_first_line : Option S → Result (ReadLine I S) LineFault
  read_first_line None = Err fault.NoHeader
  read_first_line (Some after) = Ok (line_of t.nothing after)

  abbrev pub read_at : Phase → S → List ℕ → Result (ReadLine I S) LineFault
  read_at phase.Unread s line = read_first_line (t.begun s line)
  read_at p s line = read_body s line

  -- what a line says and adds, or its first fault
  unfoldable pub read_line : S → List ℕ → Result (ReadLine I S) LineFault
  read_line s line = read_at (t.phase s) s line

  -- the line has the fault, and what it says and adds if it has none
  abbrev pub header_has : Option S → LineFault → Bool
  header_has begun fault.NoHeader = not (is_some begun)
  header_has begun f = false

  abbrev pub has_at : Phase → S → List ℕ → LineFault → Bool
  has_at phase.Unread s line f = header_has (t.begun s line) f
  has_at p s line f = not (is_passed_over line) && body_has s line f

  abbrev pub says_at : Phase → S → List ℕ → ReadLine I S
  says_at phase.Unread s line = line_of t.nothing (unwrap_or (t.begun s line) s)
  says_at p s line =
      if is_passed_over line then line_of t.nothing s else t.taken s (entry_in s line)

  -- each line is judged
  abbrev pub AreJudged : Type 0
  AreJudged = (s : S) (line : List ℕ)
      → Judges (read_line s line) (has_at (t.phase s) s line) (says_at (t.phase s) s line)

-- the answer of a reader, with what was written and what it keeps after, as what a line says and
-- adds
abbrev pub line_result : {A O S I : Type 0} → (A → S → O → I) → Result A LineFault → S → O
    → Result (ReadLine I S) LineFault
line_result says (Ok item) after out = Ok (line_of (says item after out) after)
line_result says (Err f) after out = Err f

-- what a call that reads line 1 keeps
abbrev pub initiated_by : {S : Type 0} → Bool → S → Option S
initiated_by begins after = if begins then Some after else None
