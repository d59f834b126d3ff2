-- A command that reads lines: the result of each line, and of the end of the input.
use Rattle.std.specs.Prelude.{◌≡◌, ℕ, ◌+◌, List, [], Bool, true, false, ◌||◌, ◌≤◌, Option, Result}
use Rattle.std.specs.Prelude.{Ok, Err, OnOk, OnErr}
use Rattle.octet_io.specs.Known.{append_known}
use Rattle.octet_io.specs.Lines.{Lines, max_input, ended, too_long, too_much, line}
use Rattle.octet_io.specs.declared.source.Failed.{Failed}
use Rattle.octet_io.specs.Shown.{Shown, HasRisen}
use Rattle.answer_text.specs.Writes.{WritesFront}
use Rattle.command_driver.specs.Answers.{Answer, after_text, refusal, overlong, IsWhole, IsRefusal}
use Rattle.command_driver.specs.declared.status.Status.{Status}
use Rattle.command_driver.specs.declared.status.Status.TheVariants as status
use Rattle.command_driver.specs.declared.command.Next.{Next}
use Rattle.command_driver.specs.declared.command.Next.TheVariants.{Proceed, Refuses}
use Rattle.command_driver.specs.declared.command.Close.{Close}
use Rattle.command_driver.specs.declared.command.Close.TheVariants as close
use Rattle.command_driver.specs.declared.command.Trouble.{Trouble}
use Rattle.command_driver.specs.declared.command.Trouble.TheVariants as trouble

-- after a line the command goes on, or refuses it with a word and a status
pub data Ruling : Type 0 where
  goes : Ruling
  refuses : List ℕ → Status → Ruling

-- the result of a line: a text, a ruling, and the command after it
pub record LineResult (C : Type 0) : Type 0 where
  pub text : List ℕ
  pub ruling : Ruling
  pub after : C

-- at the end of the input the command ends with a status, or misses something
pub data Closed : Type 0 where
  ends : Status → Closed
  misses : List ℕ → Closed

pub record Closing : Type 0 where
  pub text : List ℕ
  pub closed : Closed

-- what follows a line, whose number is given
abbrev pub after_ruling : ℕ → Ruling → Answer → Answer
after_ruling number goes a = a
after_ruling number (refuses word s) a = refusal number word s

-- the result of the end of the input, if the next line would have the number
abbrev pub closed_answer : ℕ → Closed → Answer
closed_answer number (ends s) = record { text = []; status = s }
closed_answer number (misses word) = refusal number word status.Refused

abbrev pub closing_answer : ℕ → Closing → Answer
closing_answer number c = after_text c.text (closed_answer number c.closed)

abbrev pub lacking_after : Ruling → Bool → Bool
lacking_after goes b = b
lacking_after (refuses word s) b = false

module _ {C : Type 0} (took : C → List ℕ → LineResult C) (closing : C → Closing) where
  -- the answer of a command to lines, if this many came before
  unfoldable pub answer : ℕ → C → Lines → Answer
  answer n c ended = closing_answer (n + 1) (closing c)
  answer n c too_long = overlong (n + 1)
  answer n c too_much = overlong (n + 1)
  answer n c (line l rest) =
      after_text (took c l).text
      (after_ruling (n + 1) (took c l).ruling (answer (n + 1) (took c l).after rest))

-- whether some line that the command comes to may fail for want of memory
module _ {C : Type 0} (took : C → List ℕ → LineResult C) (lacks : C → List ℕ → Bool) where
  unfoldable pub lacking : C → Lines → Bool
  lacking c ended = false
  lacking c too_long = false
  lacking c too_much = false
  lacking c (line l rest) =
      lacks c l || lacking_after (took c l).ruling (lacking (took c l).after rest)

-- a line was taken, its text written, and the command is as it is after it
pub record HasContinued {C : Type 0} (t : LineResult C) (before now : Option (List ℕ))
    (new : C) : Type 0 where
  pub ruling : t.ruling ≡ goes
  pub text : append_known before t.text ≡ now
  pub after : t.after ≡ new

-- a line was refused
pub record Stops {C : Type 0} (t : LineResult C) (before now : Option (List ℕ)) (word : List ℕ)
    (s : Status) : Type 0 where
  pub ruling : t.ruling ≡ refuses word s
  pub text : append_known before t.text ≡ now
  pub refusal : IsRefusal s

-- what a command does with one line
abbrev pub IsLineResult : {C : Type 0} → Result Next Trouble → LineResult C → Option (List ℕ)
    → Option (List ℕ) → C → Type 0
IsLineResult (Ok Proceed) t before now after = HasContinued t before now after
IsLineResult (Ok (Refuses word s)) t before now after = Stops t before now word.now s
IsLineResult (Err trouble) t before now after = WritesFront before now t.text

-- the end of the input was met, and the run ends with a status
pub record EndsWith (t : Closing) (before now : Option (List ℕ)) (s : Status) : Type 0 where
  pub closed : t.closed ≡ ends s
  pub text : append_known before t.text ≡ now
  pub whole : IsWhole s

-- the end of the input was met, and something is missing
pub record MissesWith (t : Closing) (before now : Option (List ℕ)) (word : List ℕ) : Type 0 where
  pub closed : t.closed ≡ misses word
  pub text : append_known before t.text ≡ now

-- what a command does at the end of the input
abbrev pub Closes : Result Close Failed → Closing → Option (List ℕ) → Option (List ℕ) → Type 0
Closes (Ok (close.Ends s)) t before now = EndsWith t before now s
Closes (Ok (close.Misses word)) t before now = MissesWith t before now word.now
Closes (Err fault) t before now = WritesFront before now t.text

-- a write failed only if the count of faults rose, or is at its last value; memory was wanting only
-- if that may be
abbrev pub Troubles : {S : Type 0} → Shown S → Result Next Trouble → S → S → Bool → Type 0
Troubles shown (Ok next) before now lacks = Unit {0}
Troubles shown (Err trouble.Write) before now lacks = HasRisen shown before now
Troubles shown (Err trouble.Memory) before now lacks = lacks ≡ true

-- unless a write failed, the count of faults is as it was
abbrev pub PreservesFaults : {S : Type 0} → Shown S → Result Next Trouble → S → S → Type 0
PreservesFaults shown (Ok next) before now = shown.faults now ≡ shown.faults before
PreservesFaults shown (Err trouble.Write) before now = Unit {0}
PreservesFaults shown (Err trouble.Memory) before now = shown.faults now ≡ shown.faults before

-- what a command does to a sink at one line, by what the sink shows of itself
pub record AnswersLine {C S : Type 0} (shown : Shown S) (result : Result Next Trouble)
    (before now : S) (t : LineResult C) (lacks : Bool) (after : C) : Type 0 where
  pub takes : IsLineResult result t (shown.octets before) (shown.octets now) after
  pub trouble : Troubles shown result before now lacks
  pub uncounted : PreservesFaults shown result before now
  pub never_falls : shown.faults before ≤ shown.faults now

-- what a command does to a sink at the end of the input
pub record AnswersEnd {S : Type 0} (shown : Shown S) (result : Result Close Failed) (before now : S)
    (t : Closing) : Type 0 where
  pub closes : Closes result t (shown.octets before) (shown.octets now)
  pub counted : OnErr result (HasRisen shown before now)
  pub uncounted : OnOk result (shown.faults now ≡ shown.faults before)
  pub never_falls : shown.faults before ≤ shown.faults now

-- the command has taken so many lines, which an input can have
pub record AfterLines {C : Type 0} (holds : C → ℕ → Type 0) (c : C) : Type 0 where
  pub lines : ℕ
  pub few : lines ≤ max_input
  pub fact : holds c lines

-- some line of some command may fail for want of memory
pub record SomeLacks {C : Type 0} (lacks : C → List ℕ → Bool) : Type 0 where
  pub command : C
  pub text : List ℕ
  pub wanting : lacks command text ≡ true
