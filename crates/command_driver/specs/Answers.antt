-- What the program answers: the text that it writes, and its status.
use Rattle.std.specs.Prelude.{◌≡◌, ◌≢◌, ◌≤◌, ℕ, List, ◌++◌, Option, codes}
use Rattle.octet_io.specs.Known.{append_known, nothing_known}
use Rattle.octet_io.specs.Shown.{Shown, HasRisen}
use Rattle.answer_text.specs.Lines.{refused_text}
use Rattle.answer_text.specs.Writes.{WritesFront}
use Rattle.command_driver.specs.declared.status.Status.{Status}
use Rattle.command_driver.specs.declared.status.Status.TheVariants as status

pub record Answer : Type 0 where
  pub text : List ℕ
  pub status : Status

-- an answer with a text before it
abbrev pub after_text : List ℕ → Answer → Answer
after_text text a = record { text = text ++ a.text; status = a.status }

-- the input is refused at a line
abbrev pub refusal : ℕ → List ℕ → Status → Answer
refusal number word s = record { text = refused_text number word; status = s }

-- a line or the input is too long
abbrev pub overlong : ℕ → Answer
overlong number = refusal number (codes "TooMuch") status.TooMuch

-- a read or a write failed, or memory was wanting
pub data IsCutShort (s : Status) : Type 0 where
  by_read : s ≡ status.ReadFault → IsCutShort s
  by_write : s ≡ status.WriteFault → IsCutShort s
  by_memory : s ≡ status.Memory → IsCutShort s

-- how a run ends: the whole text of the answer was written, and the status is the answer's; or the
-- run was cut short, and a prefix of the text was written
pub data Ends (s : Status) (before now : Option (List ℕ)) (a : Answer) : Type 0 where
  entire : append_known before a.text ≡ now → a.status ≡ s → Ends s before now a
  cut_short : IsCutShort s → WritesFront before now a.text → Ends s before now a

-- a status that an answer can have
abbrev pub IsWhole : Status → Type 0
IsWhole status.ReadFault = ⊥
IsWhole status.WriteFault = ⊥
IsWhole status.Memory = ⊥
IsWhole _ = Unit {0}

-- a status that comes without a fault of the source or want of memory
abbrev pub IsWritten : Status → Type 0
IsWritten status.ReadFault = ⊥
IsWritten status.Memory = ⊥
IsWritten _ = Unit {0}

-- a status of a refusal: the input was not read to its end
abbrev pub IsRefusal : Status → Type 0
IsRefusal status.Refused = Unit {0}
IsRefusal status.TooMuch = Unit {0}
IsRefusal _ = ⊥

-- unless a read failed, the count of failed reads is as it was
abbrev pub KeepsReads : Status → ℕ → ℕ → Type 0
KeepsReads s before now = s ≢ status.ReadFault → now ≡ before

-- unless a write failed, the count of failed writes is as it was
abbrev pub KeepsWrites : Status → ℕ → ℕ → Type 0
KeepsWrites s before now = s ≢ status.WriteFault → now ≡ before

-- how a run ends that only writes an answer: a write failed only if the count of faults rose, or is
-- at its last value, and wherever it rose; that count never falls
pub record Finishes {S : Type 0} (shown : Shown S) (result : Status) (before now : S)
    (a : Answer) : Type 0 where
  pub ends : Ends result (shown.octets before) (shown.octets now) a
  pub written_only : IsWritten result
  pub counted : result ≡ status.WriteFault → HasRisen shown before now
  pub uncounted : KeepsWrites result (shown.faults before) (shown.faults now)
  pub never_falls : shown.faults before ≤ shown.faults now

-- if the input was read to its end, nothing is left
abbrev pub Drains : Status → Option (List ℕ) → Type 0
Drains status.Done left = left ≡ nothing_known left
Drains status.Findings left = left ≡ nothing_known left
Drains _ left = Unit {0}
