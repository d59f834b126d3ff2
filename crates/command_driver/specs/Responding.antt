-- What a call does that answers: an input that it reads, or, if it reads nothing, the words alone.
use Rattle.std.specs.Prelude.{◌≡◌, ◌≢◌, ℕ, List, Bool, true, Option, Some}
use Rattle.octet_io.specs.Shown.{Shown, HasRisen}
use Rattle.command_driver.specs.Answers.{Answer, Ends, Drains, KeepsReads, KeepsWrites}
use Rattle.command_driver.specs.declared.status.Status.{Status}
use Rattle.command_driver.specs.declared.status.Status.TheVariants as status

-- whether memory may be wanting: never; only at an input that a test holds of; at any
pub data Lacking : Type 0 where
  never : Lacking
  only_at : (List ℕ → Bool) → Lacking
  at_any : Lacking

abbrev pub MayLack : Lacking → Option (List ℕ) → Type 0
MayLack never left = ⊥
MayLack (only_at test) left = (octets : List ℕ) → left ≡ Some octets → test octets ≡ true
MayLack at_any left = Unit {0}

-- what is answered: the octets of an input, or nothing that is read
pub data Asked : Type 0 where
  reading : (List ℕ → Answer) → Lacking → Asked
  unread : Answer → Lacking → Asked

-- the answer, if the input's octets are these
abbrev pub answer_to : Asked → List ℕ → Answer
answer_to (reading answer lacking) octets = answer octets
answer_to (unread a lacking) octets = a

abbrev pub lacking_of : Asked → Lacking
lacking_of (reading answer lacking) = lacking
lacking_of (unread a lacking) = lacking

-- by what a sink shows of itself: an answer was given that reads nothing from a source
pub record IsAnswered {W : Type 0} (sink : Shown W) (a : Answer) (lacking : Lacking)
    (result : Status) (old new : W) : Type 0 where
  pub ends : Ends result (sink.octets old) (sink.octets new) a
  pub no_read_fault : result ≢ status.ReadFault
  pub write_fault : result ≡ status.WriteFault → HasRisen sink old new
  pub writes : KeepsWrites result (sink.faults old) (sink.faults new)
  pub memory : result ≡ status.Memory → (left : Option (List ℕ)) → MayLack lacking left

-- by what a source and a sink show of themselves: what is left and what was written, the counts of
-- faults, and the last values of those counts
module _ {S W : Type 0} (source : Shown S) (sink : Shown W) where
  -- an input was read and answered
  pub record Reads (answer : List ℕ → Answer) (lacking : Lacking) (result : Status) (before now : S)
      (old new : W) : Type 0 where
    -- with status 0, 1, 2, 6 or 7 the whole text was written and the status is that of the answer;
    -- with 3, 4 or 5 a prefix of the text was
    pub ends : (octets : List ℕ) → source.octets before ≡ Some octets
        → Ends result (sink.octets old) (sink.octets new) (answer octets)
    -- with status 0 or 7 nothing is left to read
    pub drains : Drains result (source.octets now)
    -- a fault is answered only if its count rose, or is at its last value, and wherever it rose
    pub read_fault : result ≡ status.ReadFault → HasRisen source before now
    pub write_fault : result ≡ status.WriteFault → HasRisen sink old new
    pub reads : KeepsReads result (source.faults before) (source.faults now)
    pub writes : KeepsWrites result (sink.faults old) (sink.faults new)
    pub memory : result ≡ status.Memory → MayLack lacking (source.octets before)

  -- an answer was given, and the source is as it was
  pub record Rests (a : Answer) (lacking : Lacking) (result : Status) (before now : S)
      (old new : W) : Type 0 where
    pub says : IsAnswered sink a lacking result old new
    pub untouched : now ≡ before

  -- either
  abbrev pub Responds : Asked → Status → S → S → W → W → Type 0
  Responds (reading answer lacking) result before now old new =
      Reads answer lacking result before now old new
  Responds (unread a lacking) result before now old new = Rests a lacking result before now old new
