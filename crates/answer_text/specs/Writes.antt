-- What a write of a text does to a sink: all of it was written, or a fault came and a prefix of it
-- was.
use Rattle.std.specs.Prelude.{◌≡◌, ◌≤◌, ℕ, List, ◌++◌, Option, Result, Ok, Err, OnOk, OnErr}
use Rattle.octet_io.specs.Known.{append_known}
use Rattle.octet_io.specs.declared.source.Failed.{Failed}
use Rattle.octet_io.specs.Shown.{Shown, HasRisen}

-- a prefix of the text was written
pub record WritesFront (before after : Option (List ℕ)) (text : List ℕ) : Type 0 where
  pub front : List ℕ
  pub rest : List ℕ
  pub split : text ≡ front ++ rest
  pub appended : append_known before front ≡ after

-- the text was written, or only a prefix of it if the write failed
abbrev pub Writes : {A : Type 0} → Result A Failed → Option (List ℕ) → Option (List ℕ)
    → List ℕ → Type 0
Writes (Ok done) before after text = append_known before text ≡ after
Writes (Err fault) before after text = WritesFront before after text

-- by what a sink shows of itself: its octets, its count of faults, and the last value of that count
module _ {S : Type 0} (shown : Shown S) where
  -- what a writer does to a sink: the text was written, or a prefix of it; a write failed only if
  -- the count of faults rose, or is at its last value, and wherever it rose; that count never falls
  pub record Appended (result : Result (Unit {0}) Failed) (before after : S)
      (text : List ℕ) : Type 0 where
    pub writes : Writes result (shown.octets before) (shown.octets after) text
    pub counted : OnErr result (HasRisen shown before after)
    pub uncounted : OnOk result (shown.faults after ≡ shown.faults before)
    pub never_falls : shown.faults before ≤ shown.faults after

  -- the same in a word that a search takes whole
  unfoldable pub Appends : Result (Unit {0}) Failed → S → S → List ℕ → Type 0
  Appends result before after text = Appended result before after text

  -- what a writer of a part of a line does to a sink and to what is buffered of the line, which the
  -- text follows: a prefix of both was written, and the rest is buffered if no write failed
  pub record Put (result : Result (Unit {0}) Failed) (before after : S)
      (held now text : List ℕ) : Type 0 where
    pub front : List ℕ
    pub rest : List ℕ
    pub split : held ++ text ≡ front ++ rest
    pub appended : append_known (shown.octets before) front ≡ shown.octets after
    pub holds : OnOk result (now ≡ rest)
    pub counted : OnErr result (HasRisen shown before after)
    pub uncounted : OnOk result (shown.faults after ≡ shown.faults before)
    pub never_falls : shown.faults before ≤ shown.faults after

  unfoldable pub Puts : Result (Unit {0}) Failed → S → S → List ℕ → List ℕ → List ℕ → Type 0
  Puts result before after held now text = Put result before after held now text
