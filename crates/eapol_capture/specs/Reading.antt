-- A reader of a file's records: what it has still to answer, and what each of its steps takes.
use Rattle.std.specs.Prelude.{◌≡◌, ℕ, ◌+◌, ◌-◌, ◌≤◌, List, length, min, Bool, true, false, Option}
use Rattle.std.specs.Prelude.{Some, None, option_map}
use Rattle.octet_io.specs.Known.{prepend_known, nothing_known}
use Rattle.eapol_capture.specs.declared.order.OctetOrder.{OctetOrder}
use Rattle.eapol_capture.specs.declared.reader.NextRecord.{NextRecord}
use Rattle.eapol_capture.specs.declared.reader.NextRecord.TheVariants.{Record, End, CutFile}
use Rattle.eapol_capture.specs.declared.reader.NextRecord.TheVariants.{BadRecord, TooMuch, Read}
use Rattle.octet_io.specs.Lines.{max_input}
use Rattle.octet_io.specs.Shown.{Shown, HasRisen}
use Rattle.eapol_capture.specs.Files.{Contents, ends, record_of, from_header, all_records}

-- a reader: how many octets it has consumed, the octets that it has read ahead, the file's octet
-- order once it has read the header, what it has kept of the frame that it read last, the number of
-- the record last begun, and whether it is over
pub record Reading : Type 0 where
  pub taken : ℕ
  pub held : List ℕ
  pub order : Option OctetOrder
  pub frame : List ℕ
  pub number : ℕ
  pub over : Bool

-- what the octets that are left are, before and behind the header
abbrev pub contents_from : Option OctetOrder → ℕ → List ℕ → Contents
contents_from None room octets = from_header room octets
contents_from (Some order) room octets = all_records order room octets

-- the octets that are left, if the source shows what it has left
abbrev pub octets_left : Reading → Option (List ℕ) → Option (List ℕ)
octets_left reader left = prepend_known reader.held left

-- what is still to be answered
abbrev pub contents_left : Reading → Option (List ℕ) → Option Contents
contents_left reader left =
    option_map (contents_from reader.order (max_input - reader.taken)) (octets_left reader left)

-- how one answer divides what was to be answered: into a record and what follows it, or it is the
-- end, with so many records begun
abbrev pub Divides : NextRecord → ℕ → List ℕ → Option Contents → Option Contents → Type 0
Divides Record begun frame before after = before ≡ option_map (record_of frame) after
Divides Read begun frame before after = Unit {0}
Divides answer begun frame before after = before ≡ option_map (λ _. ends begun answer) after

-- whether octets, as the prefix of a file, leave open what the file is: a file of them alone is
-- whole, or cut
abbrev pub is_open : Contents → Bool
is_open (ends begun End) = true
is_open (ends begun CutFile) = true
is_open contents = false

-- a call that ends at a failed read: it has consumed a part of the octets that were left, all that
-- were buffered among them, and this part leaves open what the file is
pub record Undecided (before after : Reading) (was : Option (List ℕ)) : Type 0 where
  pub part : List ℕ
  pub behind : Option (List ℕ)
  pub octets : octets_left before was ≡ prepend_known part behind
  pub taken : after.taken ≡ before.taken + length part
  pub spent : length before.held ≤ length part
  pub undecided : is_open (contents_from before.order (max_input - before.taken) part) ≡ true

-- the answer Read comes only if the octets that were consumed don't give another
abbrev pub Waits : NextRecord → Reading → Reading → Option (List ℕ) → Type 0
Waits Read before after was = Undecided before after was
Waits answer before after was = Unit {0}

-- how many records an answer begins: those that it has read or that have a fault, and behind the
-- header one that is cut, or whose octet is the one past the limit
abbrev pub records_at : Option OctetOrder → ℕ
records_at None = 0
records_at (Some order) = 1

abbrev pub initiated_in : NextRecord → Option OctetOrder → ℕ
initiated_in Record order = 1
initiated_in BadRecord order = 1
initiated_in CutFile order = records_at order
initiated_in TooMuch order = records_at order
initiated_in answer order = 0

-- how one answer leads from a reader to the next
abbrev pub Answers : NextRecord → Reading → Reading → Option (List ℕ) → Option (List ℕ) → Type 0
Answers answer before after was left =
    Divides answer (initiated_in answer after.order) after.frame (contents_left before was)
    (contents_left after left)

-- where the next record begins, in octets: behind the header
abbrev pub header_left : Option OctetOrder → ℕ
header_left None = 24
header_left (Some order) = 0

abbrev pub records_start : Reading → ℕ
records_start reader = reader.taken + header_left reader.order

-- the records that an answer begins, the next one beginning at `start`: if a read fails, one of
-- which an octet was consumed
abbrev pub begun : NextRecord → ℕ → Reading → ℕ
begun Read start after = min 1 (after.taken - start)
begun answer start after = initiated_in answer after.order

-- each record takes at least 16 octets
abbrev pub ConsumesSome : NextRecord → ℕ → ℕ → Type 0
ConsumesSome Record before after = before + 16 ≤ after
ConsumesSome answer before after = before ≤ after

-- at the end nothing is left
abbrev pub Exhausts : NextRecord → Option (List ℕ) → Type 0
Exhausts End left = left ≡ nothing_known left
Exhausts answer left = Unit {0}

-- the answer Read comes only if the count of faults rose, or is at its last value; after any other
-- answer it is as it was
abbrev pub Faults : {S : Type 0} → Shown S → NextRecord → S → S → Type 0
Faults shown Read before after = HasRisen shown before after
Faults shown answer before after = shown.faults after ≡ shown.faults before

-- every answer but a record is the last one
abbrev pub is_last : NextRecord → Bool
is_last Record = false
is_last answer = true
