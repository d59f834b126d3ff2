-- The parts that a reader of records reads: so many octets, or what keeps it from them.
use Rattle.std.specs.Prelude.{◌≡◌, ℕ, ◌+◌, ◌<◌, ◌≤◌, List, [], ◌++◌, length, take, Option, Some}
use Rattle.std.specs.Prelude.{None, option_map, Result, Ok, Err}
use Rattle.octet_io.specs.Known.{prepend_known, nothing_known}
use Rattle.eapol_capture.specs.declared.order.OctetOrder.{OctetOrder}
use Rattle.eapol_capture.specs.declared.reader.NextRecord.{NextRecord}
use Rattle.eapol_capture.specs.declared.reader.NextRecord.TheVariants.{Record, End, CutFile}
use Rattle.eapol_capture.specs.declared.reader.NextRecord.TheVariants.{BadRecord, TooMuch, Read}
use Rattle.octet_io.specs.Lines.{max_input}
use Rattle.eapol_capture.specs.Files.{Contents, ends, order_or_fault, max_stored}
use Rattle.eapol_capture.specs.Reading.{Reading, octets_left, Waits}

-- the answer that a step leads to, if it goes on to a record or stops
abbrev pub answer_of : {A : Type 0} → Result A NextRecord → NextRecord
answer_of (Ok value) = Record
answer_of (Err answer) = answer

-- the octet order that a header gives
abbrev pub order_found : Result OctetOrder NextRecord → Option OctetOrder
order_found (Ok order) = Some order
order_found (Err answer) = None

-- what no part changes
pub record Preserves (before after : Reading) : Type 0 where
  pub order : after.order ≡ before.order
  pub number : after.number ≡ before.number
  pub over : after.over ≡ before.over

-- these octets were consumed
pub record ConsumesPart (part : List ℕ) (before after : Reading)
    (was left : Option (List ℕ)) : Type 0 where
  pub octets : octets_left before was ≡ prepend_known part (octets_left after left)
  pub taken : after.taken ≡ before.taken + length part
  pub spent : length before.held ≤ length part + length after.held

-- so many octets were consumed, and a prefix of them was stored
pub record ConsumesAll (count : ℕ) (before after : Reading)
    (was left : Option (List ℕ)) : Type 0 where
  pub part : List ℕ
  pub all : length part ≡ count
  pub hands : ConsumesPart part before after was left
  pub kept : after.frame ≡ take max_stored part

-- the file ended before
pub record IsCut (count : ℕ) (before after : Reading) (was left : Option (List ℕ)) : Type 0 where
  pub part : List ℕ
  pub few : length part < count
  pub hands : ConsumesPart part before after was left
  pub none_pending : after.held ≡ []
  pub none_left : left ≡ nothing_known left

-- the octet past the limit came before
pub record IsPast (count : ℕ) (before after : Reading) (was left : Option (List ℕ)) : Type 0 where
  pub part : List ℕ
  pub few : length part < count
  pub hands : ConsumesPart part before after was left
  pub more : 0 < length after.held
  pub full : max_input ≤ after.taken

-- a read failed before, when no octet was buffered
pub record IsStuck (count : ℕ) (before after : Reading) (was : Option (List ℕ)) : Type 0 where
  pub part : List ℕ
  pub few : length part < count
  pub behind : Option (List ℕ)
  pub octets : octets_left before was ≡ prepend_known part behind
  pub taken : after.taken ≡ before.taken + length part
  pub spent : length before.held ≤ length part

-- what keeps a reader from so many octets
abbrev pub Stops : NextRecord → ℕ → Reading → Reading → Option (List ℕ) → Option (List ℕ) → Type 0
Stops CutFile count before after was left = IsCut count before after was left
Stops TooMuch count before after was left = IsPast count before after was left
Stops Read count before after was left = IsStuck count before after was
Stops answer count before after was left = ⊥

-- the result of reading so many octets
abbrev pub Parts : {A : Type 0} → Result A NextRecord → ℕ → Reading → Reading → Option (List ℕ)
    → Option (List ℕ) → Type 0
Parts (Ok value) count before after was left = ConsumesAll count before after was left
Parts (Err answer) count before after was left = Stops answer count before after was left

-- a frame of so many octets, behind its length before it was cut
pub record HasFrame (size : ℕ) (before after : Reading) (was left : Option (List ℕ)) : Type 0 where
  pub first_length : List ℕ
  pub four : length first_length ≡ 4
  pub frame : List ℕ
  pub all : length frame ≡ size
  pub hands : ConsumesPart (first_length ++ frame) before after was left
  pub kept : after.frame ≡ take max_stored frame

-- the result of reading such a frame
abbrev pub Frames : {A : Type 0} → Result A NextRecord → ℕ → Reading → Reading → Option (List ℕ)
    → Option (List ℕ) → Type 0
Frames (Ok value) size before after was left = HasFrame size before after was left
Frames (Err answer) size before after was left = Stops answer (4 + size) before after was left

-- a header that isn't there, or has a fault, ends what was to be answered
abbrev pub Fails : NextRecord → Option Contents → Option Contents → Type 0
Fails Read before after = Unit {0}
Fails Record before after = ⊥
Fails End before after = ⊥
Fails BadRecord before after = ⊥
Fails answer before after = before ≡ option_map (λ _. ends 0 answer) after

-- what was to be answered before a header, and what is after it: the same, or its fault
abbrev pub Opens : Result OctetOrder NextRecord → Option Contents → Option Contents → Type 0
Opens (Ok order) before after = before ≡ after
Opens (Err answer) before after = Fails answer before after

-- a header that gives this octet order
pub record HasHeader (order : OctetOrder) (before after : Reading)
    (was left : Option (List ℕ)) : Type 0 where
  pub head : List ℕ
  pub all : length head ≡ 24
  pub hands : ConsumesPart head before after was left
  pub judged : order_or_fault head ≡ Ok order
  pub told : after.order ≡ Some order

-- the result of reading a header
abbrev pub Heads : Result OctetOrder NextRecord → Reading → Reading → Option (List ℕ)
    → Option (List ℕ) → Type 0
Heads (Ok order) before after was left = HasHeader order before after was left
Heads (Err answer) before after was left = Waits answer before after was
