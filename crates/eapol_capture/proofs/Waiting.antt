-- Where a read fails, what was handed out decides nothing.
use Rattle.std.proofs.Common.{◌≡◌, ℕ, ◌+◌, ◌-◌, ◌<◌, ◌≤◌, true, List, [], ◌∷◌, ◌++◌, length, take}
use Rattle.std.proofs.Common.{drop, Option, Some, None, Result, Ok, Err, refl}
use Rattle.std.proofs.Common.{ap, sym, ◌∙◌, arith, length-append}
use Rattle.std.proofs.lemmas.List.{take_all}
use Rattle.octet_io.specs.Known.{prepend_known}
use Rattle.eapol_capture.specs.declared.order.OctetOrder.{OctetOrder}
use Rattle.eapol_capture.specs.declared.reader.NextRecord.{NextRecord}
use Rattle.eapol_capture.specs.declared.reader.NextRecord.TheVariants.{CutFile, Read}
use Rattle.octet_io.specs.Lines.{max_input}
use Rattle.eapol_capture.specs.Files.{number, order_of, order_or_fault, from_header, all_records}
use Rattle.eapol_capture.specs.Files.{max_frame, max_stored}
use Rattle.eapol_capture.specs.Reading.{Reading, octets_left, is_open, Waits}
use Rattle.eapol_capture.specs.Parts.{ConsumesPart, ConsumesAll, Stops, Frames, HasHeader, Heads}
use Rattle.eapol_capture.specs.Parts.{order_found, answer_of}
use Rattle.eapol_capture.proofs.RecordLaws.{cut_missing, no_records, stops_early, stops_late}
use Rattle.eapol_capture.proofs.PassDelivery.{prepend_append, prepend_nil}
use Rattle.eapol_capture.proofs.Dividing.{StartsAt, each_fault, header_is, size_front}

-- the header

header_open : (room : ℕ) (part : List ℕ) → length part < 24 → length part ≤ room
    → is_open (from_header room part) ≡ true
header_open room part few fits = rw (cut_missing 24 room part few fits) refl

pub header_waits : (answer : NextRecord) (before after : Reading) (was left : Option (List ℕ))
    → before.order ≡ None → before.taken ≤ max_input →
    after.taken ≤ max_input → Stops answer 24 before after was left → Waits answer before after was
header_waits Read before after was left none fits bounded stop = record {
  part = stop.part;
  behind = stop.behind;
  octets = stop.octets;
  taken = stop.taken;
  spent = stop.spent;
  undecided = rw none
      (header_open (max_input - before.taken) stop.part stop.few (omega (arith, stop.taken)));
}
header_waits _ before after was left none fits bounded stop = tt

pub header_heads : (found : Result OctetOrder NextRecord) (before mid after : Reading)
    (was left : Option (List ℕ)) → ConsumesAll 24 before mid was left →
    found ≡ order_or_fault mid.frame → after ≡ record mid { order = order_found found }
    → Heads found before after was left
header_heads (Ok order) before mid after was left all judged is =
    let part_is : mid.frame ≡ all.part =
    all.kept ∙ take_all max_stored all.part (omega (arith, all.all)) in
    let good : order_or_fault all.part ≡ Ok order = rw part_is at (sym judged) in
    let held : ConsumesPart all.part before (record mid { order = Some order }) was left =
    record { octets = all.hands.octets; taken = all.hands.taken; spent = all.hands.spent } in
    rw is (record { head = all.part; all = all.all; hands = held; judged = good; told = refl })
header_heads (Err answer) before mid after was left all judged is =
    each_fault (λ a. Waits a before after was) answer (order_of (take 4 mid.frame))
    mid.frame tt tt tt (sym judged)

-- behind a header that tells the octet order
pub waits_behind : (answer : NextRecord) (order : OctetOrder) (before mid after : Reading)
    (was left_mid : Option (List ℕ)) → before.order ≡ None →
    mid.taken ≤ max_input → HasHeader order before mid was left_mid
    → Waits answer mid after left_mid → Waits answer before after was
waits_behind Read order before mid after was left_mid none fits h w =
    let sizes = length-append h.head w.part in
    let room : max_input - before.taken - 24 ≡ max_input - mid.taken =
    omega (arith, h.all, h.hands.taken) in
    let same : from_header (max_input - before.taken) (h.head ++ w.part)
    ≡ all_records order (max_input - mid.taken) w.part =
    header_is (max_input - before.taken) h.head w.part h.all (omega (arith, h.all, h.hands.taken))
    ∙ rw (h.judged, room) refl in
    record {
      part = h.head ++ w.part;
      behind = w.behind;
      octets = h.hands.octets ∙ ap (prepend_known h.head) w.octets
          ∙ sym (prepend_append h.head w.part w.behind);
      taken = omega (arith, h.hands.taken, w.taken, sizes);
      spent = omega (arith, h.hands.spent, w.spent, sizes);
      undecided = rw (none, same) (rw h.told at w.undecided);
    }
waits_behind _ order before mid after was left_mid none fits h w = tt

-- a record

-- a look for the first octet that fails
pub look_waits : (answer : NextRecord) (before after : Reading) (was : Option (List ℕ))
    (order : OctetOrder) → before.order ≡ Some order →
    after.taken ≡ before.taken → before.held ≡ [] → Waits answer before after was
look_waits Read before after was order known taken none = record {
  part = [];
  behind = octets_left before was;
  octets = sym (prepend_nil (octets_left before was));
  taken = omega (arith, taken);
  spent = omega (arith, ap length none);
  undecided = rw (known, no_records order (max_input - before.taken)) refl;
}
look_waits _ before after was order known taken none = tt

length_open : (order : OctetOrder) (room : ℕ) (part : List ℕ) → length part < 12
    → length part ≤ room → is_open (all_records order room part) ≡ true
length_open order room [] few fits = rw (no_records order room) refl
length_open order room (x ∷ rest) few fits =
    rw (stops_early order room (x ∷ rest) CutFile (omega arith)
    (cut_missing 12 room (x ∷ rest) few fits)) refl

pub length_waits : (answer : NextRecord) (before mid after : Reading)
    (was left_mid left : Option (List ℕ)) (order : OctetOrder) →
    before.order ≡ Some order → before.taken ≤ max_input → after.taken ≤ max_input
    → octets_left before was ≡ octets_left mid left_mid →
    mid.taken ≡ before.taken → length before.held ≤ length mid.held
    → Stops answer 12 mid after left_mid left → Waits answer before after was
length_waits Read before mid after was left_mid left order known fits bounded looked taken held
    stop = record {
      part = stop.part;
      behind = stop.behind;
      octets = looked ∙ stop.octets;
      taken = omega (arith, stop.taken, taken);
      spent = omega (arith, held, stop.spent);
      undecided = rw known (length_open order (max_input - before.taken) stop.part stop.few
          (omega (arith, stop.taken, taken)));
    }
length_waits _ before mid after was left_mid left order known fits bounded looked taken held stop =
    tt

frame_open : (order : OctetOrder) (room size : ℕ) (head part : List ℕ) → length head ≡ 12
    → size ≡ number order (take 4 (drop 8 head)) → size ≤ max_frame →
    length part < 4 + size → 12 + length part ≤ room
    → is_open (all_records order room (head ++ part)) ≡ true
frame_open order room size head part twelve is short few fits =
    let sizes = length-append head part in
    let cut = cut_missing (16 + size) room (head ++ part) (omega (arith, sizes, few))
    (omega (arith, sizes)) in
    let size_is : size ≡ number order (take 4 (drop 8 (head ++ part))) =
    is ∙ sym (size_front order head part twelve) in
    rw (stops_late order room (head ++ part) size CutFile size_is (omega arith)
    (omega (arith, sizes)) short cut) refl

pub frame_waits : {A : Type 0} (result : Result A NextRecord) (order : OctetOrder) (size : ℕ)
    (before mid after : Reading) (was left_mid left : Option (List ℕ))
    → StartsAt order size before mid was left_mid → size ≤ max_frame → after.taken ≤ max_input →
    Frames result size mid after left_mid left → Waits (answer_of result) before after was
frame_waits (Err Read) order size before mid after was left_mid left b short bounded stop =
    let sizes = length-append b.head stop.part in
    record {
      part = b.head ++ stop.part;
      behind = stop.behind;
      octets = b.hands.octets ∙ ap (prepend_known b.head) stop.octets
          ∙ sym (prepend_append b.head stop.part stop.behind);
      taken = omega (arith, b.hands.taken, stop.taken, sizes);
      spent = omega (arith, b.hands.spent, stop.spent, sizes);
      undecided =
          rw b.known (frame_open order (max_input - before.taken)
          size b.head stop.part b.twelve b.size_is short stop.few
          (omega (arith, b.hands.taken, b.twelve, stop.taken)));
    }
frame_waits (Err _) order size before mid after was left_mid left b short bounded stop = tt
frame_waits (Ok value) order size before mid after was left_mid left b short bounded f = tt

-- what numbers the record that was begun changes nothing of it
pub waits_settled : (answer : NextRecord) (before mid after : Reading) (was : Option (List ℕ))
    → after.taken ≡ mid.taken → Waits answer before mid was →
    Waits answer before after was
waits_settled Read before mid after was same w = record {
  part = w.part;
  behind = w.behind;
  octets = w.octets;
  taken = same ∙ w.taken;
  spent = w.spent;
  undecided = w.undecided;
}
waits_settled _ before mid after was same w = tt
