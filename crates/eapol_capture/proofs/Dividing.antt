-- How an answer divides what was to be answered.
use Rattle.std.proofs.Common.{◌≡◌, ℕ, ◌+◌, ◌-◌, ◌<◌, ◌≤◌, not, eqb, List, [], ◌++◌, length, take}
use Rattle.std.proofs.Common.{drop, Option, Some, None, option_map, Result, Ok, Err, refl}
use Rattle.std.proofs.Common.{ap, subst, sym, ◌∙◌, inl, inr, arith, append-nil, append_assoc}
use Rattle.std.proofs.Common.{length-append}
use Rattle.std.proofs.lemmas.Bool.{cases_Bool}
use Rattle.std.proofs.lemmas.List.{take_all, take_at, drop_at, take-append-le, drop-append-le}
use Rattle.std.proofs.lemmas.List.{length-drop}
use Rattle.octet_io.specs.Known.{prepend_known, nothing_known}
use Rattle.eapol_capture.specs.declared.order.OctetOrder.{OctetOrder}
use Rattle.eapol_capture.specs.declared.reader.NextRecord.{NextRecord}
use Rattle.eapol_capture.specs.declared.reader.NextRecord.TheVariants.{Record, End, CutFile}
use Rattle.eapol_capture.specs.declared.reader.NextRecord.TheVariants.{BadMagic, BadVersion}
use Rattle.eapol_capture.specs.declared.reader.NextRecord.TheVariants.{BadLink, BadRecord, TooMuch}
use Rattle.eapol_capture.specs.declared.reader.NextRecord.TheVariants.{Read}
use Rattle.eapol_capture.specs.Files.{Contents, ends, record_of, number, order_of, is_version}
use Rattle.eapol_capture.specs.Files.{faults_in, order_or_fault, behind, missing, from_header}
use Rattle.octet_io.specs.Lines.{max_input}
use Rattle.eapol_capture.specs.Files.{max_frame, max_stored}
use Rattle.eapol_capture.specs.Reading.{Reading, octets_left, contents_from, contents_left, Divides}
use Rattle.eapol_capture.specs.Reading.{Answers, initiated_in, ConsumesSome, Exhausts}
use Rattle.eapol_capture.specs.Parts.{ConsumesPart, ConsumesAll, HasFrame, IsCut, IsPast, Stops}
use Rattle.eapol_capture.specs.Parts.{Parts, Frames, Fails, Opens, order_found, answer_of}
use Rattle.eapol_capture.proofs.RecordLaws.{none_missing, cut_missing, past_missing, no_records}
use Rattle.eapol_capture.proofs.RecordLaws.{stops_early, stops_late, bad_record, one_record}
use Rattle.eapol_capture.proofs.PassDelivery.{passes_more, prepend_append}

-- one function of the octets that are left, and another of those behind a part of them
mapped : (f g : List ℕ → Contents) (h : Contents → Contents) (part : List ℕ)
    (was left : Option (List ℕ)) → was ≡ prepend_known part left →
    ((rest : List ℕ) → left ≡ Some rest → f (part ++ rest) ≡ h (g rest))
    → option_map f was ≡ option_map h (option_map g left)
mapped f g h part was None is same = ap (option_map f) is
mapped f g h part was (Some rest) is same = ap (option_map f) is ∙ ap Some (same rest refl)

opened : (f g : List ℕ → Contents) (part : List ℕ) (was left : Option (List ℕ))
    → was ≡ prepend_known part left →
    ((rest : List ℕ) → left ≡ Some rest → f (part ++ rest) ≡ g rest)
    → option_map f was ≡ option_map g left
opened f g part was None is same = ap (option_map f) is
opened f g part was (Some rest) is same = ap (option_map f) is ∙ ap Some (same rest refl)

-- octets behind those that are held
held_first : (held : List ℕ) (left : Option (List ℕ)) (octets : List ℕ)
    → prepend_known held left ≡ Some octets → length held ≤ length octets
held_first held None octets is = absurd cc
held_first held (Some rest) octets is =
    let joined : held ++ rest ≡ octets = cc in
    omega (arith, length-append held rest, ap length joined)

none_behind : (held : List ℕ) (left : Option (List ℕ)) (octets : List ℕ) → held ≡ []
    → left ≡ nothing_known left → prepend_known held left ≡ Some octets →
    octets ≡ []
none_behind held None octets none nothing is = absurd cc
none_behind held (Some rest) octets none nothing is =
    let empty : rest ≡ [] = cc in
    let joined : held ++ rest ≡ octets = cc in
    sym joined ∙ rw (none, empty) refl

cut_is_missing : (count : ℕ) (before after : Reading) (was left : Option (List ℕ))
    → before.taken ≤ max_input → after.taken ≤ max_input →
    (cut : IsCut count before after was left) → (rest : List ℕ)
    → octets_left after left ≡ Some rest →
    missing count (max_input - before.taken) (cut.part ++ rest) ≡ Some CutFile
cut_is_missing count before after was left fits bounded cut rest is =
    let none : rest ≡ [] = none_behind after.held left rest cut.none_pending cut.none_left is in
    let size : length (cut.part ++ rest) ≡ length cut.part = rw (none, append-nil cut.part) refl in
    cut_missing count (max_input - before.taken) (cut.part ++ rest) (omega (arith, size, cut.few))
    (omega (arith, size, cut.hands.taken))

past_is_missing : (count : ℕ) (before after : Reading) (was left : Option (List ℕ))
    → before.taken ≤ max_input → after.taken ≤ max_input →
    (past : IsPast count before after was left) → (rest : List ℕ)
    → octets_left after left ≡ Some rest →
    missing count (max_input - before.taken) (past.part ++ rest) ≡ Some TooMuch
past_is_missing count before after was left fits bounded past rest is =
    let more : length after.held ≤ length rest = held_first after.held left rest is in
    let size = length-append past.part rest in
    past_missing count (max_input - before.taken) (past.part ++ rest)
    (omega (arith, past.few, past.hands.taken, past.full))
    (omega (arith, size, past.more, past.hands.taken))

-- a part that isn't there ends what was to be answered
abbrev pub Missed : NextRecord → ℕ → Option Contents → Option Contents → Type 0
Missed CutFile begun before after = before ≡ option_map (λ _. ends begun CutFile) after
Missed TooMuch begun before after = before ≡ option_map (λ _. ends begun TooMuch) after
Missed Read begun before after = Unit {0}
Missed answer begun before after = ⊥

stopped : (count begun : ℕ) (f g : List ℕ → Contents) (before after : Reading)
    (was left : Option (List ℕ)) (answer : NextRecord) → before.taken ≤ max_input →
    after.taken ≤ max_input →
    ((octets : List ℕ) → octets_left before was ≡ Some octets → missing count (max_input
    - before.taken) octets ≡ Some answer → f octets ≡ ends begun answer) →
    Stops answer count before after was left → Missed answer begun (option_map f
    (octets_left before was)) (option_map g (octets_left after left))
stopped count begun f g before after was left Read fits bounded same stop = tt
stopped count begun f g before after was left CutFile fits bounded same stop =
    mapped f g (λ _. ends begun CutFile) stop.part (octets_left before was) (octets_left after left)
    stop.hands.octets (λ rest is.
    same (stop.part ++ rest) (stop.hands.octets ∙ ap (prepend_known stop.part) is)
    (cut_is_missing count before after was left fits bounded stop rest is))
stopped count begun f g before after was left TooMuch fits bounded same stop =
    mapped f g (λ _. ends begun TooMuch) stop.part (octets_left before was) (octets_left after left)
    stop.hands.octets (λ rest is.
    same (stop.part ++ rest) (stop.hands.octets ∙ ap (prepend_known stop.part) is)
    (past_is_missing count before after was left fits bounded stop rest is))
stopped count begun f g before after was left _ fits bounded same stop = absurd stop

-- in the header no record is begun, behind it one is
missed_fails : (answer : NextRecord) (before after : Option Contents) → Missed answer 0 before after
    → Fails answer before after
missed_fails CutFile before after missed = missed
missed_fails TooMuch before after missed = missed
missed_fails Read before after missed = tt
missed_fails _ before after missed = absurd missed

missed_divides : (answer : NextRecord) (order : OctetOrder) (told : Option OctetOrder)
    (frame : List ℕ) (before after : Option Contents) →
    told ≡ Some order → Missed answer 1 before after
    → Divides answer (initiated_in answer told) frame before after
missed_divides CutFile order told frame before after is missed = rw is missed
missed_divides TooMuch order told frame before after is missed = rw is missed
missed_divides Read order told frame before after is missed = tt
missed_divides _ order told frame before after is missed = absurd missed

-- a header that isn't there or has a fault, as a division
pub fails_divides : (answer : NextRecord) (told : Option OctetOrder) (frame : List ℕ)
    (before after : Option Contents) → told ≡ None →
    Fails answer before after → Divides answer (initiated_in answer told) frame before after
fails_divides Read told frame before after none fails = tt
fails_divides Record told frame before after none fails = absurd fails
fails_divides End told frame before after none fails = absurd fails
fails_divides BadRecord told frame before after none fails = absurd fails
fails_divides CutFile told frame before after none fails = rw none fails
fails_divides BadMagic told frame before after none fails = fails
fails_divides BadVersion told frame before after none fails = fails
fails_divides BadLink told frame before after none fails = fails
fails_divides TooMuch told frame before after none fails = rw none fails

pub fails_takes : (answer : NextRecord) (before after : Option Contents) (taken now : ℕ)
    → Fails answer before after → taken ≤ now → ConsumesSome answer taken now
fails_takes Record before after taken now fails grows = absurd fails
fails_takes End before after taken now fails grows = absurd fails
fails_takes BadRecord before after taken now fails grows = absurd fails
fails_takes _ before after taken now fails grows = grows

pub fails_exhausts : (answer : NextRecord) (before after : Option Contents) (left : Option (List ℕ))
    → Fails answer before after → Exhausts answer left
fails_exhausts End before after left fails = absurd fails
fails_exhausts _ before after left fails = tt

-- the header

header_octets : (before after : Reading) (was left : Option (List ℕ))
    (all : ConsumesAll 24 before after was left) → after.frame ≡ all.part
header_octets before after was left all =
    all.kept ∙ take_all max_stored all.part (omega (arith, all.all))

pub header_is : (room : ℕ) (part rest : List ℕ) → length part ≡ 24 → 24 ≤ room
    → from_header room (part ++ rest) ≡ behind (order_or_fault part) (room - 24) rest
header_is room part rest all fits =
    let none = none_missing 24 room (part ++ rest) fits (omega (arith, length-append part rest)) in
    let front = take_at part rest 24 all in
    let back = drop_at part rest 24 all in
    rw (none, front, back) refl

pub header_stops : (before after : Reading) (was left : Option (List ℕ)) (answer : NextRecord)
    → before.order ≡ None → before.taken ≤ max_input →
    after.taken ≤ max_input → Stops answer 24 before after was left
    → Fails answer (contents_left before was) (contents_left after left)
header_stops before after was left answer none fits bounded stop =
    missed_fails answer (contents_left before was) (contents_left after left)
    (stopped 24 0 (contents_from before.order (max_input - before.taken)) (contents_from after.order
    (max_input - after.taken)) before after was left answer fits
    bounded (λ octets is lacks. rw none (rw lacks refl)) stop)

-- what holds of each fault in a header
pub each_fault : (P : NextRecord → Type 0) (answer : NextRecord) (found : Option OctetOrder)
    (header : List ℕ) → P BadMagic → P BadVersion → P BadLink →
    faults_in found header ≡ Err answer → P answer
each_fault P answer None header magic version link is =
    let bad : BadMagic ≡ answer = cc in
    subst P bad magic
each_fault P answer (Some order) header magic version link is =
    elim (cases_Bool (not (is_version order (take 4 (drop 4 header))))) [
      | inl e ↦
          let bad : BadVersion ≡ answer = let found = rw e at is in cc in
          subst P bad version
      | inr e ↦
          elim (cases_Bool (not (eqb (number order (drop 20 header)) 1))) [
            | inl f ↦
                let bad : BadLink ≡ answer = let found = rw (e, f) at is in cc in
                subst P bad link
            | inr f ↦ let found = rw (e, f) at is in absurd cc
          ]
    ]

header_faults : (before mid : Reading) (was left : Option (List ℕ)) (answer : NextRecord)
    (g : List ℕ → Contents) → before.order ≡ None →
    before.taken ≤ max_input → mid.taken ≤ max_input → ConsumesAll 24 before mid was left
    → order_or_fault mid.frame ≡ Err answer →
    Fails answer (contents_left before was) (option_map g (octets_left mid left))
header_faults before mid was left answer g none fits bounded all fault =
    let part_is = header_octets before mid was left all in
    let faulty : order_or_fault all.part ≡ Err answer = rw part_is at fault in
    let same =
    mapped (contents_from before.order (max_input - before.taken)) g (λ _. ends 0 answer) all.part
    (octets_left before was) (octets_left mid left) all.hands.octets
    (λ rest is. rw none (header_is (max_input - before.taken) all.part rest all.all (omega
    (arith, all.all, all.hands.taken)) ∙ rw faulty refl)) in
    each_fault (λ a. contents_left before was
    ≡ option_map (λ _. ends 0 a) (option_map g (octets_left mid left)) →
    Fails a (contents_left before was) (option_map g (octets_left mid left))) answer
    (order_of (take 4 mid.frame)) mid.frame (λ e. e) (λ e. e) (λ e. e) fault same

header_opens : (before mid : Reading) (was left : Option (List ℕ)) (order : OctetOrder)
    → before.order ≡ None → before.taken ≤ max_input →
    mid.taken ≤ max_input → ConsumesAll 24 before mid was left
    → order_or_fault mid.frame ≡ Ok order →
    contents_left before was ≡ contents_left (record mid { order = Some order }) left
header_opens before mid was left order none fits bounded all good =
    let part_is = header_octets before mid was left all in
    let found : order_or_fault all.part ≡ Ok order = rw part_is at good in
    let room : max_input - before.taken - 24 ≡ max_input - mid.taken =
    omega (arith, all.all, all.hands.taken) in
    opened (contents_from before.order (max_input - before.taken))
    (contents_from (Some order) (max_input - mid.taken)) all.part (octets_left before was)
    (octets_left mid left) all.hands.octets
    (λ rest e. rw none (header_is (max_input - before.taken) all.part rest all.all (omega
    (arith, all.all, all.hands.taken)) ∙ rw (found, room) refl))

pub header_judged : (found : Result OctetOrder NextRecord) (before mid after : Reading)
    (was left : Option (List ℕ)) → before.order ≡ None →
    before.taken ≤ max_input → mid.taken ≤ max_input → ConsumesAll 24 before mid was left
    → found ≡ order_or_fault mid.frame →
    after ≡ record mid { order = order_found found }
    → Opens found (contents_left before was) (contents_left after left)
header_judged (Ok order) before mid after was left none fits bounded all judged is =
    rw is (header_opens before mid was left order none fits bounded all (sym judged))
header_judged (Err answer) before mid after was left none fits bounded all judged is =
    rw is (header_faults before mid was left answer (contents_from None (max_input - mid.taken))
    none fits bounded all (sym judged))

-- a record

pub records_end : (before after : Reading) (was left : Option (List ℕ)) (order : OctetOrder)
    → before.order ≡ Some order →
    octets_left before was ≡ octets_left after left → after.held ≡ [] → left ≡ nothing_known left →
    Answers End before after was left
records_end before after was left order known same none nothing =
    let room = max_input - before.taken in
    let nothing_more : (rest : List ℕ) → octets_left after left ≡ Some rest
    → contents_from before.order room rest ≡ ends 0 End =
    λ rest is. rw (known, none_behind after.held left rest none nothing is)
    (no_records order room) in
    ap (option_map (contents_from before.order room)) same
    ∙ ended (octets_left after left) nothing_more
  where
    ended : (known_left : Option (List ℕ)) →
        ((rest : List ℕ) → known_left ≡ Some rest
        → contents_from before.order (max_input - before.taken) rest ≡ ends 0 End) →
        option_map (contents_from before.order (max_input - before.taken)) known_left ≡
        option_map (λ _. ends 0 End)
        (option_map (contents_from after.order (max_input - after.taken)) known_left)
    ended None all = refl
    ended (Some rest) all = ap Some (all rest refl)

-- octets of a record before its frame's length, the length among them
pub size_front : (order : OctetOrder) (part rest : List ℕ) → length part ≡ 12 →
    number order (take 4 (drop 8 (part ++ rest))) ≡ number order (take 4 (drop 8 part))
size_front order part rest all =
    let back : drop 8 (part ++ rest) ≡ drop 8 part ++ rest =
    drop-append-le 8 part rest (omega arith) in
    let front : take 4 (drop 8 part ++ rest) ≡ take 4 (drop 8 part) =
    take-append-le 4 (drop 8 part) rest (omega (arith, length-drop 8 part)) in
    rw (back, front) refl

pub length_stops : (before mid after : Reading) (was left_mid left : Option (List ℕ))
    (order : OctetOrder) (answer : NextRecord) → before.order ≡ Some order →
    before.taken ≤ max_input → after.taken ≤ max_input → octets_left before was
    ≡ octets_left mid left_mid → mid.taken ≡ before.taken → 0 < length mid.held →
    after.order ≡ Some order → Stops answer 12 mid after left_mid left →
    Answers answer before after was left
length_stops before mid after was left_mid left order answer known fits bounded same taken
    some told stop =
    let first =
    stopped 12 1 (contents_from before.order (max_input - before.taken))
    (contents_from after.order (max_input - after.taken)) mid after left_mid left answer
    (omega (arith, taken)) bounded
    (λ octets is lacks.
    let there : 0 < length octets = omega (arith, held_first mid.held left_mid octets is) in
    rw known (stops_early order (max_input - before.taken) octets answer there (rw taken at lacks)))
    stop in
    missed_divides answer order after.order after.frame (contents_left before was)
    (contents_left after left) told (rw same first)

-- what keeps a reader from a part behind another one
pub stops_behind : (answer : NextRecord) (part : List ℕ) (count most : ℕ)
    (before mid after : Reading) (was left_mid left : Option (List ℕ)) →
    ConsumesPart part before mid was left_mid → length part + count ≤ most
    → Stops answer count mid after left_mid left → Stops answer most before after was left
stops_behind Read part count most before mid after was left_mid left h fits stop = record {
  part = part ++ stop.part;
  few = omega (arith, stop.few, length-append part stop.part);
  behind = stop.behind;
  octets = h.octets ∙ ap (prepend_known part) stop.octets
      ∙ sym (prepend_append part stop.part stop.behind);
  taken = omega (arith, h.taken, stop.taken, length-append part stop.part);
  spent = omega (arith, h.spent, stop.spent, length-append part stop.part);
}
stops_behind CutFile part count most before mid after was left_mid left h fits stop = record {
  part = part ++ stop.part;
  few = omega (arith, stop.few, length-append part stop.part);
  hands = passes_more part stop.part before mid after was left_mid left h stop.hands;
  none_pending = stop.none_pending;
  none_left = stop.none_left;
}
stops_behind TooMuch part count most before mid after was left_mid left h fits stop = record {
  part = part ++ stop.part;
  few = omega (arith, stop.few, length-append part stop.part);
  hands = passes_more part stop.part before mid after was left_mid left h stop.hands;
  more = stop.more;
  full = stop.full;
}
stops_behind _ part count most before mid after was left_mid left h fits stop = absurd stop

pub stops_more : (answer : NextRecord) (count most : ℕ) (before after : Reading)
    (was left : Option (List ℕ)) → count ≤ most →
    Stops answer count before after was left → Stops answer most before after was left
stops_more Read count most before after was left fits stop = record {
  part = stop.part;
  few = omega (arith, stop.few);
  behind = stop.behind;
  octets = stop.octets;
  taken = stop.taken;
  spent = stop.spent;
}
stops_more CutFile count most before after was left fits stop =
    record {
      part = stop.part;
      few = omega (arith, stop.few);
      hands = stop.hands;
      none_pending = stop.none_pending;
      none_left = stop.none_left;
    }
stops_more TooMuch count most before after was left fits stop =
    record {
      part = stop.part;
      few = omega (arith, stop.few);
      hands = stop.hands;
      more = stop.more;
      full = stop.full;
    }
stops_more _ count most before after was left fits stop = absurd stop

pub stops_take : (answer : NextRecord) (count : ℕ) (before after : Reading)
    (was left : Option (List ℕ)) {taken now : ℕ} →
    Stops answer count before after was left → taken ≤ now → ConsumesSome answer taken now
stops_take Record count before after was left stop grows = absurd stop
stops_take _ count before after was left stop grows = grows

-- the length of a frame before it was cut, and the frame
pub two_parts : {A : Type 0} (result : Result A NextRecord) (size : ℕ) (before mid after : Reading)
    (was left_mid left : Option (List ℕ)) →
    ConsumesAll 4 before mid was left_mid → Parts result size mid after left_mid left
    → Frames result size before after was left
two_parts (Ok value) size before mid after was left_mid left four all = record {
  first_length = four.part;
  four = four.all;
  frame = all.part;
  all = all.all;
  hands = passes_more four.part all.part before mid after was left_mid left four.hands all.hands;
  kept = all.kept;
}
two_parts (Err answer) size before mid after was left_mid left four stop =
    stops_behind answer four.part size (4 + size) before mid after was left_mid left four.hands
    (omega (arith, four.all)) stop

-- a record that is begun: the octets up to its frame's length
pub record StartsAt (order : OctetOrder) (size : ℕ) (before after : Reading)
    (was left : Option (List ℕ)) : Type 0 where
  pub known : before.order ≡ Some order
  pub head : List ℕ
  pub twelve : length head ≡ 12
  pub hands : ConsumesPart head before after was left
  pub size_is : size ≡ number order (take 4 (drop 8 head))
  pub fits : after.taken ≤ max_input

pub begins : (order : OctetOrder) (size : ℕ) (before mid after : Reading)
    (was left_mid left : Option (List ℕ)) → before.order ≡ Some order →
    octets_left before was ≡ octets_left mid left_mid → mid.taken ≡ before.taken
    → length before.held ≤ length mid.held →
    ConsumesAll 12 mid after left_mid left → size ≡ number order (take 4 (drop 8 after.frame))
    → after.taken ≤ max_input → StartsAt order size before after was left
begins order size before mid after was left_mid left known looked taken held head size_is fits =
    let frame : after.frame ≡ head.part =
    head.kept ∙ take_all max_stored head.part (omega (arith, head.all)) in
    record {
      known = known;
      head = head.part;
      twelve = head.all;
      hands = record {
        octets = looked ∙ head.hands.octets;
        taken = omega (arith, head.hands.taken, taken);
        spent = omega (arith, held, head.hands.spent);
      };
      size_is = rw frame at size_is;
      fits = fits;
    }

pub bad_size : (order : OctetOrder) (size : ℕ) (before after : Reading) (was left : Option (List ℕ))
    →
    StartsAt order size before after was left → max_frame < size
    → Answers BadRecord before after was left
bad_size order size before after was left b long =
    mapped (contents_from before.order (max_input - before.taken))
    (contents_from after.order (max_input - after.taken)) (λ _. ends 1 BadRecord) b.head
    (octets_left before was) (octets_left after left) b.hands.octets
    (λ rest is.
    let there : 12 ≤ length (b.head ++ rest) = omega (arith, length-append b.head rest, b.twelve) in
    let fits : 12 ≤ max_input - before.taken = omega (arith, b.hands.taken, b.twelve, b.fits) in
    let size_is : size ≡ number order (take 4 (drop 8 (b.head ++ rest))) =
    b.size_is ∙ sym (size_front order b.head rest b.twelve) in
    rw b.known
    (bad_record order (max_input - before.taken) (b.head ++ rest) size size_is fits there long))

known_split : (part : List ℕ) (known : Option (List ℕ)) (octets : List ℕ)
    → prepend_known part known ≡ Some octets → (rest : List ℕ) × (octets ≡ part ++ rest)
known_split part None octets is = absurd cc
known_split part (Some rest) octets is = (rest, cc)

frame_stops : (answer : NextRecord) (order : OctetOrder) (size : ℕ) (before mid after : Reading)
    (was left_mid left : Option (List ℕ)) →
    StartsAt order size before mid was left_mid → size ≤ max_frame → after.taken ≤ max_input
    → Stops answer (4 + size) mid after left_mid left →
    Missed answer 1 (contents_left before was) (contents_left after left)
frame_stops answer order size before mid after was left_mid left b short bounded stop =
    let room : before.taken + 12 ≤ max_input = omega (arith, b.hands.taken, b.twelve, b.fits) in
    stopped (16 + size) 1 (contents_from before.order (max_input - before.taken))
    (contents_from after.order (max_input - after.taken)) before after was left
    answer (omega (arith, room)) bounded
    (λ octets is lacks.
    let cut = known_split b.head (octets_left mid left_mid) octets (sym b.hands.octets ∙ is) in
    let there : 12 ≤ length octets =
    rw cut.1 (omega (arith, length-append b.head cut.0, b.twelve)) in
    let size_is : size ≡ number order (take 4 (drop 8 octets)) =
    rw cut.1 (b.size_is ∙ sym (size_front order b.head cut.0 b.twelve)) in
    rw b.known (stops_late order (max_input - before.taken) octets size answer size_is
    (omega (arith, room)) there short lacks)) (stops_behind answer b.head (4 + size)
    (16 + size) before mid after was left_mid left b.hands (omega (arith, b.twelve)) stop)

frame_read : (order : OctetOrder) (size : ℕ) (before mid after : Reading)
    (was left_mid left : Option (List ℕ)) → StartsAt order size before mid was left_mid →
    size ≤ max_frame → after.order ≡ Some order → after.taken ≤ max_input
    → HasFrame size mid after left_mid left →
    Answers Record before after was left
frame_read order size before mid after was left_mid left b short told bounded f =
    let body = f.first_length ++ f.frame in
    let part = b.head ++ body in
    let all = passes_more b.head body before mid after was left_mid left b.hands f.hands in
    let body_size : length body ≡ 4 + size =
    omega (arith, length-append f.first_length f.frame, f.four, f.all) in
    let part_size : length part ≡ 16 + size =
    omega (arith, length-append b.head body, b.twelve, body_size) in
    let room : before.taken + (16 + size) ≤ max_input = omega (arith, all.taken, part_size) in
    let room_left : max_input - before.taken - (16 + size) ≡ max_input - after.taken =
    omega (arith, all.taken, part_size) in
    mapped (contents_from before.order (max_input - before.taken))
    (contents_from after.order (max_input - after.taken)) (record_of after.frame) part
    (octets_left before was) (octets_left after left) all.octets
    (λ rest is.
    let octets = part ++ rest in
    let there : 16 + size ≤ length octets = omega (arith, length-append part rest, part_size) in
    let later : octets ≡ b.head ++ (body ++ rest) = append_assoc b.head body rest in
    let size_is : size ≡ number order (take 4 (drop 8 octets)) =
    rw later (b.size_is ∙ sym (size_front order b.head (body ++ rest) b.twelve)) in
    let early : octets ≡ (b.head ++ f.first_length) ++ (f.frame ++ rest) =
    rw (
      append_assoc b.head f.first_length (f.frame ++ rest),
      append_assoc b.head body rest,
      append_assoc f.first_length f.frame rest,
    ) refl in
    let sixteen : length (b.head ++ f.first_length) ≡ 16 =
    omega (arith, length-append b.head f.first_length, b.twelve, f.four) in
    let frame_is : take size (drop 16 octets) ≡ f.frame =
    ap (λ l. take size (drop 16 l)) early ∙ ap (take size) (drop_at (b.head ++ f.first_length)
    (f.frame ++ rest) 16 sixteen) ∙ take_at f.frame rest size
    f.all in
    let rest_is : drop (16 + size) octets ≡ rest = drop_at part rest (16 + size) part_size in
    let one = one_record order (max_input - before.taken) octets size size_is short
    (omega (arith, room)) there in
    rw (b.known, told, f.kept) (rw (frame_is, rest_is, room_left) at one))

pub frame_divides : {A : Type 0} (result : Result A NextRecord) (order : OctetOrder) (size : ℕ)
    (before mid after : Reading) (was left_mid left : Option (List ℕ))
    → StartsAt order size before mid was left_mid → size ≤ max_frame → after.order ≡ Some order →
    after.taken ≤ max_input → Frames result size mid after left_mid left →
    Answers (answer_of result) before after was left
frame_divides (Ok value) order size before mid after was left_mid left b short told bounded f =
    frame_read order size before mid after was left_mid left b short told bounded f
frame_divides (Err answer) order size before mid after was left_mid left b short told bounded stop =
    missed_divides answer order after.order after.frame (contents_left before was)
    (contents_left after left) told
    (frame_stops answer order size before mid after was left_mid left b short bounded stop)

pub frame_takes : {A : Type 0} (result : Result A NextRecord) (order : OctetOrder) (size : ℕ)
    (before mid after : Reading) (was left_mid left : Option (List ℕ))
    → StartsAt order size before mid was left_mid → mid.taken ≤ after.taken
    → Frames result size mid after left_mid left →
    ConsumesSome (answer_of result) before.taken after.taken
frame_takes (Ok value) order size before mid after was left_mid left b grows f =
    omega (
      arith,
      b.hands.taken,
      b.twelve,
      f.hands.taken,
      length-append f.first_length f.frame,
      f.four,
    )
frame_takes (Err answer) order size before mid after was left_mid left b grows stop =
    stops_take answer (4 + size) mid after left_mid left stop
    (omega (arith, b.hands.taken))
