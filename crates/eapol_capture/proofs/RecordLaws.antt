-- The records of octets, one at a time.
use Rattle.std.proofs.Common.{◌≡◌, ℕ, zero, suc, ◌+◌, ◌-◌, ◌<◌, ◌≤◌, min, true, false, List, []}
use Rattle.std.proofs.Common.{◌∷◌, length, take, drop, Some, None, cond, leb, ltb, refl}
use Rattle.std.proofs.Common.{ap, sym, ◌∙◌, arith, length-drop}
use Rattle.std.proofs.lemmas.Bool.{lt-leb, le-leb, lt-ltb, le-ltb}
use Rattle.eapol_capture.specs.declared.order.OctetOrder.{OctetOrder}
use Rattle.eapol_capture.specs.declared.reader.NextRecord.{NextRecord}
use Rattle.eapol_capture.specs.declared.reader.NextRecord.TheVariants.{End, CutFile, BadRecord}
use Rattle.eapol_capture.specs.declared.reader.NextRecord.TheVariants.{TooMuch}
use Rattle.eapol_capture.specs.Files.{Contents, ends, record_of, number, missing, unless, records}
use Rattle.eapol_capture.specs.Files.{all_records, max_frame, max_stored}

-- what so many octets are missing for
pub none_missing : (count room : ℕ) (octets : List ℕ) → count ≤ room → count ≤ length octets
    → missing count room octets ≡ None
none_missing count room octets fits there =
    let yes : leb count (min room (length octets)) ≡ true =
    le-leb count (min room (length octets)) (omega arith) in
    rw yes refl

pub cut_missing : (count room : ℕ) (octets : List ℕ) → length octets < count → length octets ≤ room
    → missing count room octets ≡ Some CutFile
cut_missing count room octets few fits =
    let no : leb count (min room (length octets)) ≡ false =
    lt-leb count (min room (length octets)) (omega arith) in
    let short : ltb room (length octets) ≡ false = le-ltb room (length octets) fits in
    rw (no, short) refl

pub past_missing : (count room : ℕ) (octets : List ℕ) → room < count → room < length octets
    → missing count room octets ≡ Some TooMuch
past_missing count room octets much more =
    let no : leb count (min room (length octets)) ≡ false =
    lt-leb count (min room (length octets)) (omega arith) in
    let long : ltb room (length octets) ≡ true = lt-ltb room (length octets) more in
    rw (no, long) refl

-- the first record, and what follows
size_in : OctetOrder → List ℕ → ℕ
size_in order octets = number order (take 4 (drop 8 octets))

first : OctetOrder → ℕ → List ℕ → Contents → Contents
first order room octets rest =
    unless 1 (missing 12 room octets)
    (cond (ltb max_frame (size_in order octets)) (ends 1 BadRecord)
    (unless 1 (missing (16 + size_in order octets) room octets)
    (record_of (take max_stored (take (size_in order octets) (drop 16 octets))) rest)))

from_suc : (order : OctetOrder) (room x : ℕ) (rest : List ℕ) (most : ℕ) →
    records order room (x ∷ rest) (suc most) ≡
    first order room (x ∷ rest) (records order (room - (16 + size_in order (x ∷ rest)))
    (drop (16 + size_in order (x ∷ rest)) (x ∷ rest)) most)
unfolding records first size_in
from_suc order room x rest most = refl

from_nil : (order : OctetOrder) (room most : ℕ) → records order room [] most ≡ ends 0 End
unfolding records
from_nil order room most = refl

-- more records than there are octets make no difference
enough : (n m : ℕ) (order : OctetOrder) (room : ℕ) (octets : List ℕ) → length octets ≤ n
    → length octets ≤ m →
    records order room octets n ≡ records order room octets m
enough n m order room [] few some = from_nil order room n ∙ sym (from_nil order room m)
enough zero m order room (x ∷ rest) few some = absurd (omega arith)
enough (suc n) zero order room (x ∷ rest) few some = absurd (omega arith)
enough (suc n) (suc m) order room (x ∷ rest) few some =
    let whole = 16 + size_in order (x ∷ rest) in
    let fewer : length (drop whole (x ∷ rest)) ≤ n = omega (arith, length-drop whole (x ∷ rest)) in
    let less : length (drop whole (x ∷ rest)) ≤ m = omega (arith, length-drop whole (x ∷ rest)) in
    from_suc order room x rest n
    ∙ ap (first order room (x ∷ rest))
    (enough n m order (room - whole) (drop whole (x ∷ rest)) fewer less)
    ∙ sym (from_suc order room x rest m)

first_is : (order : OctetOrder) (room : ℕ) (octets : List ℕ) → 0 < length octets →
    all_records order room octets ≡ first order room octets (all_records order
    (room - (16 + size_in order octets)) (drop (16 + size_in order octets) octets))
first_is order room [] some = absurd (omega arith)
first_is order room (x ∷ rest) some =
    let whole = 16 + size_in order (x ∷ rest) in
    let fewer : length (drop whole (x ∷ rest)) ≤ length rest =
    omega (arith, length-drop whole (x ∷ rest)) in
    let next = enough (length rest) (length (drop whole (x ∷ rest))) order (room - whole)
    (drop whole (x ∷ rest)) fewer (omega arith) in
    from_suc order room x rest (length rest) ∙ ap (first order room (x ∷ rest)) next

pub no_records : (order : OctetOrder) (room : ℕ) → all_records order room [] ≡ ends 0 End
no_records order room = from_nil order room 0

pub stops_early : (order : OctetOrder) (room : ℕ) (octets : List ℕ) (answer : NextRecord)
    → 0 < length octets → missing 12 room octets ≡ Some answer →
    all_records order room octets ≡ ends 1 answer
unfolding first
stops_early order room octets answer some is = first_is order room octets some ∙ rw is refl

pub bad_record : (order : OctetOrder) (room : ℕ) (octets : List ℕ) (size : ℕ)
    → size ≡ number order (take 4 (drop 8 octets)) → 12 ≤ room →
    12 ≤ length octets → max_frame < size → all_records order room octets ≡ ends 1 BadRecord
unfolding first size_in
bad_record order room octets size is fits there long =
    let none = none_missing 12 room octets fits there in
    let over : ltb max_frame (number order (take 4 (drop 8 octets))) ≡ true =
    lt-ltb max_frame (number order (take 4 (drop 8 octets))) (rw is at long) in
    first_is order room octets (omega arith) ∙ rw (none, over) refl

pub stops_late : (order : OctetOrder) (room : ℕ) (octets : List ℕ) (size : ℕ) (answer : NextRecord)
    → size ≡ number order (take 4 (drop 8 octets)) →
    12 ≤ room → 12 ≤ length octets → size ≤ max_frame → missing (16 + size) room octets
    ≡ Some answer → all_records order room octets ≡ ends 1 answer
unfolding first size_in
stops_late order room octets size answer is fits there short stops =
    let none = none_missing 12 room octets fits there in
    let within : ltb max_frame (number order (take 4 (drop 8 octets))) ≡ false =
    le-ltb max_frame (number order (take 4 (drop 8 octets))) (rw is at short) in
    let late : missing (16 + number order (take 4 (drop 8 octets))) room octets ≡ Some answer =
    rw is at stops in
    first_is order room octets (omega arith) ∙ rw (none, within, late) refl

pub one_record : (order : OctetOrder) (room : ℕ) (octets : List ℕ) (size : ℕ)
    → size ≡ number order (take 4 (drop 8 octets)) → size ≤ max_frame →
    16 + size ≤ room → 16 + size ≤ length octets →
    all_records order room octets ≡ record_of (take max_stored
    (take size (drop 16 octets))) (all_records order (room - (16 + size)) (drop (16 + size) octets))
unfolding first size_in
one_record order room octets size is short fits there =
    let none = none_missing 12 room octets (omega arith) (omega arith) in
    let within : ltb max_frame (number order (take 4 (drop 8 octets))) ≡ false =
    le-ltb max_frame (number order (take 4 (drop 8 octets))) (rw is at short) in
    let late : missing (16 + number order (take 4 (drop 8 octets))) room octets ≡ None =
    rw is at (none_missing (16 + size) room octets fits there) in
    first_is order room octets (omega arith) ∙ rw (none, within, late, is) refl
