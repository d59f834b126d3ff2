-- A spelled file is read as what it spells.
use Rattle.std.proofs.Common.{◌≡◌, ℕ, ◌+◌, ◌-◌, ◌≤◌, List, [], ◌∷◌, ◌++◌, length, take, drop, All}
use Rattle.std.proofs.Common.{Ok, refl, ap, sym, ◌∙◌, arith, append_assoc, length-append}
use Rattle.std.proofs.lemmas.List.{take_all, take_at, drop_at}
use Rattle.std.proofs.lemmas.List.Elements.{All-head, All-tail}
use Rattle.std.proofs.lemmas.Nat.{from_be_bytes-to_be_bytes_4, from_le_bytes-to_le_bytes_4}
use Rattle.eapol_capture.specs.declared.order.OctetOrder.{OctetOrder}
use Rattle.eapol_capture.specs.declared.order.OctetOrder.TheVariants.{Big, Little}
use Rattle.octet_io.specs.Lines.{max_input}
use Rattle.eapol_capture.specs.Files.{record_of, number, order_or_fault, all_records, max_frame}
use Rattle.eapol_capture.specs.Files.{max_stored}
use Rattle.eapol_capture.specs.Laws.{Captured, IsCaptured, four_octets, encoded_header}
use Rattle.eapol_capture.specs.Laws.{encoded_record, encoded_records, contents_of_list}
use Rattle.eapol_capture.specs.Laws.{EncodedFilesAreRead}
use Rattle.eapol_capture.proofs.Dividing.{header_is, size_front}
use Rattle.eapol_capture.proofs.RecordLaws.{no_records, one_record}

number_four : (order : OctetOrder) (n : ℕ) → n ≤ max_frame → number order (four_octets order n) ≡ n
number_four Big n small = from_be_bytes-to_be_bytes_4 n (omega arith)
number_four Little n small = from_le_bytes-to_le_bytes_4 n (omega arith)

size_four : (order : OctetOrder) (n : ℕ) → length (four_octets order n) ≡ 4
size_four Big n = refl
size_four Little n = refl

header_good : (order : OctetOrder) (unread : List ℕ) → length unread ≡ 12
    → order_or_fault (encoded_header order unread) ≡ Ok order
header_good Big unread twelve = rw (drop_at unread (four_octets Big 1) 12 twelve) refl
header_good Little unread twelve = rw (drop_at unread (four_octets Little 1) 12 twelve) refl

header_size : (order : OctetOrder) (unread : List ℕ) → length unread ≡ 12
    → length (encoded_header order unread) ≡ 24
header_size Big unread twelve = omega (arith, length-append unread (four_octets Big 1))
header_size Little unread twelve = omega (arith, length-append unread (four_octets Little 1))

-- a record before others
record_read : (order : OctetOrder) (room : ℕ) (c : Captured) (rest : List ℕ) → IsCaptured c
    → length (encoded_record order c) ≤ room →
    all_records order room (encoded_record order c ++ rest) ≡
    record_of (take max_stored c.frame)
    (all_records order (room - length (encoded_record order c)) rest)
record_read order room c rest is fits =
    let size = length c.frame in
    let four = four_octets order size in
    let head = c.time ++ four in
    let octets = encoded_record order c ++ rest in
    let twelve : length head ≡ 12 =
    omega (arith, length-append c.time four, size_four order size, is.time_size) in
    let sixteen : length (head ++ c.first_length) ≡ 16 =
    omega (arith, length-append head c.first_length, is.first_size) in
    let later : octets ≡ head ++ ((c.first_length ++ c.frame) ++ rest) =
    append_assoc c.time (four ++ (c.first_length ++ c.frame)) rest
    ∙ ap (λ l. c.time ++ l) (append_assoc four (c.first_length ++ c.frame) rest)
    ∙ sym (append_assoc c.time four ((c.first_length ++ c.frame) ++ rest)) in
    let early : octets ≡ (head ++ c.first_length) ++ (c.frame ++ rest) =
    later ∙ ap (λ l. head ++ l) (append_assoc c.first_length c.frame rest)
    ∙ sym (append_assoc head c.first_length (c.frame ++ rest)) in
    let whole : 16 + size ≡ length (encoded_record order c) =
    omega (
      arith,
      length-append c.time (four ++ (c.first_length ++ c.frame)),
      length-append four (c.first_length ++ c.frame),
      length-append c.first_length c.frame,
      size_four order size,
      is.time_size,
      is.first_size,
    ) in
    let there : 16 + size ≤ length octets =
    omega (arith, length-append (encoded_record order c) rest, whole) in
    let field : take 4 (drop 8 head) ≡ four = ap (take 4) (drop_at c.time four 8 is.time_size)
    ∙ take_all 4 four (omega (arith, size_four order size)) in
    let size_is : size ≡ number order (take 4 (drop 8 octets)) =
    rw later (sym (size_front order head ((c.first_length ++ c.frame) ++ rest) twelve
    ∙ ap (number order) field ∙ number_four order size is.frame_size)) in
    let frame_is : take size (drop 16 octets) ≡ c.frame =
    ap (λ l. take size (drop 16 l)) early ∙ ap (take size) (drop_at (head ++ c.first_length)
    (c.frame ++ rest) 16 sixteen) ∙ take_at c.frame rest size refl in
    let rest_is : drop (16 + size) octets ≡ rest =
    drop_at (encoded_record order c) rest (16 + size) (sym whole) in
    let one =
    one_record order room octets size size_is is.frame_size (omega (arith, whole, fits)) there in
    one ∙ rw (frame_is, rest_is, whole) refl

records_read : (order : OctetOrder) (room : ℕ) (captured : List Captured) → All IsCaptured captured
    → length (encoded_records order captured) ≤ room →
    all_records order room (encoded_records order captured) ≡ contents_of_list captured
records_read order room [] all fits = no_records order room
records_read order room (c ∷ rest) all fits =
    let is = All-head IsCaptured c rest all in
    let sizes = length-append (encoded_record order c) (encoded_records order rest) in
    record_read order room c (encoded_records order rest) is (omega (arith, sizes, fits))
    ∙ ap (record_of (take max_stored c.frame))
    (records_read order (room - length (encoded_record order c)) rest
    (All-tail IsCaptured c rest all) (omega (arith, sizes, fits)))

pub encoded_files_are_read : EncodedFilesAreRead
encoded_files_are_read order unread captured twelve all fits =
    let size = header_size order unread twelve in
    let sizes = length-append (encoded_header order unread) (encoded_records order captured) in
    header_is max_input (encoded_header order unread) (encoded_records order captured) size
    (omega arith)
    ∙ rw (header_good order unread twelve)
    (records_read order (max_input - 24) captured all (omega (arith, size, sizes, fits)))
