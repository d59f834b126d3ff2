-- Files by their encoding, and that they are read as what they encode.
use Rattle.std.specs.Prelude.{◌≡◌, ℕ, ◌≤◌, List, [], ◌∷◌, ◌++◌, length, take, All}
use Rattle.std.specs.Int.{w16, w32, to_be_bytes, to_le_bytes}
use Rattle.eapol_capture.specs.declared.order.OctetOrder.{OctetOrder}
use Rattle.eapol_capture.specs.declared.order.OctetOrder.TheVariants.{Big, Little}
use Rattle.eapol_capture.specs.declared.reader.NextRecord.TheVariants.{End}
use Rattle.octet_io.specs.Lines.{max_input}
use Rattle.eapol_capture.specs.Files.{Contents, ends, record_of, contents, magic_number, max_frame}
use Rattle.eapol_capture.specs.Files.{max_stored}
use Rattle.eapol_capture.specs.Frames.{eap, eapol_type, contents_of}

-- a captured frame, with its time and its length before it was cut, as they are in a file
pub record Captured : Type 0 where
  pub time : List ℕ
  pub first_length : List ℕ
  pub frame : List ℕ

pub record IsCaptured (c : Captured) : Type 0 where
  pub time_size : length c.time ≡ 8
  pub first_size : length c.first_length ≡ 4
  pub frame_size : length c.frame ≤ max_frame

-- numbers in four and in two octets
abbrev pub four_octets : OctetOrder → ℕ → List ℕ
four_octets Big n = to_be_bytes w32 n
four_octets Little n = to_le_bytes w32 n

abbrev pub two_octets : OctetOrder → ℕ → List ℕ
two_octets Big n = to_be_bytes w16 n
two_octets Little n = to_le_bytes w16 n

-- the header of version 2.4 and link type 1, with 12 octets between these (draft-ietf-opsawg-pcap
-- section 4)
abbrev pub encoded_header : OctetOrder → List ℕ → List ℕ
encoded_header order unread =
    four_octets order magic_number
    ++ (two_octets order 2 ++ (two_octets order 4 ++ (unread ++ four_octets order 1)))

-- a record (section 5)
abbrev pub encoded_record : OctetOrder → Captured → List ℕ
encoded_record order c =
    c.time ++ (four_octets order (length c.frame) ++ (c.first_length ++ c.frame))

abbrev pub encoded_records : OctetOrder → List Captured → List ℕ
encoded_records order [] = []
encoded_records order (c ∷ rest) = encoded_record order c ++ encoded_records order rest

abbrev pub encoded_file : OctetOrder → List ℕ → List Captured → List ℕ
encoded_file order unread captured = encoded_header order unread ++ encoded_records order captured

-- what the file is
abbrev pub contents_of_list : List Captured → Contents
contents_of_list [] = ends 0 End
contents_of_list (c ∷ rest) = record_of (take max_stored c.frame) (contents_of_list rest)

-- in either octet order a file is read as the records that it encodes, and then its end
abbrev pub EncodedFilesAreRead : Type 0
EncodedFilesAreRead =
    (order : OctetOrder) (unread : List ℕ) (captured : List Captured) → length unread ≡ 12
    → All IsCaptured captured →
    length (encoded_file order unread captured) ≤ max_input
    → contents (encoded_file order unread captured) ≡ contents_of_list captured

-- a frame that carries an EAP packet: two addresses, the type of EAPOL, its version, its type 0 and
-- the packet's length, the packet, and padding
abbrev pub encoded_frame : List ℕ → ℕ → List ℕ → List ℕ → List ℕ
encoded_frame addresses version packet padding =
    addresses ++ (to_be_bytes w16 eapol_type ++ (version ∷ 0
    ∷ (to_be_bytes w16 (length packet) ++ (packet ++ padding))))

-- such a frame carries its packet
abbrev pub EncodedFramesCarryTheirPackets : Type 0
EncodedFramesCarryTheirPackets =
    (addresses : List ℕ) (version : ℕ) (packet padding : List ℕ) → length addresses ≡ 12
    → length packet ≤ 2000 →
    contents_of (encoded_frame addresses version packet padding) ≡ eap packet

-- what is kept of a frame carries the same as the frame
abbrev pub FrontsCarryTheSame : Type 0
FrontsCarryTheSame = (frame : List ℕ) → contents_of (take max_stored frame) ≡ contents_of frame
