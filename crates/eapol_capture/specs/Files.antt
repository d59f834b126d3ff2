-- Files of captured Ethernet frames in the pcap format (draft-ietf-opsawg-pcap): a header of 24
-- octets (section 4), and behind it the records (section 5). A file has at most 16,777,216 octets.
use Rattle.std.specs.Prelude.{ℕ, zero, suc, ◌+◌, ◌-◌, List, [], ◌∷◌, length, take, drop, min, Bool}
use Rattle.std.specs.Prelude.{◌==◌, ◌&&◌, not, nat_lt, nat_le, if◌then◌else◌, Option}
use Rattle.std.specs.Prelude.{Some, None, Result, Ok, Err}
use Rattle.std.specs.Int.{w16, w32, from_be_bytes, from_le_bytes}
use Rattle.octet_io.specs.Lines.{max_input}
use Rattle.eapol_capture.specs.declared.order.OctetOrder.{OctetOrder}
use Rattle.eapol_capture.specs.declared.order.OctetOrder.TheVariants.{Big, Little}
use Rattle.eapol_capture.specs.declared.reader.NextRecord.{NextRecord}
use Rattle.eapol_capture.specs.declared.reader.NextRecord.TheVariants.{End, CutFile, BadMagic}
use Rattle.eapol_capture.specs.declared.reader.NextRecord.TheVariants.{BadVersion, BadLink}
use Rattle.eapol_capture.specs.declared.reader.NextRecord.TheVariants.{BadRecord, TooMuch}

-- the records of a file in order, each as the first 4,096 octets of its frame, and how the file
-- ends: how many records are begun then, 0 or 1, and its end or the first fault in it
pub data Contents : Type 0 where
  ends : ℕ → NextRecord → Contents
  record_of : List ℕ → Contents → Contents

-- the octets of a frame, and those of a frame that are kept
abbrev pub max_frame : ℕ
max_frame = 262144

abbrev pub max_stored : ℕ
max_stored = 4096

-- numbers of four and of two octets
abbrev pub number : OctetOrder → List ℕ → ℕ
number Big octets = from_be_bytes w32 octets
number Little octets = from_le_bytes w32 octets

abbrev pub short_number : OctetOrder → List ℕ → ℕ
short_number Big octets = from_be_bytes w16 octets
short_number Little octets = from_le_bytes w16 octets

-- the magic number a1b2c3d4, of files whose times have microseconds, gives the octet order
abbrev pub magic_number : ℕ
magic_number = 2712847316

abbrev pub order_of : List ℕ → Option OctetOrder
order_of magic =
    if number Big magic == magic_number then Some Big
    else if number Little magic == magic_number then Some Little
    else None

-- the major version 2 and the minor version 4
abbrev pub is_version : OctetOrder → List ℕ → Bool
is_version order version =
    (short_number order (take 2 version) == 2) && (short_number order (drop 2 version) == 4)

-- the octet order that a header gives, or its first fault: magic (4 octets), version (4), 12 octets
-- unread, and the link type (4), which is 1 for Ethernet
abbrev pub faults_in : Option OctetOrder → List ℕ → Result OctetOrder NextRecord
faults_in None header = Err BadMagic
faults_in (Some order) header =
    if not (is_version order (take 4 (drop 4 header))) then Err BadVersion
    else if not (number order (drop 20 header) == 1) then Err BadLink
    else Ok order

abbrev pub order_or_fault : List ℕ → Result OctetOrder NextRecord
order_or_fault header = faults_in (order_of (take 4 header)) header

-- why `count` octets can't be read, of the octets that are left, if `room` more may be read: the
-- octet past the limit comes before they are all read, or the file ends before
abbrev pub missing : ℕ → ℕ → List ℕ → Option NextRecord
missing count room octets =
    if nat_le count (min room (length octets)) then None
    else if nat_lt room (length octets) then Some TooMuch
    else Some CutFile

-- the contents, if nothing is missing
abbrev pub unless : ℕ → Option NextRecord → Contents → Contents
unless begun None contents = contents
unless begun (Some answer) contents = ends begun answer

-- the records that octets are, of which `room` may be read: 8 octets of time, the length of the
-- frame (4), its length before it was cut (4), and the frame. At most `most` are read, which is no
-- limit if it is at least the number of octets
unfoldable pub records : OctetOrder → ℕ → List ℕ → ℕ → Contents
records order room [] most = ends 0 End
records order room (x ∷ rest) zero = ends 0 End
records order room (x ∷ rest) (suc most) =
    let octets = x ∷ rest in
    let size = number order (take 4 (drop 8 octets)) in
    let whole = 16 + size in
    unless 1 (missing 12 room octets)
    (if nat_lt max_frame size then ends 1 BadRecord
    else unless 1 (missing whole room octets)
    (record_of (take max_stored (take size (drop 16 octets)))
    (records order (room - whole) (drop whole octets) most)))

abbrev pub all_records : OctetOrder → ℕ → List ℕ → Contents
all_records order room octets = records order room octets (length octets)

-- what follows a header that gives an octet order or has a fault
abbrev pub behind : Result OctetOrder NextRecord → ℕ → List ℕ → Contents
behind (Err answer) room octets = ends 0 answer
behind (Ok order) room octets = all_records order room octets

-- what a file is, of which `room` octets may be read
abbrev pub from_header : ℕ → List ℕ → Contents
from_header room octets =
    unless 0 (missing 24 room octets)
    (behind (order_or_fault (take 24 octets)) (room - 24) (drop 24 octets))

-- what a file is, by all its octets
abbrev pub contents : List ℕ → Contents
contents octets = from_header max_input octets
