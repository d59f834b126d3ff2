-- The command check: each packet of a capture is judged by the users and by all packets before it.
use Rattle.std.specs.Prelude.{ℕ, ◌+◌, List, [], ◌∷◌, ◌++◌, length, Bool, true, false, ◌==◌}
use Rattle.std.specs.Prelude.{if◌then◌else◌, Result, Ok, Err}
use Rattle.octet_io.specs.Lines.{lines}
use Rattle.text_tables.specs.Words.{fault_word}
use Rattle.request_text.specs.Captures.{Capture, CaptureLine, read_line, finish_of}
use Rattle.request_text.specs.declared.capture.CaptureItemKind.{CaptureItemKind}
use Rattle.request_text.specs.declared.capture.CaptureItemKind.TheVariants as item
use Rattle.text_tables.specs.declared.phase.Phase.TheVariants.{Unread}
use Rattle.text_tables.specs.declared.fault.LineFault.{LineFault}
use Rattle.capture_check.specs.Captured.{Captured}
use Rattle.capture_check.specs.Finding.{finding_of}
use Rattle.capture_check.specs.declared.finding.Finding.{Finding}
use Rattle.capture_check.specs.declared.finding.Finding.TheVariants.{Good, Malformed, TagBad}
use Rattle.capture_check.specs.declared.finding.Finding.TheVariants.{TagGood, NoKey, NoContext}
use Rattle.answer_text.specs.Findings.{finding_text, findings_text}
use Rattle.command_driver.specs.Answers.{Answer}
use Rattle.command_driver.specs.Commands.{LineResult, Closing, goes, refuses, ends, misses, answer}
use Rattle.command_driver.specs.declared.status.Status.{Status}
use Rattle.command_driver.specs.declared.status.Status.TheVariants as status

-- a capture so far: what has been read of it, its packets, and how many of them are malformed or
-- have a bad tag
pub record CheckNow : Type 0 where
  pub reader : Capture
  pub before : List Captured
  pub findings : ℕ

-- whether a finding is counted: something is wrong with the packet
abbrev pub is_counted : Finding → Bool
is_counted Good = false
is_counted (Malformed cause) = true
is_counted TagBad = true
is_counted (TagGood name) = false
is_counted NoKey = false
is_counted NoContext = false

-- the count with one more finding
abbrev pub with_finding : ℕ → Finding → ℕ
with_finding findings finding = findings + (if is_counted finding then 1 else 0)

-- a packet is judged, and is one of those before the next
abbrev pub packet_result_of : CheckNow → Capture → Captured → Finding → LineResult CheckNow
packet_result_of c reader packet finding = record {
  text = finding_text (length c.before + 1) finding;
  ruling = goes;
  after = record {
    reader = reader;
    before = c.before ++ packet ∷ [];
    findings = with_finding c.findings finding;
  };
}

-- nothing is written
abbrev pub silent : CheckNow → Capture → LineResult CheckNow
silent c reader = record { text = []; ruling = goes; after = record c { reader = reader } }

abbrev pub item_result_of : CheckNow → Capture → CaptureItemKind → LineResult CheckNow
item_result_of c reader item.Nothing = silent c reader
item_result_of c reader item.Ready = silent c reader
item_result_of c reader (item.Packet to_peer octets) =
    packet_result_of c reader (record { to_peer = to_peer; octets = octets })
    (finding_of reader.users c.before to_peer octets)
item_result_of c reader item.End = silent c reader

abbrev pub line_result_of : CheckNow → Result CaptureLine LineFault → LineResult CheckNow
line_result_of c (Err
    fault) = record { text = []; ruling = refuses (fault_word fault) status.Refused; after = c }
line_result_of c (Ok line) = item_result_of c line.after line.item

-- the result of a line
unfoldable pub checking_result : CheckNow → List ℕ → LineResult CheckNow
checking_result c line = line_result_of c (read_line c.reader line)

-- the status of a capture that was read to its end
abbrev pub check_status : ℕ → Status
check_status findings = if findings == 0 then status.Done else status.Findings

abbrev pub check_end : ℕ → ℕ → Result (Unit {0}) LineFault → Closing
check_end packets findings (Err fault) = record { text = []; closed = misses (fault_word fault) }
check_end packets findings (Ok
    done) = record { text = findings_text packets findings; closed = ends (check_status findings) }

-- the end of the input
unfoldable pub check_closing : CheckNow → Closing
check_closing c = check_end (length c.before) c.findings (finish_of c.reader)

abbrev pub nothing_checked : CheckNow
nothing_checked = record {
  reader = record { phase = Unread; users = [] };
  before = [];
  findings = 0;
}

-- what a capture answers
abbrev pub check_answer : List ℕ → Answer
check_answer octets = answer checking_result check_closing 0 nothing_checked (lines octets)
