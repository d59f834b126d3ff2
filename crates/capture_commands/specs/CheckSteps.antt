-- The command check by what it keeps in place of the packets.
use Rattle.std.specs.Prelude.{ℕ, ◌+◌, ◌≤◌, List, [], length, Bool, false, Result, Ok, Err}
use Rattle.text_tables.specs.Words.{fault_word}
use Rattle.request_text.specs.Captures.{Capture, CaptureLine, read_line, finish_of}
use Rattle.request_text.specs.declared.capture.CaptureItemKind.{CaptureItemKind}
use Rattle.request_text.specs.declared.capture.CaptureItemKind.TheVariants as item
use Rattle.text_tables.specs.declared.phase.Phase.TheVariants.{Unread}
use Rattle.text_tables.specs.declared.fault.LineFault.{LineFault}
use Rattle.capture_check.specs.Finding.{finding_in, kept_next}
use Rattle.capture_check.specs.CaptureContext.{context_of, no_context_yet}
use Rattle.answer_text.specs.Findings.{finding_text}
use Rattle.command_driver.specs.Commands.{LineResult, Closing, goes, refuses}
use Rattle.capture_commands.specs.Check.{CheckNow, with_finding, check_end}
use Rattle.capture_commands.specs.declared.check.Check.{Check}
use Rattle.command_driver.specs.declared.status.Status.TheVariants as status

abbrev pub first_check : Check
first_check = record {
  reader = record { phase = Unread; users = [] };
  checker = no_context_yet;
  packets = 0;
  findings = 0;
}

-- a packet is judged
abbrev pub packet_step : Check → Capture → Bool → List ℕ → LineResult Check
packet_step c reader to_peer octets =
    let finding = finding_in reader.users c.checker to_peer octets in
    record {
      text = finding_text (c.packets + 1) finding;
      ruling = goes;
      after = record {
        reader = reader;
        checker = kept_next reader.users c.checker to_peer octets;
        packets = c.packets + 1;
        findings = with_finding c.findings finding;
      };
    }

abbrev pub silent_step : Check → Capture → LineResult Check
silent_step c reader = record { text = []; ruling = goes; after = record c { reader = reader } }

abbrev pub item_step : Check → Capture → CaptureItemKind → LineResult Check
item_step c reader item.Nothing = silent_step c reader
item_step c reader item.Ready = silent_step c reader
item_step c reader (item.Packet to_peer octets) = packet_step c reader to_peer octets
item_step c reader item.End = silent_step c reader

abbrev pub line_step : Check → Result CaptureLine LineFault → LineResult Check
line_step c (Err
    fault) = record { text = []; ruling = refuses (fault_word fault) status.Refused; after = c }
line_step c (Ok line) = item_step c line.after line.item

-- the result of a line
unfoldable pub check_step : Check → List ℕ → LineResult Check
check_step c line = line_step c (read_line c.reader line)

-- the end of the input
unfoldable pub step_closing : Check → Closing
step_closing c = check_end c.packets c.findings (finish_of c.reader)

-- no line fails for want of memory
abbrev pub step_lacks : Check → List ℕ → Bool
step_lacks c line = false

-- each line has at most one packet
pub record HasJudged (c : Check) (count : ℕ) : Type 0 where
  pub packets : c.packets ≤ count
  pub findings : c.findings ≤ count

-- what is kept of a capture with its packets
abbrev pub kept_in : CheckNow → Check
kept_in c = record {
  reader = c.reader;
  checker = context_of c.reader.users c.before;
  packets = length c.before;
  findings = c.findings;
}
