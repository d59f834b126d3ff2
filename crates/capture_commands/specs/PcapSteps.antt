-- A file of captured frames by what is kept of it in place of its packets.
use Rattle.std.specs.Prelude.{ℕ, ◌+◌, ◌≤◌, List, [], length}
use Rattle.login_setup.specs.declared.users.User.{User}
use Rattle.eapol_capture.specs.Files.{Contents, ends, record_of}
use Rattle.eapol_capture.specs.Frames.{Carried, other, cut, eap, contents_of}
use Rattle.capture_check.specs.Finding.{finding_in, kept_next}
use Rattle.capture_check.specs.CaptureContext.{context_of, no_context_yet}
use Rattle.answer_text.specs.Findings.{finding_text}
use Rattle.command_driver.specs.Answers.{Answer, after_text}
use Rattle.capture_commands.specs.Check.{with_finding}
use Rattle.capture_commands.specs.Pcap.{PcapNow, is_to_peer, cut_text, file_end}
use Rattle.capture_commands.specs.declared.pcap.PcapTotals.{PcapTotals}

-- the result of a record with this number
pub record RecordStep : Type 0 where
  pub text : List ℕ
  pub after : PcapTotals

unfoldable pub record_step : List User → PcapTotals → ℕ → Carried → RecordStep
record_step users f number other = record { text = []; after = f }
record_step users f number
    cut = record { text = cut_text number; after = record f { findings = f.findings + 1 } }
record_step users f number (eap octets) =
    let finding = finding_in users f.checker (is_to_peer octets) octets in
    record {
      text = finding_text number finding;
      after = record {
        checker = kept_next users f.checker (is_to_peer octets) octets;
        packets = f.packets + 1;
        findings = with_finding f.findings finding;
      };
    }

-- the answer to the rest of a file, behind so many records
unfoldable pub answer_from : List User → ℕ → PcapTotals → Contents → Answer
answer_from users number f (ends begun a) = file_end (number + begun) f.packets f.findings a
answer_from users number f (record_of frame rest) =
    after_text (record_step users f (number + 1) (contents_of frame)).text
    (answer_from users (number + 1)
    (record_step users f (number + 1) (contents_of frame)).after rest)

abbrev pub nothing_found : PcapTotals
nothing_found = record { checker = no_context_yet; packets = 0; findings = 0 }

-- each record has at most one packet
pub record HasFound (f : PcapTotals) (number : ℕ) : Type 0 where
  pub packets : f.packets ≤ number
  pub findings : f.findings ≤ number

-- what is kept of a file with its packets
abbrev pub found_in : List User → PcapNow → PcapTotals
found_in users f = record {
  checker = context_of users f.before;
  packets = length f.before;
  findings = f.findings;
}
