-- The words `pcap NAME KIND HEX ..`: each EAP packet of a file of captured frames is judged by the
-- users that the words name and by all packets before it.
use Rattle.std.specs.Prelude.{ℕ, ◌+◌, List, [], ◌∷◌, ◌++◌, length, Bool, true, ◌==◌, not}
use Rattle.std.specs.Prelude.{if◌then◌else◌, codes, decimal, Option, Some, None}
use Rattle.std.specs.List.{concat}
use Rattle.std.specs.Str.{bytes_eq}
use Rattle.login_setup.specs.declared.users.User.{User}
use Rattle.eapol_capture.specs.Files.{Contents, ends, record_of, contents}
use Rattle.eapol_capture.specs.Frames.{Carried, other, cut, eap, contents_of}
use Rattle.eapol_capture.specs.declared.reader.NextRecord.{NextRecord}
use Rattle.eapol_capture.specs.declared.reader.NextRecord.TheVariants as answer
use Rattle.text_tables.specs.UserWords.{users_named}
use Rattle.capture_check.specs.Captured.{Captured}
use Rattle.capture_check.specs.Finding.{finding_of}
use Rattle.answer_text.specs.Findings.{finding_text}
use Rattle.command_driver.specs.Answers.{Answer, after_text}
use Rattle.capture_commands.specs.Check.{with_finding, check_status}
use Rattle.command_driver.specs.declared.status.Status.{Status}
use Rattle.command_driver.specs.declared.status.Status.TheVariants as status

-- the users that the words name, if they are `pcap` and users
abbrev pub pcap_users : List (List ℕ) → Option (List User)
pcap_users [] = None
pcap_users (word ∷ rest) = if bytes_eq word (codes "pcap") then users_named (Some []) rest else None

-- a packet whose first octet is 2, the code of a Response, is from the peer, every other one is to
-- the peer
abbrev pub is_to_peer : List ℕ → Bool
is_to_peer [] = true
is_to_peer (code ∷ rest) = not (code == 2)

-- the line of a record whose packet is cut
unfoldable pub cut_text : ℕ → List ℕ
cut_text number = concat (decimal number ∷ codes " eapol-cut\n" ∷ [])

-- the last line: how many records there were, how many of them had an EAP packet, and how many
-- packets are malformed, have a bad tag or are cut
unfoldable pub records_text : ℕ → ℕ → ℕ → List ℕ
records_text records packets findings =
    concat (codes "records " ∷ decimal records ∷ codes " eap " ∷ decimal packets
    ∷ codes " findings " ∷ decimal findings ∷ codes "\n" ∷ [])

-- the last line of a file that is refused: the number of the record last begun, and why
unfoldable pub refused_record_text : ℕ → List ℕ → List ℕ
refused_record_text number word =
    concat (codes "refused record " ∷ decimal number ∷ codes " " ∷ word ∷ codes "\n" ∷ [])

-- why a file is refused
abbrev pub file_word : NextRecord → List ℕ
file_word answer.Record = codes "Record"
file_word answer.End = codes "End"
file_word answer.CutFile = codes "CutFile"
file_word answer.BadMagic = codes "BadMagic"
file_word answer.BadVersion = codes "BadVersion"
file_word answer.BadLink = codes "BadLink"
file_word answer.BadRecord = codes "BadRecord"
file_word answer.TooMuch = codes "TooMuch"
file_word answer.Read = codes "Read"

abbrev pub file_status : NextRecord → Status
file_status answer.TooMuch = status.TooMuch
file_status a = status.Refused

abbrev pub file_refusal : ℕ → NextRecord → Answer
file_refusal number
    a = record { text = refused_record_text number (file_word a); status = file_status a }

-- the answer to a file's end, if the last record begun has this number; no file ends with Record or
-- Read
abbrev pub file_end : ℕ → ℕ → ℕ → NextRecord → Answer
file_end number packets findings answer.End = record {
  text = records_text number packets findings;
  status = check_status findings;
}
file_end number packets findings a = file_refusal number a

-- a file so far: how many records it has, the EAP packets in them, and how many findings count
pub record PcapNow : Type 0 where
  pub records : ℕ
  pub before : List Captured
  pub findings : ℕ

-- the result of a record
pub record RecordResult : Type 0 where
  pub text : List ℕ
  pub after : PcapNow

abbrev pub record_result : List User → PcapNow → Carried → RecordResult
record_result users f other = record { text = []; after = record f { records = f.records + 1 } }
record_result users f cut = record {
  text = cut_text (f.records + 1);
  after = record f { records = f.records + 1; findings = f.findings + 1 };
}
record_result users f (eap octets) =
    let finding = finding_of users f.before (is_to_peer octets) octets in
    record {
      text = finding_text (f.records + 1) finding;
      after = record {
        records = f.records + 1;
        before = f.before ++ (record { to_peer = is_to_peer octets; octets = octets }) ∷ [];
        findings = with_finding f.findings finding;
      };
    }

-- the answer to what a file is
unfoldable pub answer_to : List User → PcapNow → Contents → Answer
answer_to users f (ends begun a) = file_end (f.records + begun) (length f.before) f.findings a
answer_to users f (record_of frame rest) =
    after_text (record_result users f (contents_of frame)).text
    (answer_to users (record_result users f (contents_of frame)).after rest)

abbrev pub nothing_recorded : PcapNow
nothing_recorded = record { records = 0; before = []; findings = 0 }

-- what a file answers
abbrev pub pcap_answer : List User → List ℕ → Answer
pcap_answer users octets = answer_to users nothing_recorded (contents octets)
