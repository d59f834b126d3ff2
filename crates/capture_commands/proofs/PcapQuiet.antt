-- No line of `pcap` begins as the line of honest tags does.
use Rattle.std.proofs.Common.{◌≡◌, ℕ, ◌≤◌, ◌+◌, List, length, true, false, refl, decimal, arith}
use Rattle.std.proofs.lemmas.Bool.{ne_eqb}
use Rattle.login_setup.specs.declared.users.User.{User}
use Rattle.eapol_capture.specs.Files.{Contents, ends, record_of, contents}
use Rattle.eapol_capture.specs.Frames.{Carried, other, cut, eap, contents_of}
use Rattle.eapol_capture.specs.declared.reader.NextRecord.{NextRecord}
use Rattle.eapol_capture.specs.declared.reader.NextRecord.TheVariants as answer
use Rattle.capture_check.specs.Finding.{finding_of}
use Rattle.capture_check.proofs.Preserving.{finding_names}
use Rattle.answer_text.proofs.Plain.{is_within, plain, join, through, decimal_within, decimal_first}
use Rattle.answer_text.proofs.PlainFindings.{finding_plain}
use Rattle.capture_commands.specs.Pcap.{PcapNow, is_to_peer, cut_text, records_text, file_refusal}
use Rattle.capture_commands.specs.Pcap.{file_end, record_result, answer_to, nothing_recorded}
use Rattle.capture_commands.specs.Pcap.{pcap_answer}
use Rattle.command_driver.specs.declared.status.Status.TheVariants as status
use Rattle.capture_commands.proofs.PcapUsers.{HaveNames}
use Rattle.command_driver.proofs.Quiet.{IsQuiet, never_done}
use Rattle.capture_commands.proofs.RadiusQuiet.{starts_tags}

no_digit : (o : ℕ) → 48 ≤ o → o ≤ 57 → starts_tags o ≡ false
no_digit o h k = ne_eqb o 116 (λ e. omega (arith, k, e))

cut_quiet : (number : ℕ) → plain starts_tags true (cut_text number) ≡ true
unfolding cut_text
cut_quiet number = decimal_first starts_tags no_digit number _ refl

records_quiet : (records packets findings : ℕ)
    → plain starts_tags true (records_text records packets findings) ≡ true
unfolding records_text
records_quiet records packets findings =
    through starts_tags (decimal records) _ (decimal_within records)
    (through starts_tags (decimal packets) _ (decimal_within packets)
    (through starts_tags (decimal findings) _ (decimal_within findings) refl))

-- a file that is refused has another status
refused_quiet : (number : ℕ) (a : NextRecord) → IsQuiet starts_tags (file_refusal number a)
refused_quiet number answer.TooMuch =
    record { holds = λ done. absurd (never_done status.TooMuch tt done) }
refused_quiet number a = record { holds = λ done. absurd (never_done status.Refused tt done) }

end_quiet : (number packets findings : ℕ) (a : NextRecord)
    → IsQuiet starts_tags (file_end number packets findings a)
end_quiet number packets findings answer.End =
    record { holds = λ done. records_quiet number packets findings }
end_quiet number packets findings a = refused_quiet number a

module _ (users : List User) (names : HaveNames users) where
  reported_quiet : (f : PcapNow) (c : Carried)
      → plain starts_tags true (record_result users f c).text ≡ true
  reported_quiet f other = refl
  reported_quiet f cut = cut_quiet (f.records + 1)
  reported_quiet f (eap octets) =
      finding_plain starts_tags no_digit (f.records + 1)
      (finding_of users f.before (is_to_peer octets) octets)
      (finding_names (λ name. is_within name ≡ true) users names.within f.before
      (is_to_peer octets) octets)

  judged_quiet : (f : PcapNow) (all : Contents) → IsQuiet starts_tags (answer_to users f all)
  unfolding answer_to
  judged_quiet f (ends begun a) = end_quiet (f.records + begun) (length f.before) f.findings a
  judged_quiet f (record_of frame rest) =
      let t = record_result users f (contents_of frame) in
      let more = judged_quiet t.after rest in
      record {
        holds = λ done. join starts_tags t.text (answer_to users t.after rest).text true
            (reported_quiet f (contents_of frame)) (more.holds done);
      }

  pub pcap_quiet : (octets : List ℕ) → IsQuiet starts_tags (pcap_answer users octets)
  pcap_quiet octets = judged_quiet nothing_recorded (contents octets)
