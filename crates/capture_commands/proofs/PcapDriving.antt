-- A file of captured frames on its way through its records.
use Rattle.std.proofs.Common.{◌≡◌, ◌≢◌, ℕ, ◌+◌, ◌≤◌, List, [], ◌++◌, Bool, true, false}
use Rattle.std.proofs.Common.{if◌then◌else◌, Option, Some, refl, sym, ◌∙◌, ap, subst, append_assoc}
use Rattle.std.proofs.Common.{arith}
use Rattle.std.specs.Prelude.{option_map}
use Rattle.octet_io.specs.Known.{append_known}
use Rattle.octet_io.specs.Shown.{Shown}
use Rattle.login_setup.specs.declared.users.User.{User}
use Rattle.eapol_capture.specs.Files.{Contents, ends, record_of}
use Rattle.eapol_capture.specs.Frames.{Carried, other, cut, eap, contents_of}
use Rattle.eapol_capture.specs.Reading.{Reading, Divides, Faults, begun, initiated_in}
use Rattle.eapol_capture.specs.declared.reader.NextRecord.{NextRecord}
use Rattle.eapol_capture.specs.declared.reader.NextRecord.TheVariants as answer
use Rattle.capture_check.specs.Finding.{finding_in}
use Rattle.answer_text.specs.Writes.{WritesFront}
use Rattle.answer_text.proofs.Fronts.{append_known_append, append_known_nil}
use Rattle.command_driver.specs.Answers.{after_text, Ends}
use Rattle.capture_commands.specs.Check.{is_counted}
use Rattle.capture_commands.specs.Pcap.{is_to_peer, file_end}
use Rattle.capture_commands.specs.PcapSteps.{record_step, answer_from, nothing_found, HasFound}
use Rattle.capture_commands.specs.declared.pcap.PcapTotals.{PcapTotals}
use Rattle.command_driver.specs.declared.status.Status.{Status}
use Rattle.command_driver.proofs.Driving.{made}
use Rattle.command_driver.proofs.Endings.{Progress, ends_progress, front_progress, front_none}
use Rattle.command_driver.proofs.Endings.{front_first}

-- any answer but a record and a failed read ends what was to be answered
pub divides_last : (a : NextRecord) (begun : ℕ) (frame : List ℕ) (before after : Option Contents)
    → a ≢ answer.Record → a ≢ answer.Read
    → Divides a begun frame before after → before ≡ option_map (λ _. ends begun a) after
divides_last answer.Record begun frame before after r f d = absurd (r refl)
divides_last answer.Read begun frame before after r f d = absurd (f refl)
divides_last a begun frame before after r f d = d

-- and leaves the count of failed reads as it was
pub faults_last : {S : Type 0} (shown : Shown S) (a : NextRecord) (before after : S)
    → a ≢ answer.Read
    → Faults shown a before after → shown.faults after ≡ shown.faults before
faults_last shown answer.Read before after f h = absurd (f refl)
faults_last shown a before after f h = h

-- and begins as many records as it says
pub started_last : (a : NextRecord) (start : ℕ) (after : Reading) → a ≢ answer.Read
    → begun a start after ≡ initiated_in a after.order
started_last answer.Read start after f = absurd (f refl)
started_last a start after f = refl

-- a record has at most one packet, and one finding that counts
count_is : (b : Bool) (n : ℕ) → n + (if b then 1 else 0) ≤ n + 1
count_is true n = omega arith
count_is false n = omega arith

pub found_step : (users : List User) (f : PcapTotals) (n number : ℕ) (c : Carried) → number ≡ n + 1
    → HasFound f n → HasFound (record_step users f number c).after number
unfolding record_step
found_step users f n number other e h =
    record { packets = omega (arith, e, h.packets); findings = omega (arith, e, h.findings) }
found_step users f n number cut e h =
    record { packets = omega (arith, e, h.packets); findings = omega (arith, e, h.findings) }
found_step users f n number (eap octets) e h =
    let finding = finding_in users f.checker (is_to_peer octets) octets in
    record {
      packets = omega (arith, e, h.packets);
      findings = omega (arith, e, h.findings, count_is (is_counted finding) f.findings);
    }

module _ (users : List User) where
  record_first : (n : ℕ) (f : PcapTotals) (frame : List ℕ) (rest : Contents)
      → answer_from users n f (record_of frame rest)
      ≡ after_text (record_step users f (n + 1) (contents_of frame)).text
      (answer_from users (n + 1) (record_step users f (n + 1) (contents_of frame)).after rest)
  unfolding answer_from
  record_first n f frame rest = refl

  end_first : (n : ℕ) (f : PcapTotals) (begun : ℕ) (a : NextRecord)
      → answer_from users n f (ends begun a) ≡ file_end (n + begun) f.packets f.findings a
  unfolding answer_from
  end_first n f begun a = refl

  -- after n records the command is at what is left of the file
  pub record Underway (before now : Option (List ℕ)) (all : Contents) (n : ℕ) (f : PcapTotals)
      (left : Option Contents) : Type 0 where
    pub rest : Contents
    pub known : left ≡ Some rest
    pub progress : Progress before now (answer_from users 0 nothing_found all)
        (answer_from users n f rest)

  pub underway_starts : (before : Option (List ℕ)) (all : Contents) (left : Option Contents)
      → left ≡ Some all → Underway before before all 0 nothing_found left
  underway_starts before all left e = record {
    rest = all;
    known = e;
    progress = record { front = []; split = refl; appended = append_known_nil before };
  }

  -- a record is judged
  pub underway_proceeds : (before mid now : Option (List ℕ)) (all : Contents) (n number : ℕ)
      (f new : PcapTotals) (frame : List ℕ) (left next : Option Contents)
      → Underway before mid all n f left → left ≡ option_map (record_of frame) next → number ≡ n + 1
      → append_known mid (record_step users f number (contents_of frame)).text ≡ now
      → new ≡ (record_step users f number (contents_of frame)).after
      → Underway before now all number new next
  underway_proceeds before mid now all n number f new frame left next u e count text after =
      let m = made (record_of frame) next u.rest (sym u.known ∙ e) in
      let step = record_step users f (n + 1) (contents_of frame) in
      let written : append_known mid step.text ≡ now = subst (λ (k : ℕ).
      append_known mid (record_step users f k (contents_of frame)).text ≡ now) count text in
      let is_new : new ≡ step.after =
      subst (λ (k : ℕ). new ≡ (record_step users f k (contents_of frame)).after) count after in
      record {
        rest = m.from;
        known = m.is;
        progress = record {
          front = u.progress.front ++ step.text;
          split = u.progress.split ∙ ap (after_text u.progress.front) (ap (answer_from users n
              f) m.value ∙ record_first n f frame m.from) ∙ rw (count, is_new, append_assoc) refl;
          appended = append_known_append before u.progress.front step.text
              ∙ ap (λ k. append_known k step.text) u.progress.appended ∙ written;
        };
      }

  -- the line of a record is cut short
  pub underway_cut : (before mid now : Option (List ℕ)) (all : Contents) (n number : ℕ)
      (f : PcapTotals) (frame : List ℕ) (left next : Option Contents)
      → Underway before mid all n f left → left ≡ option_map (record_of frame) next → number ≡ n + 1
      → WritesFront mid now (record_step users f number (contents_of frame)).text
      → WritesFront before now (answer_from users 0 nothing_found all).text
  underway_cut before mid now all n number f frame left next u e count w =
      let m = made (record_of frame) next u.rest (sym u.known ∙ e) in
      let front : WritesFront mid now (record_step users f (n + 1) (contents_of frame)).text =
      subst (λ (k : ℕ). WritesFront mid now (record_step users f k (contents_of frame)).text)
      count w in
      front_progress before mid now _ _ u.progress
      (rw (m.value, record_first n f frame m.from) (front_first mid now _ _ front))

  -- nothing more is written
  pub underway_rests : (before now : Option (List ℕ)) (all : Contents) (n : ℕ) (f : PcapTotals)
      (left : Option Contents)
      → Underway before now all n f left
      → WritesFront before now (answer_from users 0 nothing_found all).text
  underway_rests before now all n f left u =
      front_progress before now now _ _ u.progress (front_none now _)

  -- the file ends
  pub underway_ends : (before mid now : Option (List ℕ)) (all : Contents) (n number begun : ℕ)
      (f : PcapTotals) (a : NextRecord) (result : Status) (left next : Option Contents)
      → Underway before mid all n f left → left ≡ option_map (λ _. ends begun a) next
      → number ≡ n + begun
      → Ends result mid now (file_end number f.packets f.findings a)
      → Ends result before now (answer_from users 0 nothing_found all)
  underway_ends before mid now all n number begun f a result left next u e count w =
      let m = made (λ _. ends begun a) next u.rest (sym u.known ∙ e) in
      let ended : Ends result mid now (file_end (n + begun) f.packets f.findings a) =
      subst (λ (k : ℕ). Ends result mid now (file_end k f.packets f.findings a)) count w in
      ends_progress result before mid now _ _ u.progress (rw (m.value, end_first n f begun a) ended)
