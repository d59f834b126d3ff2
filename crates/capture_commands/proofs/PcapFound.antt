-- What is kept of a file of captured frames answers as its packets themselves do.
use Rattle.std.proofs.Common.{◌≡◌, ℕ, ◌+◌, List, [], ◌∷◌, refl, sym, ap, ◌∙◌, length-append}
use Rattle.login_setup.specs.declared.users.User.{User}
use Rattle.eapol_capture.specs.Files.{Contents, ends, record_of, contents}
use Rattle.eapol_capture.specs.Frames.{Carried, other, cut, eap, contents_of}
use Rattle.capture_check.specs.Captured.{Captured}
use Rattle.capture_check.specs.Finding.{finding_of}
use Rattle.capture_check.proofs.Preserving.{preserved_of_none, preserved_of_next}
use Rattle.command_driver.specs.Answers.{after_text}
use Rattle.capture_commands.specs.Pcap.{PcapNow, RecordResult, record_result, is_to_peer, answer_to}
use Rattle.capture_commands.specs.Pcap.{nothing_recorded, pcap_answer}
use Rattle.capture_commands.specs.PcapSteps.{RecordStep, record_step, answer_from, nothing_found}
use Rattle.capture_commands.specs.PcapSteps.{found_in}

-- what a record brings, with what is kept after it
abbrev pcap_step : List User → RecordResult → RecordStep
pcap_step users t = record { text = t.text; after = found_in users t.after }

step_alike : (users : List User) (f : PcapNow) (c : Carried) → record_step users (found_in users
    f) (f.records + 1) c ≡ pcap_step users (record_result users f c)
unfolding record_step finding_of
step_alike users f other = refl
step_alike users f cut = refl
step_alike users f (eap octets) =
    let packet : Captured = record { to_peer = is_to_peer octets; octets = octets } in
    rw (
      preserved_of_next users f.before (is_to_peer octets) octets,
      length-append f.before (packet ∷ []),
    ) refl

records_reported : (users : List User) (f : PcapNow) (c : Carried)
    → (record_result users f c).after.records ≡ f.records + 1
records_reported users f other = refl
records_reported users f cut = refl
records_reported users f (eap octets) = refl

answers_alike : (users : List User) (f : PcapNow) (all : Contents)
    → answer_from users f.records (found_in users f) all ≡ answer_to users f all
unfolding answer_from answer_to
answers_alike users f (ends begun a) = refl
answers_alike users f (record_of frame rest) =
    let t = record_result users f (contents_of frame) in
    rw (step_alike users f (contents_of frame))
    (ap (after_text t.text) (ap (λ n. answer_from users n (found_in users t.after) rest) (sym
    (records_reported users f (contents_of frame))) ∙ answers_alike users t.after rest))

nothing_preserved_of : (users : List User) → nothing_found ≡ found_in users nothing_recorded
nothing_preserved_of users = rw (preserved_of_none users) refl

-- the answer to a file
pub pcap_answers : (users : List User) (octets : List ℕ)
    → answer_from users 0 nothing_found (contents octets) ≡ pcap_answer users octets
pcap_answers users octets =
    rw (nothing_preserved_of users) (answers_alike users nothing_recorded (contents octets))
