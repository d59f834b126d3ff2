-- No line of `check` begins as the line of the verdict does.
use Rattle.std.proofs.Common.{◌≡◌, ℕ, ◌≤◌, Bool, true, false, refl, decimal}
use Rattle.eap_packet.specs.Words.{cause_word}
use Rattle.capture_check.specs.declared.finding.Finding.{Finding}
use Rattle.capture_check.specs.declared.finding.Finding.TheVariants.{Good, Malformed, TagBad}
use Rattle.capture_check.specs.declared.finding.Finding.TheVariants.{TagGood, NoKey, NoContext}
use Rattle.capture_check.proofs.Names.{Names}
use Rattle.answer_text.specs.Findings.{finding_text, findings_text}
use Rattle.answer_text.proofs.Plain.{is_within, plain, through, decimal_within, decimal_first}
use Rattle.answer_text.proofs.PlainKeys.{starts_result}
use Rattle.answer_text.proofs.PlainWords.{cause_within}

-- a line that begins with its number begins with no such octet, where no digit is one
pub finding_plain : (begins : ℕ → Bool) → ((o : ℕ) → 48 ≤ o → o ≤ 57 → begins o ≡ false)
    → (number : ℕ) (finding : Finding)
    → Names (λ name. is_within name ≡ true) finding
    → plain begins true (finding_text number finding) ≡ true
unfolding finding_text
finding_plain begins no_digit number Good h = decimal_first begins no_digit number _ refl
finding_plain begins no_digit number (Malformed cause) h =
    decimal_first begins no_digit number _
    (through begins (cause_word cause) _ (cause_within cause) refl)
finding_plain begins no_digit number TagBad h = decimal_first begins no_digit number _ refl
finding_plain begins no_digit number (TagGood name) h =
    decimal_first begins no_digit number _ (through begins name _ h refl)
finding_plain begins no_digit number NoKey h = decimal_first begins no_digit number _ refl
finding_plain begins no_digit number NoContext h = decimal_first begins no_digit number _ refl

pub findings_plain : (packets findings : ℕ)
    → plain starts_result true (findings_text packets findings) ≡ true
unfolding findings_text
findings_plain packets findings =
    through starts_result (decimal packets) _ (decimal_within packets)
    (through starts_result (decimal findings) _ (decimal_within findings) refl)
