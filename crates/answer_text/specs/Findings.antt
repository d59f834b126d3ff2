-- The finding of a captured packet, in one line.
use Rattle.std.specs.Prelude.{ℕ, List, [], ◌∷◌, codes, decimal}
use Rattle.std.specs.List.{concat}
use Rattle.eap_packet.specs.Words.{cause_word}
use Rattle.capture_check.specs.declared.finding.Finding.{Finding}
use Rattle.capture_check.specs.declared.finding.Finding.TheVariants.{Good, Malformed, TagBad}
use Rattle.capture_check.specs.declared.finding.Finding.TheVariants.{TagGood, NoKey, NoContext}

-- the line of the packet with this number
unfoldable pub finding_text : ℕ → Finding → List ℕ
finding_text number Good = concat (decimal number ∷ codes " good\n" ∷ [])
finding_text number (Malformed cause) =
    concat (decimal number ∷ codes " malformed " ∷ cause_word cause ∷ codes "\n" ∷ [])
finding_text number TagBad = concat (decimal number ∷ codes " tag-bad\n" ∷ [])
finding_text number (TagGood name) =
    concat (decimal number ∷ codes " tag-good " ∷ name ∷ codes "\n" ∷ [])
finding_text number NoKey = concat (decimal number ∷ codes " no-key\n" ∷ [])
finding_text number NoContext = concat (decimal number ∷ codes " no-context\n" ∷ [])

-- the last line: how many packets there were, and how many of them are malformed or have a bad tag
unfoldable pub findings_text : ℕ → ℕ → List ℕ
findings_text packets findings = concat
    (codes "packets " ∷ decimal packets ∷ codes " findings " ∷ decimal findings ∷ codes "\n" ∷ [])
