-- Lines, read by the definitions alone.
use Rattle.std.proofs.Common.{◌≡◌, ℕ, Bool, List, [], ◌∷◌, true, false, Some, Ok, Err, refl}
use Rattle.std.specs.Prelude.{codes}
use Rattle.text_tables.specs.Fields.{spells_octets}
use Rattle.text_tables.specs.Rows.{keyword_in, line_has}
use Rattle.text_tables.specs.declared.fault.LineFault.{LineFault}
use Rattle.text_tables.specs.declared.fault.LineFault.TheVariants as fault
use Rattle.text_tables.specs.Texts.{body_has, has_at}
use Rattle.text_tables.specs.declared.phase.Phase.{Phase}
use Rattle.text_tables.specs.declared.phase.Phase.TheVariants as phase
use Rattle.request_text.specs.Captures.{capture, entry_of, row_of}
use Rattle.request_text.specs.Keys.{asked_of, asked_by, key_line}
use Rattle.request_text.specs.declared.key_line.KeyLine.TheVariants as request

requests : (key_line (codes "name 0aFf") ≡ Ok (Some (request.Name (10 ∷ 255 ∷ []))))
    × (key_line (codes "cmac 2b 0g") ≡ Err fault.BadHex)
    × (key_line (codes "gpsk 3 00 00 - 00 -") ≡ Err fault.BadNumber)
unfolding key_line asked_by asked_of line_has keyword_in spells_octets
requests = (refl, refl, refl)

-- the header of a capture stands first; an empty line and a comment are passed over, also after the
-- end
abbrev capture_has : Phase → List ℕ → LineFault → Bool
capture_has p line f = has_at row_of capture p (record { phase = p; users = [] }) line f

capture_lines : (capture_has phase.Unread (codes "eap-capture 2") fault.NoHeader ≡ true)
    × (capture_has phase.Unread (codes "eap-capture 1") fault.NoHeader ≡ false)
    × (capture_has phase.Settings (codes "end") fault.Order ≡ true)
    × (capture_has phase.Events (codes "> 0g") fault.BadHex ≡ true)
    × (capture_has phase.Events (codes "> 0a") fault.BadHex ≡ false)
    × (capture_has phase.Ended (codes "") fault.BadWord ≡ false)
    × (capture_has phase.Ended (codes "# end") fault.Order ≡ false)
unfolding body_has entry_of line_has keyword_in spells_octets
capture_lines = (refl, refl, refl, refl, refl, refl, refl)
