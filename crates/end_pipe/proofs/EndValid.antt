-- What has been read of an end's text is within its limits.
use Rattle.std.proofs.Common.{◌≡◌, ℕ, ◌≤◌, false, List, Option, Some, None, IfSome, IsOk, Result}
use Rattle.std.proofs.Common.{Ok, Err, is_err, refl, subst, lit≤, unwrap_or}
use Rattle.text_tables.specs.IsValidRow.{IsValidRow}
use Rattle.text_tables.specs.declared.fault.LineFault.{LineFault}
use Rattle.scenario_text.proofs.ValidReading as scenario
use Rattle.scenario_text.specs.Contents as item
use Rattle.scenario_text.specs.Entries.{item_of}
use Rattle.scenario_text.specs.Reading.{peer_setup_of, server_setup_of}
use Rattle.scenario_text.specs.Valid.{IsValidSetting}
use Rattle.scenario_text.specs.Valid as valid
use Rattle.scenario_text.specs.declared.entry.Entry as told
use Rattle.scenario_text.specs.declared.settings.Settings.{Settings}
use Rattle.end_pipe.specs.EndContents.{Entry, entry_of, entry_with, setting_entry}
use Rattle.end_pipe.specs.EndContents as entry
use Rattle.end_pipe.specs.EndReading.{AreWhole, IsValidContent, lacks_some}
use Rattle.end_pipe.specs.EndTable.{row_of}
use Rattle.end_pipe.specs.declared.input.EndInput.{EndInput}
use Rattle.end_pipe.specs.declared.table.EndWord.{EndWord}
use Rattle.end_pipe.specs.declared.table.EndWord.TheVariants as word
use Rattle.end_pipe.specs.declared.table.Role.{Role}
use Rattle.end_pipe.specs.declared.table.Role.TheVariants.{Peer, Server}

abbrev IsValidEntry : Entry → Type 0
IsValidEntry (entry.Set v) = IsValidSetting v
IsValidEntry other = Unit {0}

setting_valid : (e : item.Entry) → valid.IsValidEntry e → IsValidEntry (setting_entry e)
setting_valid (item.Set v) h = h
setting_valid other h = tt

entry_of_valid : (k : EndWord) (ws : List (List ℕ)) → IsValidRow (row_of k) ws
    → IsValidEntry (entry_of k ws)
unfolding entry_of
entry_of_valid (word.Setting keyword) ws h =
    setting_valid (item_of keyword ws) (scenario.item_of_valid keyword ws h)
entry_of_valid other ws h = tt

reported_valid : (it : told.Entry) (input : EndInput) → IsValidEntry (entry_with it input)
    → IsValidContent it
reported_valid (told.TheVariants.Set v) input h = h
reported_valid other input h = tt

-- what is told of a line whose words fit its row
pub read_valid : (k : EndWord) (ws : List (List ℕ)) (it : told.Entry) (input : EndInput)
    → IsValidRow (row_of k) ws → entry_of k ws ≡ entry_with it input → IsValidContent it
read_valid k ws it input h e =
    reported_valid it input (subst IsValidEntry e (entry_of_valid k ws h))

there : {A : Type 0} (r : Result A LineFault) → is_err r ≡ false → IsOk r
there (Ok a) e = refl
there (Err f) e = absurd cc

-- settings that none is missing of
pub whole : (role : Role) (s : Settings) → lacks_some role s ≡ false → AreWhole role s
whole Server s e = there (server_setup_of s) e
whole Peer s e = there (peer_setup_of s) e

pub few_retrans : (slot : Option ℕ) → IfSome slot (λ count. count ≤ 10) → unwrap_or slot 4 ≤ 10
few_retrans None h = lit≤ tt
few_retrans (Some count) h = h
