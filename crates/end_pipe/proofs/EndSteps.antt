-- What a line can say at each place of an end's text, and how far the text has come then.
use Rattle.std.proofs.Common.{◌≡◌, ℕ, Bool, true, false, cond, codes, List, Some, None, Ok, subst}
use Rattle.std.specs.Str.{bytes_eq}
use Rattle.text_tables.proofs.Reading as steps
use Rattle.text_tables.proofs.Reading.{Stepped, stepped}
use Rattle.text_tables.specs.Phases.{may_occur}
use Rattle.text_tables.specs.Texts as texts
use Rattle.text_tables.specs.Texts.{entry_in, read_at, read_first_line}
use Rattle.text_tables.specs.declared.phase.Phase.{Phase}
use Rattle.text_tables.specs.declared.phase.Phase.TheVariants as phase
use Rattle.scenario_text.specs.Reading.{no_settings, with_setting}
use Rattle.scenario_text.specs.declared.entry.Setting.{Setting}
use Rattle.scenario_text.specs.declared.settings.Settings.{Settings}
use Rattle.end_pipe.specs.EndContents.{Entry}
use Rattle.end_pipe.specs.EndContents as entry
use Rattle.end_pipe.specs.EndReading.{EndReading, ReadLine, end, is_missing, lacks_some, part_of}
use Rattle.end_pipe.specs.EndReading.{read_line, line_of, line_of_entry}
use Rattle.end_pipe.specs.EndReading as item
use Rattle.end_pipe.specs.EndTable.{row_of}
use Rattle.end_pipe.specs.declared.input.EndInput.{EndInput}
use Rattle.end_pipe.specs.declared.table.Role.{Role}

-- the header; a line that is passed over; a setting, or the line `events` where none is missing; an
-- input, or the line `end`
pub data Follows (role : Role) (s : Settings) : Phase → ReadLine → Type 0 where
  Header : Follows role s phase.Unread (line_of item.Nothing role phase.Settings no_settings)
  Passed : (p : Phase) → Follows role s p (line_of item.Nothing role p s)
  NewSetting : (v : Setting)
      → Follows role s phase.Settings (line_of item.Nothing role phase.Settings (with_setting s v))
  AllSet : lacks_some role s ≡ false
      → Follows role s phase.Settings (line_of item.Ready role phase.Events s)
  NewInput : (input : EndInput)
      → Follows role s phase.Events (line_of (item.Input input) role phase.Events s)
  AllRead : Follows role s phase.Events (line_of item.End role phase.Ended s)

module _ (role : Role) (s : Settings) where
  abbrev at : Phase → EndReading
  at p = record { role = role; phase = p; settings = s }

  accepted_follows : (p : Phase) (e : Entry) → may_occur p (part_of e) ≡ true
      → is_missing role s e ≡ false → Follows role s p (line_of_entry role p s e)
  accepted_follows phase.Settings (entry.Set v) m n = NewSetting v
  accepted_follows phase.Settings entry.Events m n = AllSet n
  accepted_follows phase.Events (entry.Arrives input) m n = NewInput input
  accepted_follows phase.Events entry.End m n = AllRead
  accepted_follows other e m n = absurd cc

  stepped_follows : (p : Phase) (line : List ℕ) (out : ReadLine)
      → Stepped row_of end (at p) line out → Follows role s p out
  stepped_follows p line _ (steps.Passed is) = Passed p
  stepped_follows p line _ (steps.Entered k own may) =
      accepted_follows p (entry_in row_of end (at p) line) may.stands may.whole

  header_read : (out : ReadLine) (same : Bool) → read_first_line row_of end (cond same
      (Some (record { role = role; phase = phase.Settings; settings = no_settings })) None) ≡ Ok out
      → Follows role s phase.Unread out
  header_read out true e =
      let is : line_of item.Nothing role phase.Settings no_settings ≡ out =
      cc in subst (Follows role s phase.Unread) is Header
  header_read out false e = absurd cc

  at_phase : (p : Phase) (line : List ℕ) (out : ReadLine) → read_at row_of end p (at p) line
      ≡ Ok out → Follows role s p out
  at_phase phase.Unread line out e = header_read out (bytes_eq line (codes "eap-end 1")) e
  at_phase other line out e =
      stepped_follows other line out (stepped row_of end (at other) line out e)

-- what a line without a fault says
pub line_follows : (r : EndReading) (line : List ℕ) (out : ReadLine) → read_line r line ≡ Ok out
    → Follows r.role r.settings r.phase out
unfolding read_line texts.read_line
line_follows r line out e = at_phase r.role r.settings r.phase line out e
