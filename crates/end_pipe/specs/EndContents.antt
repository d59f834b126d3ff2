-- The lines of an end's text: what each says, if no fault keeps it from that.
use Rattle.std.specs.Prelude.{ℕ, List}
use Rattle.text_tables.specs.Fields.{word_in, octets_of}
use Rattle.scenario_text.specs.Contents as scenario
use Rattle.scenario_text.specs.Entries.{item_of}
use Rattle.scenario_text.specs.declared.entry.Entry as told
use Rattle.scenario_text.specs.declared.entry.Setting.{Setting}
use Rattle.end_pipe.specs.declared.input.EndInput.{EndInput}
use Rattle.end_pipe.specs.declared.input.EndInput.TheVariants as inputs
use Rattle.end_pipe.specs.declared.table.EndWord.{EndWord}
use Rattle.end_pipe.specs.declared.table.EndWord.TheVariants as word

-- a setting, the line `events`, an input, the line `end`
pub data Entry : Type 0 where
  Set : Setting → Entry
  Events : Entry
  Arrives : EndInput → Entry
  End : Entry

-- a setting says what it says in a scenario; no other line of a scenario is in the tables of both
-- ends
abbrev pub setting_entry : scenario.Entry → Entry
setting_entry (scenario.Set v) = Set v
setting_entry other = End

-- what a keyword says with the words of its line
unfoldable pub entry_of : EndWord → List (List ℕ) → Entry
entry_of (word.Setting keyword) ws = setting_entry (item_of keyword ws)
entry_of word.Events ws = Events
entry_of word.Packet ws = Arrives (inputs.Octets (octets_of (word_in ws 1)))
entry_of word.Timeout ws = Arrives inputs.Timeout
entry_of word.Idle ws = Arrives inputs.Idle
entry_of word.AltAccept ws = Arrives inputs.AltAccept
entry_of word.AltReject ws = Arrives inputs.AltReject
entry_of word.End ws = End

-- what a line contains, with the input that was written if it has one
abbrev pub entry_with : told.Entry → EndInput → Entry
entry_with (told.TheVariants.Set v) input = Set v
entry_with told.TheVariants.Events input = Events
entry_with told.TheVariants.Happens input = Arrives input
entry_with told.TheVariants.End input = End
