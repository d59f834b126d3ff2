-- An end's text, as all its lines make it, and what it answers: the text of the end's run.
use Rattle.std.specs.Prelude.{ℕ, ◌+◌, List, [], ◌∷◌, Bool, true, false, nat_le, ◌&&◌, if◌then◌else◌}
use Rattle.std.specs.Prelude.{Option, Some, None, Result, Ok, Err, codes}
use Rattle.octet_io.specs.Lines.{Lines, ended, too_long, too_much, line, lines}
use Rattle.text_tables.specs.Words.{fault_word}
use Rattle.text_tables.specs.declared.fault.LineFault.{LineFault}
use Rattle.scenario_text.specs.declared.settings.Settings.{Settings}
use Rattle.end_pipe.specs.EndReading.{EndReading, ReadLine, Item, unread, read_line, finish_of}
use Rattle.end_pipe.specs.EndReading as item
use Rattle.end_pipe.specs.EndRun.{EndStart, EndNow, MachineTable, end_after, end_step, told_of}
use Rattle.end_pipe.specs.declared.input.EndInput.{EndInput}
use Rattle.end_pipe.specs.declared.table.Role.{Role}
use Rattle.command_driver.specs.Answers.{Answer, after_text, refusal}
use Rattle.command_driver.specs.declared.status.Status.{Status}
use Rattle.command_driver.specs.declared.status.Status.TheVariants as status
use Rattle.end_commands.specs.EndText.{start_text, tolds_text, last_text}

-- at most 10,000 inputs are taken
abbrev pub max_inputs : ℕ
max_inputs = 10000

-- a text is whole, or refused at a line with a word and a status
pub data Ending : Type 0 where
  whole : Ending
  refused : ℕ → List ℕ → Status → Ending

-- the settings, if they were whole; the inputs, up to a refused line; and the ending
pub record Script : Type 0 where
  pub settings : Option Settings
  pub inputs : List EndInput
  pub ending : Ending

-- nothing more is read
abbrev pub stops : Ending → Script
stops ending = record { settings = None; inputs = []; ending = ending }

-- what an item, after which these settings have been read, adds to the script that follows it
abbrev pub adds : Item → Settings → Script → Script
adds item.Nothing settings s = s
adds item.Ready settings s = record s { settings = Some settings }
adds (item.Input input) settings s = record s { inputs = input ∷ s.inputs }
adds item.End settings s = s

abbrev pub is_input : Item → Bool
is_input (item.Input input) = true
is_input other = false

-- the first line that is too much
abbrev pub too_much_at : ℕ → Ending
too_much_at number = refused number (codes "TooMuch") status.TooMuch

abbrev pub finish_ending : ℕ → Result (Unit {0}) LineFault → Ending
finish_ending number (Ok done) = whole
finish_ending number (Err fault) = refused number (fault_word fault) status.Refused

-- after a line: what has been read, and how many inputs have come
abbrev pub read_after : EndReading → Result ReadLine LineFault → EndReading
read_after r (Ok x) = x.after
read_after r (Err fault) = r

abbrev pub accepted_after : ℕ → Result ReadLine LineFault → ℕ
accepted_after taken (Ok x) = if is_input x.item then taken + 1 else taken
accepted_after taken (Err fault) = taken

-- the script from a line on, whose number is given and before which so many inputs have come
abbrev pub with_line : ℕ → ℕ → Result ReadLine LineFault → Script → Script
with_line number taken (Err fault) s = stops (refused number (fault_word fault) status.Refused)
with_line number taken (Ok x) s =
    if is_input x.item && nat_le max_inputs taken then stops (too_much_at number)
    else adds x.item x.after.settings s

-- the script that the lines make, if n lines and so many inputs have come before them
unfoldable pub script_from : ℕ → ℕ → EndReading → Lines → Script
script_from n taken r ended = stops (finish_ending (n + 1) (finish_of r))
script_from n taken r too_long = stops (too_much_at (n + 1))
script_from n taken r too_much = stops (too_much_at (n + 1))
script_from n taken r (line l rest) =
    with_line (n + 1) taken (read_line r l)
    (script_from (n + 1) (accepted_after taken (read_line r l)) (read_after r (read_line r l)) rest)

-- the script that an input is to this end
abbrev pub script_of : Role → List ℕ → Script
script_of role octets = script_from 0 0 (unread role) (lines octets)

-- without an end nothing is written of inputs
abbrev pub unset_answer : Ending → Answer
unset_answer whole = record { text = []; status = status.Done }
unset_answer (refused number word s) = refusal number word s

-- an end with this machine
module _ {N : Type 0} (table : MachineTable N) where
  -- after the inputs: the last lines, or those of a refusal
  abbrev pub ending_answer : EndNow N → Ending → Answer
  ending_answer e whole = record { text = last_text (table.state e.now); status = status.Done }
  ending_answer e (refused number word s) = refusal number word s

  -- the answer from an end on that has taken so many inputs: the results of the inputs to come, and
  -- the ending
  abbrev pub run_answer : ℕ → EndNow N → List EndInput → Ending → Answer
  run_answer taken e inputs ending =
      after_text (tolds_text taken (told_of (end_step table) e inputs))
      (ending_answer (end_after (end_step table) e inputs) ending)

  abbrev pub started_answer : Result (EndStart N) LineFault → List EndInput → Ending → Answer
  started_answer (Err fault) inputs ending = unset_answer ending
  started_answer (Ok start) inputs ending =
      after_text (start_text start.told) (run_answer 0 start.after inputs ending)

  abbrev pub settings_answer : Option Settings → List EndInput → Ending → Answer
  settings_answer None inputs ending = unset_answer ending
  settings_answer (Some settings) inputs ending =
      started_answer (table.begins settings) inputs ending

  abbrev pub script_answer : Script → Answer
  script_answer s = settings_answer s.settings s.inputs s.ending
