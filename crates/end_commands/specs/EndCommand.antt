-- A command over one end, line by line: its text is read, and what comes to the end is answered as
-- it comes.
use Rattle.std.specs.Prelude.{◌≡◌, ℕ, ◌+◌, List, [], Bool, false, nat_le, if◌then◌else◌, Option}
use Rattle.std.specs.Prelude.{Some, None, option_map, IfSome, IsSome, Result, Ok, Err, codes}
use Rattle.text_tables.specs.Words.{fault_word}
use Rattle.text_tables.specs.declared.fault.LineFault.{LineFault}
use Rattle.end_pipe.specs.EndReading.{EndReading, ReadLine, Item, finish_of, read_line, unread}
use Rattle.end_pipe.specs.EndReading as item
use Rattle.end_pipe.specs.EndRun.{EndStart, EndNow, EndOutcome, MachineTable, end_now, end_step}
use Rattle.end_pipe.specs.declared.input.EndInput.{EndInput}
use Rattle.end_pipe.specs.declared.table.Role.{Role}
use Rattle.command_driver.specs.Commands.{LineResult, Closing, goes, refuses, ends, misses}
use Rattle.command_driver.specs.declared.status.Status.TheVariants as status
use Rattle.end_commands.specs.EndScript.{max_inputs}
use Rattle.end_commands.specs.EndText.{told_text, start_text, last_text}
use Rattle.end_commands.specs.declared.end.End.{End}

-- what of the command decides its lines: what has been read, the end from the line `events` on, and
-- how many inputs it has taken
pub record CommandNow (N : Type 0) : Type 0 where
  pub reader : EndReading
  pub pipe : Option (EndNow N)
  pub taken : ℕ

-- a line that brings nothing to write
abbrev pub proceeds_silently : {N : Type 0} → CommandNow N → LineResult (CommandNow N)
proceeds_silently c = record { text = []; ruling = goes; after = c }

abbrev pub is_refused : {N : Type 0} → CommandNow N → List ℕ → LineResult (CommandNow N)
is_refused c word = record { text = []; ruling = refuses word status.Refused; after = c }

-- the line `events`: the end begins
abbrev pub begins_with : {N : Type 0} → CommandNow N → Result (EndStart N) LineFault
    → LineResult (CommandNow N)
begins_with c (Err fault) = proceeds_silently c
begins_with c (Ok start) = record {
  text = start_text start.told;
  ruling = goes;
  after = record c { pipe = Some start.after };
}

abbrev pub initiates_in : {N : Type 0} → MachineTable N → CommandNow N → Option (EndNow N)
    → LineResult (CommandNow N)
initiates_in table c (Some e) = proceeds_silently c
initiates_in table c None = begins_with c (table.begins c.reader.settings)

-- an input: the end takes it, but for one too many
abbrev pub steps_to : {N : Type 0} → CommandNow N → EndOutcome N → LineResult (CommandNow N)
steps_to c out =
    if nat_le max_inputs c.taken
    then record { text = []; ruling = refuses (codes "TooMuch") status.TooMuch; after = c }
    else record {
      text = told_text (c.taken + 1) out.told;
      ruling = goes;
      after = record c { pipe = Some out.after; taken = c.taken + 1 };
    }

abbrev pub steps_in : {N : Type 0} → MachineTable N → CommandNow N → Option (EndNow N) → EndInput
    → LineResult (CommandNow N)
steps_in table c None input = proceeds_silently c
steps_in table c (Some e) input = steps_to c (end_step table e input)

module _ {N : Type 0} (table : MachineTable N) where
  abbrev pub starts_at : CommandNow N → LineResult (CommandNow N)
  starts_at c = initiates_in table c c.pipe

  abbrev pub steps_at : CommandNow N → EndInput → LineResult (CommandNow N)
  steps_at c input = steps_in table c c.pipe input

  abbrev pub item_result : CommandNow N → Item → LineResult (CommandNow N)
  item_result c item.Nothing = proceeds_silently c
  item_result c item.Ready = starts_at c
  item_result c (item.Input input) = steps_at c input
  item_result c item.End = proceeds_silently c

  abbrev pub reading_result : CommandNow N → Result ReadLine LineFault → LineResult (CommandNow N)
  reading_result c (Err fault) = is_refused c (fault_word fault)
  reading_result c (Ok r) = item_result (record c { reader = r.after }) r.item

  -- the result of a line
  unfoldable pub end_line_result : CommandNow N → List ℕ → LineResult (CommandNow N)
  end_line_result c l = reading_result c (read_line c.reader l)

  -- the end of the input
  abbrev pub last_of : Option (EndNow N) → List ℕ
  last_of None = []
  last_of (Some e) = last_text (table.state e.now)

  abbrev pub closing_by : CommandNow N → Result (Unit {0}) LineFault → Closing
  closing_by c (Ok done) = record { text = last_of c.pipe; closed = ends status.Done }
  closing_by c (Err fault) = record { text = []; closed = misses (fault_word fault) }

  unfoldable pub end_closing : CommandNow N → Closing
  end_closing c = closing_by c (finish_of c.reader)

-- nothing has been read
abbrev pub initial_command : {N : Type 0} → Role → CommandNow N
initial_command role = record { reader = unread role; pipe = None; taken = 0 }

-- no line fails for want of memory
abbrev pub end_lacks : {N : Type 0} → CommandNow N → List ℕ → Bool
end_lacks c line = false

abbrev pub end_seen : {M E N : Type 0} → (E → N) → End M E → CommandNow N
end_seen shown
    c = record { reader = c.reader; pipe = option_map (end_now shown) c.pipe; taken = c.taken }

-- the objects of both methods are there until the end begins, and then inputs may come to it
pub record IsReady {M E : Type 0} (is_running : E → Type 0) (has_both : List M → Type 0)
    (c : End M E) (lines : ℕ) : Type 0 where
  pub there : c.pipe ≡ None → IsSome c.methods
  pub objects : IfSome c.methods (λ methods. has_both methods.items)
  pub going : IfSome c.pipe (λ p. is_running p.machine)
