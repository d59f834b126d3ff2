-- No line of `peer` or `server` begins as the line of the result does.
use Rattle.std.proofs.Common.{◌≡◌, ℕ, ◌+◌, List, [], Bool, true, false, nat_le, cond, codes, Option}
use Rattle.std.proofs.Common.{Some, None, Result, Ok, Err, refl, subst}
use Rattle.octet_io.specs.Lines.{lines}
use Rattle.eap_method.specs.declared.values.Report.{Report}
use Rattle.eap_packet.specs.Words.{state_word}
use Rattle.eap_packet.specs.declared.state.State.{State}
use Rattle.login_keys.specs.KeyName.{key_name_of}
use Rattle.text_tables.specs.declared.fault.LineFault.{LineFault}
use Rattle.end_pipe.specs.EndReading.{Item, ReadLine, finish_of, read_line}
use Rattle.end_pipe.specs.EndReading as item
use Rattle.end_pipe.specs.EndRun.{EndStart, EndNow, EndOutcome, EndTold, MachineTable, end_step}
use Rattle.end_pipe.specs.EndRun.{peer_table, server_table}
use Rattle.end_pipe.specs.declared.input.EndInput.{EndInput}
use Rattle.end_pipe.specs.declared.table.Role.{Role}
use Rattle.end_pipe.specs.declared.table.Role.TheVariants.{Peer, Server}
use Rattle.answer_text.specs.Pieces.{hex_text}
use Rattle.answer_text.specs.Paths.{cause_text, path_text, states_line}
use Rattle.answer_text.proofs.Plain.{plain, join, through, decimal_first}
use Rattle.answer_text.proofs.PlainWords.{hex_within, state_within}
use Rattle.answer_text.proofs.PlainPaths.{cause_plain, path_plain}
use Rattle.answer_text.proofs.PlainKeys.{starts_result, no_result}
use Rattle.command_driver.specs.Commands.{LineResult, answer, goes, refuses}
use Rattle.command_driver.specs.declared.status.Status.TheVariants as status
use Rattle.command_driver.proofs.Quiet.{IsQuiet, IsQuietLine, quiet_answer}
use Rattle.end_commands.specs.EndCommand.{CommandNow, initiates_in, begins_with, closing_by}
use Rattle.end_commands.specs.EndCommand.{end_closing, end_line_result, last_of, initial_command}
use Rattle.end_commands.specs.EndCommand.{steps_in, item_result, reading_result}
use Rattle.end_commands.specs.EndScript.{max_inputs}
use Rattle.end_commands.specs.EndText.{acted_text, keys_text, last_text, send_text, start_text}
use Rattle.end_commands.specs.EndText.{told_by, told_text}
use Rattle.end_commands.specs.PeerCommand.{peer_answer}
use Rattle.end_commands.specs.ServerCommand.{server_answer}
use Rattle.end_commands.proofs.Answering.{peer_answers, server_answers}

abbrev IsPlain : List ℕ → Type 0
IsPlain text = plain starts_result true text ≡ true

-- ---- the lines

send_plain : (number : ℕ) (sent : Option (List ℕ)) → IsPlain (send_text number sent)
send_plain number None = refl
send_plain number (Some octets) = decimal_first starts_result no_result number _
    (through starts_result (hex_text octets) _ (hex_within octets) refl)

keys_plain : (number : ℕ) (named : Option Report) → IsPlain (keys_text number named)
keys_plain number None = refl
keys_plain number (Some report) =
    let msk = key_name_of report.msk in
    let emsk = key_name_of report.emsk in
    decimal_first starts_result no_result number _
    (through starts_result (hex_text msk) _ (hex_within msk)
    (through starts_result (hex_text emsk) _ (hex_within emsk) refl))

states_plain : (number : ℕ) (path : List State) → IsPlain (states_line number path)
states_plain number path = decimal_first starts_result no_result number (path_text path)
    (path_plain starts_result no_result path)

acted_plain : (number : ℕ) (told : EndTold) → IsPlain (acted_text number told)
acted_plain number told =
    join starts_result (states_line number told.step.path) _ true
    (states_plain number told.step.path) (join starts_result (cause_text number told.step.cause)
    _ true (cause_plain starts_result no_result number told.step.cause)
    (join starts_result (send_text number told.step.sent) (keys_text number told.named) true
    (send_plain number told.step.sent) (keys_plain number told.named)))

by_plain : (number : ℕ) (told : EndTold) (skipped : Bool) → IsPlain (told_by number told skipped)
by_plain number told true = decimal_first starts_result no_result number _ refl
by_plain number told false = acted_plain number told

reported_plain : (number : ℕ) (told : EndTold) → IsPlain (told_text number told)
unfolding told_text
reported_plain number told = by_plain number told told.skipped

start_plain : (told : Option EndTold) → IsPlain (start_text told)
start_plain None = refl
start_plain (Some told) = reported_plain 0 told

last_plain : (state : State) → IsPlain (last_text state)
unfolding last_text
last_plain state = through starts_result (state_word state) _ (state_within state) refl

-- ---- what each line brings

module _ {N : Type 0} (table : MachineTable N) where
  abbrev Any : CommandNow N → Type 0
  Any c = Unit {0}

  abbrev IsQuietEnd : LineResult (CommandNow N) → Type 0
  IsQuietEnd t = IsQuietLine starts_result Any t

  starts_quiet : (c : CommandNow N) (x : Result (EndStart N) LineFault)
      → IsQuietEnd (begins_with c x)
  starts_quiet c (Err fault) = record { text = refl; refusing = tt; after = tt }
  starts_quiet c (Ok start) = record { text = start_plain start.told; refusing = tt; after = tt }

  ready_quiet : (c : CommandNow N) (pipe : Option (EndNow N))
      → IsQuietEnd (initiates_in table c pipe)
  ready_quiet c (Some e) = record { text = refl; refusing = tt; after = tt }
  ready_quiet c None = starts_quiet c (table.begins c.reader.settings)

  by_quiet : (c : CommandNow N) (out : EndOutcome N) (over : Bool)
      → IsQuietEnd (cond over
      (record { text = []; ruling = refuses (codes "TooMuch") status.TooMuch; after = c })
      (record {
        text = told_text (c.taken + 1) out.told;
        ruling = goes;
        after = record c { pipe = Some out.after; taken = c.taken + 1 };
      }))
  by_quiet c out true = record { text = refl; refusing = tt; after = tt }
  by_quiet c out false =
      record { text = reported_plain (c.taken + 1) out.told; refusing = tt; after = tt }

  steps_quiet : (c : CommandNow N) (pipe : Option (EndNow N)) (input : EndInput)
      → IsQuietEnd (steps_in table c pipe input)
  steps_quiet c None input = record { text = refl; refusing = tt; after = tt }
  steps_quiet c (Some e) input = by_quiet c (end_step table e input) (nat_le max_inputs c.taken)

  item_quiet : (c : CommandNow N) (i : Item) → IsQuietEnd (item_result table c i)
  item_quiet c item.Nothing = record { text = refl; refusing = tt; after = tt }
  item_quiet c item.Ready = ready_quiet c c.pipe
  item_quiet c (item.Input input) = steps_quiet c c.pipe input
  item_quiet c item.End = record { text = refl; refusing = tt; after = tt }

  reading_quiet : (c : CommandNow N) (x : Result ReadLine LineFault)
      → IsQuietEnd (reading_result table c x)
  reading_quiet c (Err fault) = record { text = refl; refusing = tt; after = tt }
  reading_quiet c (Ok r) = item_quiet (record c { reader = r.after }) r.item

  result_quiet : (c : CommandNow N) (l : List ℕ) → Any c → IsQuietEnd (end_line_result table c l)
  unfolding end_line_result
  result_quiet c l h = reading_quiet c (read_line c.reader l)

  last_quiet : (pipe : Option (EndNow N)) → IsPlain (last_of table pipe)
  last_quiet None = refl
  last_quiet (Some e) = last_plain (table.state e.now)

  by_end : (c : CommandNow N) (x : Result (Unit {0}) LineFault)
      → IsPlain (closing_by table c x).text
  by_end c (Err fault) = refl
  by_end c (Ok done) = last_quiet c.pipe

  closing_quiet : (c : CommandNow N) → IsPlain (end_closing table c).text
  unfolding end_closing
  closing_quiet c = by_end c (finish_of c.reader)

  quiet : (role : Role) (octets : List ℕ) → IsQuiet starts_result (answer (end_line_result table)
      (end_closing table) 0 (initial_command role) (lines octets))
  quiet role octets =
      quiet_answer starts_result (end_line_result table) (end_closing table)
      Any result_quiet closing_quiet (lines octets) 0 (initial_command role) tt

-- ---- both commands

pub peer_quiet : (octets : List ℕ) → IsQuiet starts_result (peer_answer octets)
peer_quiet octets =
    subst (IsQuiet starts_result) (peer_answers octets) (quiet peer_table Peer octets)

pub server_quiet : (octets : List ℕ) → IsQuiet starts_result (server_answer octets)
server_quiet octets =
    subst (IsQuiet starts_result) (server_answers octets) (quiet server_table Server octets)
