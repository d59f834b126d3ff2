-- Answering line by line is the text of the end's run.
use Rattle.std.proofs.Common.{◌≡◌, ℕ, ◌+◌, List, [], Bool, true, false, cond, nat_le, Some, None}
use Rattle.std.proofs.Common.{Result, Ok, Err, IsOk, refl, sym, ◌∙◌, ap, append_assoc, append-nil}
use Rattle.std.specs.Prelude.{codes}
use Rattle.octet_io.specs.Lines.{Lines, ended, too_long, too_much, line, lines}
use Rattle.text_tables.specs.declared.fault.LineFault.{LineFault}
use Rattle.scenario_text.specs.Reading.{no_settings, with_setting}
use Rattle.text_tables.specs.declared.phase.Phase.{Phase}
use Rattle.text_tables.specs.declared.phase.Phase.TheVariants as phase
use Rattle.scenario_text.specs.declared.settings.Settings.{Settings}
use Rattle.end_pipe.proofs.EndSteps.{Follows, Header, Passed, NewSetting, AllSet, NewInput, AllRead}
use Rattle.end_pipe.proofs.EndSteps.{line_follows}
use Rattle.end_pipe.specs.EndReading.{EndReading, ReadLine, finish_of, lacks_some, read_line}
use Rattle.end_pipe.specs.EndReading as item
use Rattle.end_pipe.specs.EndRun.{EndStart, EndNow, MachineTable, end_after, end_step, told_of}
use Rattle.end_pipe.specs.declared.input.EndInput.{EndInput}
use Rattle.end_pipe.specs.declared.table.Role.{Role}
use Rattle.command_driver.specs.Answers.{Answer, after_text}
use Rattle.command_driver.specs.Commands.{LineResult, after_ruling, answer, closing_answer, goes}
use Rattle.command_driver.specs.Commands.{refuses}
use Rattle.command_driver.specs.declared.status.Status.TheVariants as status
use Rattle.end_commands.specs.EndCommand.{CommandNow, begins_with, closing_by, end_closing}
use Rattle.end_commands.specs.EndCommand.{end_line_result, initial_command, reading_result}
use Rattle.end_commands.specs.EndScript.{Script, adds, started_answer, finish_ending, max_inputs}
use Rattle.end_commands.specs.EndScript.{read_after, run_answer, script_answer, script_from}
use Rattle.end_commands.specs.EndScript.{script_of, stops, accepted_after, too_much_at, with_line}
use Rattle.end_commands.specs.EndText.{start_text, told_text, tolds_text}

-- before the line `events`, and from it on
pub data BeforeRun : Phase → Type 0 where
  AtUnread : BeforeRun phase.Unread
  AtSettings : BeforeRun phase.Settings

pub data InRun : Phase → Type 0 where
  AtEvents : InRun phase.Events
  AtEnded : InRun phase.Ended

module _ {N : Type 0} (role : Role) (table : MachineTable N)
    (begins : (s : Settings) → lacks_some role s ≡ false → IsOk (table.begins s)) where
  abbrev answers : ℕ → CommandNow N → Lines → Answer
  answers n c ls = answer (end_line_result table) (end_closing table) n c ls

  abbrev reading : Phase → Settings → EndReading
  reading p s = record { role = role; phase = p; settings = s }

  -- the command with an end, and before it begins
  abbrev running : Phase → Settings → EndNow N → ℕ → CommandNow N
  running p s e taken = record { reader = reading p s; pipe = Some e; taken = taken }

  abbrev waiting : Phase → Settings → CommandNow N
  waiting p s = record { reader = reading p s; pipe = None; taken = 0 }

  -- what is answered from a line on, by what the reader answers
  abbrev line_answer : ℕ → CommandNow N → Lines → Result ReadLine LineFault → Answer
  line_answer n c rest x =
      after_text (reading_result table c x).text
      (after_ruling (n + 1) (reading_result table c x).ruling
      (answers (n + 1) (reading_result table c x).after rest))

  abbrev line_script : ℕ → ℕ → EndReading → Lines → Result ReadLine LineFault → Script
  line_script n taken r rest x =
      with_line (n + 1) taken x (script_from (n + 1) (accepted_after taken x) (read_after r x) rest)

  abbrev run_script : ℕ → EndNow N → Script → Answer
  run_script taken e s = run_answer table taken e s.inputs s.ending

  abbrev Continues : ℕ → Lines → Type 0
  Continues n rest = (p : Phase) (s : Settings) (e : EndNow N) (taken : ℕ) → InRun p
      → answers n (running p s e taken) rest
      ≡ run_script taken e (script_from n taken (reading p s) rest)

  end_in_run : (n : ℕ) (p : Phase) (s : Settings) (e : EndNow N) (taken : ℕ)
      (x : Result (Unit {0}) LineFault)
      → closing_answer (n + 1) (closing_by table (running p s e taken) x)
      ≡ run_script taken e (stops (finish_ending (n + 1) x))
  unfolding end_after told_of tolds_text
  end_in_run n p s e taken (Ok done) =
      ap (λ (t : List ℕ). record { text = t; status = status.Done }) (append-nil _)
  end_in_run n p s e taken (Err fault) = refl

  -- an input, by whether it is one too many
  input_in_run : (n : ℕ) (s : Settings) (e : EndNow N) (taken : ℕ) (rest : Lines) (input : EndInput)
      → Continues (n + 1) rest → (over : Bool)
      → (let c = running phase.Events s e taken in
      let t : LineResult (CommandNow N) =
      cond over (record { text = []; ruling = refuses (codes "TooMuch") status.TooMuch; after = c })
      (record {
        text = told_text (taken + 1) (end_step table e input).told;
        ruling = goes;
        after = running phase.Events s (end_step table e input).after (taken + 1);
      }) in
      after_text t.text (after_ruling (n + 1) t.ruling (answers (n + 1) t.after rest)))
      ≡ run_script taken e
      (cond over (stops (too_much_at (n + 1)))
      (adds (item.Input input) s (script_from (n + 1) (taken + 1) (reading phase.Events s) rest)))
  unfolding end_after told_of tolds_text
  input_in_run n s e taken rest input ih true = refl
  input_in_run n s e taken rest input ih false =
      let next = (end_step table e input).after in
      let script = script_from (n + 1) (taken + 1) (reading phase.Events s) rest in
      ap (after_text (told_text (taken + 1) (end_step table e input).told))
      (ih phase.Events s next (taken + 1) AtEvents)
      ∙ ap (λ (t : List ℕ).
      record { text = t; status = (run_script (taken + 1) next script).status })
      (sym (append_assoc (told_text (taken + 1) (end_step table e input).told) _ _))

  line_in_run : (n : ℕ) (p : Phase) (s : Settings) (e : EndNow N) (taken : ℕ) (rest : Lines)
      → InRun p → Continues (n + 1) rest
      → (out : ReadLine) → Follows role s p out
      → line_answer n (running p s e taken) rest (Ok out)
      ≡ run_script taken e (line_script n taken (reading p s) rest (Ok out))
  line_in_run n _ s e taken rest r ih _ Header = elim r [ ]
  line_in_run n _ s e taken rest r ih _ (Passed p) = ih p s e taken r
  line_in_run n _ s e taken rest r ih _ (NewSetting v) = elim r [ ]
  line_in_run n _ s e taken rest r ih _ (AllSet whole) = elim r [ ]
  line_in_run n _ s e taken rest r ih _ (NewInput input) =
      input_in_run n s e taken rest input ih (nat_le max_inputs taken)
  line_in_run n _ s e taken rest r ih _ AllRead = ih phase.Ended s e taken AtEnded

  line_runs : (n : ℕ) (p : Phase) (s : Settings) (e : EndNow N) (taken : ℕ) (rest : Lines) → InRun p
      → Continues (n + 1) rest
      → (x : Result ReadLine LineFault) → ((out : ReadLine) → x ≡ Ok out → Follows role s p out)
      → line_answer n (running p s e taken) rest x
      ≡ run_script taken e (line_script n taken (reading p s) rest x)
  unfolding end_after told_of tolds_text
  line_runs n p s e taken rest r ih (Err fault) follows = refl
  line_runs n p s e taken rest r ih (Ok out) follows =
      line_in_run n p s e taken rest r ih out (follows out refl)

  -- with an end the command answers the run of the inputs to come
  answers_in_run : (ls : Lines) (n : ℕ) → Continues n ls
  unfolding answer end_line_result end_closing script_from end_after told_of tolds_text
  answers_in_run ended n p s e taken r = end_in_run n p s e taken (finish_of (reading p s))
  answers_in_run too_long n p s e taken r = refl
  answers_in_run too_much n p s e taken r = refl
  answers_in_run (line l rest) n p s e taken r =
      line_runs n p s e taken rest r (answers_in_run rest (n + 1)) (read_line (reading p s) l)
      (line_follows (reading p s) l)

  abbrev whole_script : Script → Answer
  whole_script s = script_answer table s

  abbrev Waits : ℕ → Lines → Type 0
  Waits n rest = (p : Phase) (s : Settings) → BeforeRun p
      → answers n (waiting p s) rest ≡ whole_script (script_from n 0 (reading p s) rest)

  end_before : (n : ℕ) (p : Phase) (s : Settings) (x : Result (Unit {0}) LineFault)
      → closing_answer (n + 1) (closing_by table (waiting p s) x)
      ≡ whole_script (stops (finish_ending (n + 1) x))
  end_before n p s (Ok done) = refl
  end_before n p s (Err fault) = refl

  -- the line `events`
  starts_run : (n : ℕ) (s : Settings) (rest : Lines) (start : Result (EndStart N) LineFault)
      → IsOk start
      → (let t = begins_with (waiting phase.Events s) start in
      after_text t.text (after_ruling (n + 1) t.ruling (answers (n + 1) t.after rest)))
      ≡ (let script = script_from (n + 1) 0 (reading phase.Events s) rest in
      started_answer table start script.inputs script.ending)
  starts_run n s rest (Ok start) is = ap (after_text (start_text start.told))
      (answers_in_run rest (n + 1) phase.Events s start.after 0 AtEvents)
  starts_run n s rest (Err fault) is = absurd cc

  line_before : (n : ℕ) (p : Phase) (s : Settings) (rest : Lines) → BeforeRun p → Waits (n + 1) rest
      → (out : ReadLine) → Follows role s p out
      → line_answer n (waiting p s) rest (Ok out)
      ≡ whole_script (line_script n 0 (reading p s) rest (Ok out))
  line_before n _ s rest r ih _ Header = ih phase.Settings no_settings AtSettings
  line_before n _ s rest r ih _ (Passed p) = ih p s r
  line_before n _ s rest r ih _ (NewSetting v) = ih phase.Settings (with_setting s v) AtSettings
  line_before n _ s rest r ih _ (AllSet whole) =
      starts_run n s rest (table.begins s) (begins s whole)
  line_before n _ s rest r ih _ (NewInput input) = elim r [ ]
  line_before n _ s rest r ih _ AllRead = elim r [ ]

  line_waits : (n : ℕ) (p : Phase) (s : Settings) (rest : Lines) → BeforeRun p → Waits (n + 1) rest
      → (x : Result ReadLine LineFault) → ((out : ReadLine) → x ≡ Ok out → Follows role s p out)
      → line_answer n (waiting p s) rest x ≡ whole_script (line_script n 0 (reading p s) rest x)
  line_waits n p s rest r ih (Err fault) follows = refl
  line_waits n p s rest r ih (Ok out) follows = line_before n p s rest r ih out (follows out refl)

  -- before it the command answers what the text does
  answers_before : (ls : Lines) (n : ℕ) → Waits n ls
  unfolding answer end_line_result end_closing script_from
  answers_before ended n p s r = end_before n p s (finish_of (reading p s))
  answers_before too_long n p s r = refl
  answers_before too_much n p s r = refl
  answers_before (line l rest) n p s r =
      line_waits n p s rest r (answers_before rest (n + 1)) (read_line (reading p s) l)
      (line_follows (reading p s) l)

  pub answers_are : (octets : List ℕ) → answers 0 (initial_command role) (lines octets)
      ≡ script_answer table (script_of role octets)
  answers_are octets = answers_before (lines octets) 0 phase.Unread no_settings AtUnread
