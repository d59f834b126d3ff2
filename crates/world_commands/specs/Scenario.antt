-- A scenario, as all its lines make it, and what replaying it answers: the trace of its run.
use Rattle.std.specs.Prelude.{is_some, ℕ, ◌+◌, List, [], ◌∷◌, Bool, true, false, nat_le, ◌&&◌}
use Rattle.std.specs.Prelude.{if◌then◌else◌, Option, Some, None, Result, Ok, Err, codes}
use Rattle.std.specs.List.{flat_map}
use Rattle.octet_io.specs.Lines.{Lines, ended, too_long, too_much, line, lines}
use Rattle.login_setup.specs.declared.event.Event.{Event}
use Rattle.login_setup.specs.declared.setup.Setup.{Setup}
use Rattle.eap_world.specs.World.{WorldNow, world_start, run_after, outcomes_after}
use Rattle.text_tables.specs.Words.{fault_word}
use Rattle.scenario_text.specs.Reading.{Reading, ReadLine, no_settings, read_line, finish_of}
use Rattle.text_tables.specs.declared.fault.LineFault.{LineFault}
use Rattle.scenario_text.specs.Items.{Item}
use Rattle.scenario_text.specs.Items as item
use Rattle.text_tables.specs.declared.phase.Phase.TheVariants as phase
use Rattle.answer_text.specs.Lines.{line_text}
use Rattle.trace_text.specs.Run.{start_line_text, outcome_text, end_text}
use Rattle.command_driver.specs.Answers.{Answer, after_text, refusal}
use Rattle.command_driver.specs.Responding.{Asked, reading, only_at}
use Rattle.world_commands.specs.Replay.{max_events}
use Rattle.command_driver.specs.declared.status.Status.{Status}
use Rattle.command_driver.specs.declared.status.Status.TheVariants as status
use Rattle.world_laws.specs.Runs.{initial_world}

-- a scenario is whole, or refused at a line with a word and a status
pub data Outcome : Type 0 where
  whole : Outcome
  refused : ℕ → List ℕ → Status → Outcome

-- the setup, if the settings were whole; the events, up to a refused line; and the outcome
pub record Scenario : Type 0 where
  pub setup : Option Setup
  pub events : List Event
  pub outcome : Outcome

-- nothing more is read
abbrev pub stops : Outcome → Scenario
stops outcome = record { setup = None; events = []; outcome = outcome }

-- what an item adds to the scenario that follows it
abbrev pub adds : Item → Scenario → Scenario
adds item.Nothing s = s
adds (item.Ready setup) s = record s { setup = Some setup }
adds (item.Event e) s = record s { events = e ∷ s.events }
adds item.End s = s

abbrev pub is_event : Item → Bool
is_event item.Nothing = false
is_event (item.Ready setup) = false
is_event (item.Event e) = true
is_event item.End = false

-- the first line that is too much
abbrev pub too_much_at : ℕ → Outcome
too_much_at number = refused number (codes "TooMuch") status.TooMuch

abbrev pub finish_outcome : ℕ → Result (Unit {0}) LineFault → Outcome
finish_outcome number (Ok done) = whole
finish_outcome number (Err fault) = refused number (fault_word fault) status.Refused

-- after a line: what has been read, and how many events have come
abbrev pub read_after : Reading → Result ReadLine LineFault → Reading
read_after r (Ok x) = x.after
read_after r (Err fault) = r

abbrev pub events_after : ℕ → Result ReadLine LineFault → ℕ
events_after k (Ok x) = if is_event x.item then k + 1 else k
events_after k (Err fault) = k

-- the scenario from a line on, whose number is given and before which k events have come
abbrev pub with_line : ℕ → ℕ → Result ReadLine LineFault → Scenario → Scenario
with_line number k (Err fault) s = stops (refused number (fault_word fault) status.Refused)
with_line number k (Ok x) s =
    if is_event x.item && nat_le max_events k then stops (too_much_at number) else adds x.item s

-- the scenario that the lines make, if n lines and k events have come before them
unfoldable pub scenario_from : ℕ → ℕ → Reading → Lines → Scenario
scenario_from n k r ended = stops (finish_outcome (n + 1) (finish_of r))
scenario_from n k r too_long = stops (too_much_at (n + 1))
scenario_from n k r too_much = stops (too_much_at (n + 1))
scenario_from n k r (line l rest) =
    with_line (n + 1) k (read_line r l)
    (scenario_from (n + 1) (events_after k (read_line r l)) (read_after r (read_line r l)) rest)

-- the scenario that an input is
abbrev pub scenario_of : List ℕ → Scenario
scenario_of octets =
    scenario_from 0 0 (record { phase = phase.Unread; settings = no_settings }) (lines octets)

-- the lines of the results of events; with names also the octets of packets and the names of keys
abbrev pub events_text : Bool → WorldNow → List Event → List ℕ
events_text names w events = flat_map (outcome_text names) (outcomes_after w events)

-- after the events: the lines of the end of the run, or those of a refusal
abbrev pub outcome_answer : WorldNow → Outcome → Answer
outcome_answer w whole = record { text = end_text w; status = status.Done }
outcome_answer w (refused number word s) = refusal number word s

-- the answer from a world on
abbrev pub run_answer : Bool → WorldNow → List Event → Outcome → Answer
run_answer names w events outcome =
    after_text (events_text names w events) (outcome_answer (run_after w events) outcome)

-- without a setup nothing is run
abbrev pub unset_answer : Outcome → Answer
unset_answer whole = record { text = []; status = status.Done }
unset_answer (refused number word s) = refusal number word s

abbrev pub setup_answer : Bool → Option Setup → List Event → Outcome → Answer
setup_answer names None events outcome = unset_answer outcome
setup_answer names (Some setup) events outcome =
    after_text (start_line_text names (world_start (initial_world setup)))
    (run_answer names (world_start (initial_world setup)).after events outcome)

abbrev pub scenario_answer : Bool → Scenario → Answer
scenario_answer names s = setup_answer names s.setup s.events s.outcome

-- the first line of a trace
unfoldable pub trace_header : List ℕ
trace_header = line_text (codes "eap-trace 1")

-- what replaying an input answers, with names or without
abbrev pub replay_answer : Bool → List ℕ → Answer
replay_answer names octets = after_text trace_header (scenario_answer names (scenario_of octets))

-- the input's settings are whole, so that the run of its events begins
abbrev pub has_setup : List ℕ → Bool
has_setup octets = is_some (scenario_of octets).setup

-- what a scenario is answered, with names or without
abbrev pub asked_replay : Bool → Asked
asked_replay names = reading (replay_answer names) (only_at has_setup)
