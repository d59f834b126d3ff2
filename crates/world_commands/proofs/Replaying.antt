-- Replaying line by line answers what the scenario's run says.
use Rattle.std.proofs.Common.{◌≡◌, ℕ, ◌+◌, List, [], Bool, true, false, cond, nat_le, Some, None}
use Rattle.std.proofs.Common.{Result, Ok, Err, refl, sym, ◌∙◌, ap, subst, append_assoc, append-nil}
use Rattle.std.proofs.Common.{◌||◌}
use Rattle.std.specs.Prelude.{codes, is_some}
use Rattle.octet_io.specs.Lines.{Lines, ended, too_long, too_much, line}
use Rattle.login_setup.specs.declared.event.Event.{Event}
use Rattle.eap_world.specs.World.{WorldNow, world_start, world_step, run_after, outcomes_after}
use Rattle.world_commands.proofs.Runs.{world_step_events}
use Rattle.scenario_text.specs.Reading.{Reading, ReadLine, line_of, with_setting}
use Rattle.scenario_text.specs.Reading.{settings_of_version, read_line, finish_of}
use Rattle.text_tables.specs.declared.fault.LineFault.{LineFault}
use Rattle.scenario_text.specs.Items as item
use Rattle.text_tables.specs.declared.phase.Phase.{Phase}
use Rattle.text_tables.specs.declared.phase.Phase.TheVariants as phase
use Rattle.scenario_text.specs.declared.settings.Settings.{Settings}
use Rattle.scenario_text.proofs.Implying.{Starts, FromSettings, FromEvents, PassedBefore}
use Rattle.scenario_text.proofs.Implying.{NewSetting, AllSet, PassedBetween, NewEvent, AllRead}
use Rattle.scenario_text.proofs.Implying.{read_line_from_unread, read_line_from_settings}
use Rattle.scenario_text.proofs.Implying.{read_line_from_events, read_line_from_ended}
use Rattle.trace_text.specs.Run.{start_line_text, outcome_text, end_text}
use Rattle.command_driver.specs.Answers.{Answer, after_text}
use Rattle.command_driver.specs.Commands.{LineResult, refuses, after_ruling, lacking_after}
use Rattle.command_driver.specs.Commands.{closing_answer, answer, lacking}
use Rattle.world_commands.specs.Replay.{ReplayNow, max_events, proceeds_with, replay_step}
use Rattle.world_commands.specs.Replay.{replay_closing, replay_lacks, reading_lacks, reading_result}
use Rattle.world_commands.specs.Replay.{closing_by}
use Rattle.world_commands.specs.Scenario.{Scenario, stops, too_much_at, finish_outcome, adds}
use Rattle.world_commands.specs.Scenario.{with_line, events_after, read_after, scenario_from}
use Rattle.world_commands.specs.Scenario.{run_answer, scenario_answer}
use Rattle.command_driver.specs.declared.status.Status.TheVariants as status
use Rattle.world_laws.specs.Runs.{initial_world}

-- the answer of the command to lines
abbrev answers : ℕ → ReplayNow → Lines → Answer
answers n c ls = answer replay_step replay_closing n c ls

-- the command in a world, with what has been read
abbrev in_world : ReplayNow → Reading → WorldNow → ReplayNow
in_world c r w = record c { reader = r; world = Some w }

abbrev in_none : ReplayNow → Reading → ReplayNow
in_none c r = record c { reader = r; world = None }

-- while the run goes on, and before it begins
pub data InRun (p : Phase) : Type 0 where
  AtEvents : p ≡ phase.Events → InRun p
  AtEnded : p ≡ phase.Ended → InRun p

pub data BeforeRun (p : Phase) : Type 0 where
  AtUnread : p ≡ phase.Unread → BeforeRun p
  AtSettings : p ≡ phase.Settings → BeforeRun p

-- what the command answers from a line on, by what the reader answers
abbrev line_answer : ℕ → ReplayNow → Lines → Result ReadLine LineFault → Answer
line_answer n c rest x =
    after_text (reading_result c x).text (after_ruling (n + 1) (reading_result c x).ruling
    (answers (n + 1) (reading_result c x).after rest))

-- the scenario from a line on, by what the reader answers
abbrev line_scenario : ℕ → ℕ → Reading → Lines → Result ReadLine LineFault → Scenario
line_scenario n k r rest x =
    with_line (n + 1) k x (scenario_from (n + 1) (events_after k x) (read_after r x) rest)

module _ (c : ReplayNow) where
  abbrev run_scenario : WorldNow → Scenario → Answer
  run_scenario w s = run_answer c.names w s.events s.outcome

  -- the rest of the lines, in a world
  abbrev Continues : ℕ → Lines → Type 0
  Continues n rest = (r : Reading) (w : WorldNow) → InRun r.phase
      → answers n (in_world c r w) rest ≡ run_scenario w (scenario_from n w.counts.events r rest)

  end_in_world : (n : ℕ) (r : Reading) (w : WorldNow) (x : Result (Unit {0}) LineFault)
      → closing_answer (n + 1) (closing_by (in_world c r w) x)
      ≡ run_scenario w (stops (finish_outcome (n + 1) x))
  unfolding run_after outcomes_after
  end_in_world n r w (Ok done) =
      ap (λ t. record { text = t; status = status.Done }) (append-nil (end_text w))
  end_in_world n r w (Err fault) = refl

  -- an event, by whether it is one too many
  event_in_world : (n : ℕ) (s : Settings) (w : WorldNow) (rest : Lines) (e : Event)
      → Continues (n + 1) rest → (b : Bool)
      → (let t : LineResult ReplayNow = cond b (record {
        text = [];
        ruling = refuses (codes "TooMuch") status.TooMuch;
        after = in_world c (record { phase = phase.Events; settings = s }) w;
      }) (proceeds_with (in_world c (record { phase = phase.Events; settings = s }) w)
      (outcome_text c.names (world_step w e)) (world_step w e).after) in
      after_text t.text (after_ruling (n + 1) t.ruling (answers (n + 1) t.after rest)))
      ≡ run_scenario w (cond b (stops (too_much_at (n + 1))) (adds (item.Event e) (scenario_from
      (n + 1) (w.counts.events + 1) (record { phase = phase.Events; settings = s }) rest)))
  unfolding run_after outcomes_after
  event_in_world n s w rest e ih true = refl
  event_in_world n s w rest e ih false =
      let r : Reading = record { phase = phase.Events; settings = s } in
      let next : WorldNow = (world_step w e).after in
      let goes_on : answers (n + 1) (in_world c r next) rest ≡ run_scenario next (scenario_from
      (n + 1) next.counts.events r rest) = ih r next (AtEvents refl) in
      let P : ℕ → Type 0 = λ k. answers (n + 1) (in_world c r next) rest
      ≡ run_scenario next (scenario_from (n + 1) k r rest) in
      let counted : answers (n + 1) (in_world c r next) rest ≡ run_scenario next (scenario_from
      (n + 1) (w.counts.events + 1) r rest) = subst P (world_step_events w e) goes_on in
      ap (after_text (outcome_text c.names (world_step w e))) counted ∙ ap (λ t. record {
        text = t;
        status = (run_scenario next (scenario_from (n + 1) (w.counts.events + 1) r rest)).status;
      }) (sym (append_assoc (outcome_text c.names (world_step w e)) _ _))

  line_at_events : (n : ℕ) (s : Settings) (r : Reading) (w : WorldNow) (rest : Lines)
      → Continues (n + 1) rest → (out : ReadLine) → FromEvents s out
      → line_answer n (in_world c r w) rest (Ok out)
      ≡ run_scenario w (line_scenario n w.counts.events r rest (Ok out))
  line_at_events n s r w rest ih _ PassedBetween =
      ih (record { phase = phase.Events; settings = s }) w (AtEvents refl)
  line_at_events n s r w rest ih _ (NewEvent e) =
      event_in_world n s w rest e ih (nat_le max_events w.counts.events)
  line_at_events n s r w rest ih _ AllRead =
      ih (record { phase = phase.Ended; settings = s }) w (AtEnded refl)

  line_at_end : (n : ℕ) (r : Reading) (w : WorldNow) (rest : Lines) → Continues (n + 1) rest
      → (out : ReadLine) → out ≡ line_of item.Nothing phase.Ended r.settings
      → line_answer n (in_world c r w) rest (Ok out)
      ≡ run_scenario w (line_scenario n w.counts.events r rest (Ok out))
  line_at_end n r w rest ih out e =
      let P : ReadLine → Type 0 = λ o. line_answer n (in_world c r w) rest (Ok o)
      ≡ run_scenario w (line_scenario n w.counts.events r rest (Ok o)) in
      subst P (sym e) (ih (record { phase = phase.Ended; settings = r.settings }) w (AtEnded refl))

  line_in_world : (n : ℕ) (r : Reading) (w : WorldNow) (l : List ℕ) (rest : Lines) → InRun r.phase
      → Continues (n + 1) rest → (x : Result ReadLine LineFault) → read_line r l ≡ x
      → line_answer n (in_world c r w) rest x
      ≡ run_scenario w (line_scenario n w.counts.events r rest x)
  unfolding run_after outcomes_after
  line_in_world n r w l rest h ih (Err fault) e = refl
  line_in_world n r w l rest (AtEvents p) ih (Ok out) e =
      line_at_events n r.settings r w rest ih out (read_line_from_events r l out p e)
  line_in_world n r w l rest (AtEnded p) ih (Ok out) e =
      line_at_end n r w rest ih out (read_line_from_ended r l out p e)

  -- in a world the command answers the run of the events to come
  pub answers_in_world : (ls : Lines) (n : ℕ) → Continues n ls
  unfolding answer scenario_from replay_step replay_closing run_after outcomes_after
  answers_in_world ended n r w h = end_in_world n r w (finish_of r)
  answers_in_world too_long n r w h = refl
  answers_in_world too_much n r w h = refl
  answers_in_world (line l rest) n r w h =
      line_in_world n r w l rest h (answers_in_world rest (n + 1)) (read_line r l) refl

  -- the rest of the lines, before the run
  abbrev Waits : ℕ → Lines → Type 0
  Waits n rest = (r : Reading) → BeforeRun r.phase
      → answers n (in_none c r) rest ≡ scenario_answer c.names (scenario_from n 0 r rest)

  end_before : (n : ℕ) (r : Reading) (x : Result (Unit {0}) LineFault)
      → closing_answer (n + 1) (closing_by (in_none c r) x)
      ≡ scenario_answer c.names (stops (finish_outcome (n + 1) x))
  end_before n r (Ok done) = refl
  end_before n r (Err fault) = refl

  line_at_settings : (n : ℕ) (s : Settings) (r : Reading) (rest : Lines) → Waits (n + 1) rest
      → (out : ReadLine) → FromSettings s out
      → line_answer n (in_none c r) rest (Ok out)
      ≡ scenario_answer c.names (line_scenario n 0 r rest (Ok out))
  unfolding world_start
  line_at_settings n s r rest ih _ PassedBefore =
      ih (record { phase = phase.Settings; settings = s }) (AtSettings refl)
  line_at_settings n s r rest ih _ (NewSetting v new) =
      ih (record { phase = phase.Settings; settings = with_setting s v }) (AtSettings refl)
  line_at_settings n s r rest ih _ (AllSet setup set) =
      ap (after_text (start_line_text c.names (world_start (initial_world setup))))
      (answers_in_world rest (n + 1) (record { phase = phase.Events; settings = s })
      (world_start (initial_world setup)).after (AtEvents refl))

  line_at_first : (n : ℕ) (r : Reading) (l : List ℕ) (rest : Lines) → Waits (n + 1) rest
      → (out : ReadLine) → Starts l out
      → line_answer n (in_none c r) rest (Ok out)
      ≡ scenario_answer c.names (line_scenario n 0 r rest (Ok out))
  line_at_first n r l rest ih out starts =
      let P : ReadLine → Type 0 = λ o. line_answer n (in_none c r) rest (Ok o)
      ≡ scenario_answer c.names (line_scenario n 0 r rest (Ok o)) in
      subst P (sym starts.out_is) (ih (record {
        phase = phase.Settings;
        settings = settings_of_version starts.version;
      }) (AtSettings refl))

  line_before : (n : ℕ) (r : Reading) (l : List ℕ) (rest : Lines) → BeforeRun r.phase
      → Waits (n + 1) rest → (x : Result ReadLine LineFault) → read_line r l ≡ x
      → line_answer n (in_none c r) rest x ≡ scenario_answer c.names (line_scenario n 0 r rest x)
  line_before n r l rest h ih (Err fault) e = refl
  line_before n r l rest (AtUnread p) ih (Ok out) e =
      line_at_first n r l rest ih out (read_line_from_unread r l out p e)
  line_before n r l rest (AtSettings p) ih (Ok out) e =
      line_at_settings n r.settings r rest ih out (read_line_from_settings r l out p e)

  -- before the run the command answers what the scenario does
  pub answers_before : (ls : Lines) (n : ℕ) → Waits n ls
  unfolding answer scenario_from replay_step replay_closing
  answers_before ended n r h = end_before n r (finish_of r)
  answers_before too_long n r h = refl
  answers_before too_much n r h = refl
  answers_before (line l rest) n r h =
      line_before n r l rest h (answers_before rest (n + 1)) (read_line r l) refl

  -- memory may be wanting only in a scenario whose settings are whole
  abbrev Lacks : ℕ → Lines → Type 0
  Lacks n rest =
      (r : Reading) → BeforeRun r.phase → lacking replay_step replay_lacks (in_none c r) rest ≡ true
      → is_some (scenario_from n 0 r rest).setup ≡ true

  abbrev line_lacks : ReplayNow → Lines → Result ReadLine LineFault → Bool
  line_lacks d rest x = reading_lacks x || lacking_after (reading_result d x).ruling (lacking
      replay_step replay_lacks (reading_result d x).after rest)

  lacks_at_settings : (n : ℕ) (s : Settings) (r : Reading) (rest : Lines) → Lacks (n + 1) rest
      → (out : ReadLine) → FromSettings s out
      → line_lacks (in_none c r) rest (Ok out) ≡ true
      → is_some (line_scenario n 0 r rest (Ok out)).setup ≡ true
  lacks_at_settings n s r rest ih _ PassedBefore h =
      ih (record { phase = phase.Settings; settings = s }) (AtSettings refl) h
  lacks_at_settings n s r rest ih _ (NewSetting v new) h =
      ih (record { phase = phase.Settings; settings = with_setting s v }) (AtSettings refl) h
  lacks_at_settings n s r rest ih _ (AllSet setup set) h = refl

  lacks_at_first : (n : ℕ) (r : Reading) (l : List ℕ) (rest : Lines) → Lacks (n + 1) rest
      → (out : ReadLine) → Starts l out
      → line_lacks (in_none c r) rest (Ok out) ≡ true
      → is_some (line_scenario n 0 r rest (Ok out)).setup ≡ true
  lacks_at_first n r l rest ih out starts =
      let P : ReadLine → Type 0 = λ o. line_lacks (in_none c r) rest (Ok o) ≡ true
      → is_some (line_scenario n 0 r rest (Ok o)).setup ≡ true in
      subst P (sym starts.out_is) (ih (record {
        phase = phase.Settings;
        settings = settings_of_version starts.version;
      }) (AtSettings refl))

  lacks_before : (n : ℕ) (r : Reading) (l : List ℕ) (rest : Lines) → BeforeRun r.phase
      → Lacks (n + 1) rest → (x : Result ReadLine LineFault) → read_line r l ≡ x
      → line_lacks (in_none c r) rest x ≡ true → is_some (line_scenario n 0 r rest x).setup ≡ true
  lacks_before n r l rest h ih (Err fault) e lack = absurd cc
  lacks_before n r l rest (AtUnread p) ih (Ok out) e lack =
      lacks_at_first n r l rest ih out (read_line_from_unread r l out p e) lack
  lacks_before n r l rest (AtSettings p) ih (Ok out) e lack =
      lacks_at_settings n r.settings r rest ih out (read_line_from_settings r l out p e) lack

  pub lacks_only_with_setup : (ls : Lines) (n : ℕ) → Lacks n ls
  unfolding lacking scenario_from replay_step replay_lacks
  lacks_only_with_setup ended n r h lack = absurd cc
  lacks_only_with_setup too_long n r h lack = absurd cc
  lacks_only_with_setup too_much n r h lack = absurd cc
  lacks_only_with_setup (line l rest) n r h lack =
      lacks_before n r l rest h (lacks_only_with_setup rest (n + 1)) (read_line r l) refl lack
