-- No trace with status 0 has both the line of honest tags and the line of ends that are apart.
use Rattle.std.proofs.Common.{◌≡◌, ℕ, ◌+◌, List, [], ◌∷◌, ◌++◌, Bool, true, false, Option, Some}
use Rattle.std.proofs.Common.{None, Result, Ok, Err, flat_map, length, refl, sym, ap, subst, ◌∙◌}
use Rattle.std.proofs.Common.{codes, inl, inr}
use Rattle.std.proofs.lemmas.Bool.{true≢false}
use Rattle.std.specs.Prelude.{if◌then◌else◌, ◌&&◌, ◌==◌, nat_le}
use Rattle.octet_io.specs.Lines.{Lines, ended, too_long, too_much, line, lines}
use Rattle.login_setup.specs.declared.event.Event.{Event}
use Rattle.login_setup.specs.declared.setup.Later.{Later}
use Rattle.login_setup.specs.declared.setup.Setup.{Setup}
use Rattle.login_laws.specs.Agreement.{AgreesWhereHonest, AreApart}
use Rattle.tag_book.specs.Book.{tags_verdict}
use Rattle.eap_world.specs.Judgement.{verdict_of}
use Rattle.world_laws.proofs.StartsOnce.{starts_once}
use Rattle.world_laws.proofs.Versions.{version_preserved}
use Rattle.eap_world.specs.World.{WorldNow, WorldOutcome, outcomes_after, pass_state, result_octets}
use Rattle.eap_world.specs.World.{world_start}
use Rattle.scenario_text.specs.Reading.{Reading, ReadLine, read_line, finish_of}
use Rattle.scenario_text.specs.Items.{Item}
use Rattle.scenario_text.specs.Items as item
use Rattle.scenario_text.specs.Valid.{IsValidSetup}
use Rattle.text_tables.specs.declared.fault.LineFault.{LineFault}
use Rattle.trace_text.specs.Run.{start_line_text, outcome_text, end_text, end_text_of}
use Rattle.trace_text.specs.Run.{freshness_shown}
use Rattle.answer_text.specs.Lines.{HasLine}
use Rattle.answer_text.proofs.Plain.{plain, over, passes, join}
use Rattle.trace_text.proofs.PlainTexts.{starts_verdict, no_verdict, reported_plain, start_plain}
use Rattle.answer_text.proofs.Scanning.{has_mark, found}
use Rattle.trace_text.proofs.Verdicts.{honest_line, apart_line, fresh_line, fresh_words}
use Rattle.trace_text.proofs.Verdicts.{end_implies_honest, end_implies_apart, end_implies_fresh}
use Rattle.trace_text.proofs.Verdicts.{end_has_fresh}
use Rattle.command_driver.specs.Answers.{Answer, after_text, IsRefusal}
use Rattle.command_driver.specs.declared.status.Status.TheVariants as status
use Rattle.command_driver.proofs.Quiet.{never_done}
use Rattle.world_commands.specs.Headline.{NeverBoth, ShowsFresh}
use Rattle.world_commands.specs.Replay.{max_events}
use Rattle.world_commands.specs.Scenario.{Outcome, whole, refused, Scenario, stops, adds, is_event}
use Rattle.world_commands.specs.Scenario.{with_line, events_after, read_after, scenario_from}
use Rattle.world_commands.specs.Scenario.{scenario_of}
use Rattle.world_commands.specs.Scenario.{too_much_at, finish_outcome, events_text, setup_answer}
use Rattle.world_commands.specs.Scenario.{trace_header, replay_answer}
use Rattle.world_commands.proofs.Headline.{headline, valid_setup}
use Rattle.world_laws.specs.Runs.{initial_world, run_of}

-- an answer with status 0 has not both lines
pub record Never (a : Answer) : Type 0 where
  pub holds : a.status ≡ status.Done → NeverBoth a.text

-- ---- the outcome of a scenario

abbrev IsSound : Outcome → Type 0
IsSound whole = Unit {0}
IsSound (refused number word s) = IsRefusal s

sound_finish : (number : ℕ) (x : Result (Unit {0}) LineFault) → IsSound (finish_outcome number x)
sound_finish number (Ok done) = tt
sound_finish number (Err fault) = tt

sound_item : (i : Item) (s : Scenario) → IsSound s.outcome → IsSound (adds i s).outcome
sound_item item.Nothing s h = h
sound_item (item.Ready setup) s h = h
sound_item (item.Event e) s h = h
sound_item item.End s h = h

sound_test : (t : Bool) (number : ℕ) (s : Scenario) → IsSound s.outcome
    → (let made : Scenario = if t then stops (too_much_at number) else s in IsSound made.outcome)
sound_test true number s h = tt
sound_test false number s h = h

sound_line : (number k : ℕ) (x : Result ReadLine LineFault) (s : Scenario) → IsSound s.outcome
    → IsSound (with_line number k x s).outcome
sound_line number k (Err fault) s h = tt
sound_line number k (Ok out) s h = sound_test (is_event out.item && nat_le max_events k) number
    (adds out.item s) (sound_item out.item s h)

sound_outcome : (ls : Lines) (n k : ℕ) (r : Reading) → IsSound (scenario_from n k r ls).outcome
unfolding scenario_from
sound_outcome ended n k r = sound_finish (n + 1) (finish_of r)
sound_outcome too_long n k r = tt
sound_outcome too_much n k r = tt
sound_outcome (line l rest) n k r =
    sound_line (n + 1) k (read_line r l) _
    (sound_outcome rest (n + 1) (events_after k (read_line r l)) (read_after r (read_line r l)))

-- ---- the text of a run

header_plain : plain starts_verdict true trace_header ≡ true
unfolding trace_header
header_plain = refl

outcomes_plain : (names : Bool) (outcomes : List WorldOutcome)
    → plain starts_verdict true (flat_map (outcome_text names) outcomes) ≡ true
outcomes_plain names [] = refl
outcomes_plain names (out ∷ rest) =
    join starts_verdict (outcome_text names out) _ true (reported_plain starts_verdict no_verdict
    names (result_octets out) out.told) (outcomes_plain names rest)

-- without a setup nothing is told
nothing_reported : has_mark apart_line true (trace_header ++ []) ≡ false
nothing_reported =
    over starts_verdict 114 (codes "esult apart\n") refl trace_header [] true header_plain

never_unset : NeverBoth (trace_header ++ [])
never_unset honest apart says =
    true≢false (sym (found (codes "result apart") (trace_header ++ []) apart) ∙ nothing_reported)

module _ (names : Bool) (setup : Setup) (events : List Event) where
  run_text : List ℕ
  run_text = (after_text trace_header (setup_answer names (Some setup) events whole)).text

  over_events : (m : ℕ) (mark : List ℕ) → starts_verdict m ≡ true
      → has_mark (m ∷ mark) true run_text
      ≡ has_mark (m ∷ mark) true (end_text (run_of setup events))
  unfolding run_text
  over_events m mark bad =
      let begun = world_start (initial_world setup) in
      let shown = end_text (run_of setup events) in
      let lines = events_text names begun.after events in
      over starts_verdict m mark bad trace_header (start_line_text names begun ++ (lines ++ shown))
      true header_plain
      ∙ (over starts_verdict m mark bad (start_line_text names begun) (lines ++ shown) true
      (start_plain begun.after.parties.mode names (result_octets begun) begun.told)
      ∙ over starts_verdict m mark bad lines shown true
      (outcomes_plain names (outcomes_after begun.after events)))

  tells : (mark text : List ℕ) → has_mark mark true text
      ≡ has_mark mark true (end_text (run_of setup events)) → has_mark mark true text ≡ true
      → has_mark mark true (end_text (run_of setup events)) ≡ true
  tells mark text e h = sym e ∙ h

  -- freshness is told where the version tells it
  w : WorldNow
  w = run_of setup events

  reported_so : (w.version == 2) ≡ true → freshness_shown w ≡ Some w.conversations.fresh
  reported_so two = ap (λ (t : Bool). if t then Some w.conversations.fresh else None) two

  shown_so : Option Bool → List ℕ
  shown_so f =
      end_text_of w.parties.peer.vars.state (pass_state w.parties.mode w.parties.pass)
      w.parties.server.vars.state w.counts f (tags_verdict w.book) (verdict_of w)

  is_fresh : (w.version == 2) ≡ true → HasLine (codes "fresh yes") run_text
      → w.conversations.fresh ≡ true
  unfolding w shown_so
  is_fresh two says =
      end_implies_fresh w.parties.peer.vars.state (pass_state w.parties.mode w.parties.pass)
      w.parties.server.vars.state w.counts w.conversations.fresh
      (tags_verdict w.book) (verdict_of w)
      (subst (λ (f : Option Bool). has_mark fresh_line true (shown_so f) ≡ true) (reported_so two)
      (tells fresh_line run_text (over_events 102 (codes "resh yes\n") refl)
      (found (codes "fresh yes") run_text says)))

  has_fresh : (w.version == 2) ≡ true
      → HasLine (codes "fresh " ++ fresh_words w.conversations.fresh) run_text
  unfolding run_text w shown_so
  has_fresh two =
      let begun = world_start (initial_world setup) in
      let line = codes "fresh " ++ fresh_words w.conversations.fresh in
      passes starts_verdict line trace_header _ header_plain
      (passes starts_verdict line (start_line_text names begun) _
      (start_plain begun.after.parties.mode names (result_octets begun) begun.told)
      (passes starts_verdict line (events_text names begun.after events) _
      (outcomes_plain names (outcomes_after begun.after events))
      (subst (λ (f : Option Bool). HasLine line (shown_so f)) (sym (reported_so two))
      (end_has_fresh w.parties.peer.vars.state (pass_state w.parties.mode w.parties.pass)
      w.parties.server.vars.state w.counts w.conversations.fresh
      (tags_verdict w.book) (verdict_of w)))))

  by_words : (w.version == 2) ≡ true → ShowsFresh run_text → w.conversations.fresh ≡ true
  by_words two (inl says) = is_fresh two says
  by_words two (inr none) = absurd (none (fresh_words w.conversations.fresh) (has_fresh two))

  are_apart : (two : Bool) → (w.version == 2) ≡ two → ((w.version == 2) ≡ false
      → length w.conversations.begun ≡ 2) → ShowsFresh run_text → AreApart w.conversations
  are_apart true is once says = inr (by_words is says)
  are_apart false is once says = inl (once is)

  never_run : AgreesWhereHonest (run_of setup events) → (((run_of setup events).version == 2)
      ≡ false → length (run_of setup events).conversations.begun ≡ 2) → NeverBoth run_text
  unfolding w
  never_run agrees once honest apart says =
      agrees.never_apart
      (end_implies_honest w.parties.peer.vars.state (pass_state w.parties.mode w.parties.pass)
      w.parties.server.vars.state w.counts (freshness_shown w)
      (tags_verdict w.book) (verdict_of w)
      (tells honest_line run_text (over_events 116 (codes "ags honest\n") refl)
      (found (codes "tags honest") run_text honest))) (are_apart (w.version == 2) refl once says)
      (end_implies_apart w.parties.peer.vars.state (pass_state w.parties.mode w.parties.pass)
      w.parties.server.vars.state w.counts (freshness_shown w)
      (tags_verdict w.book) (verdict_of w)
      (tells apart_line run_text (over_events 114 (codes "esult apart\n") refl)
      (found (codes "result apart") run_text apart)))

-- without later nonces no end begins a second conversation
once_reported : (setup : Setup) (events : List Event)
    → IsValidSetup setup → ((run_of setup events).version == 2) ≡ false
    → length (run_of setup events).conversations.begun ≡ 2
once_reported setup events valid other =
    let none =
    valid.later.alone (ap (λ (v : ℕ). v == 2) (sym (version_preserved setup events)) ∙ other) in
    starts_once setup events (ap (λ (later : Later). later.peer) none)
    (ap (λ (later : Later). later.server) none)

never_setup : (names : Bool) (x : Option Setup) (events : List Event) (o : Outcome)
    → ((setup : Setup)
    → x ≡ Some setup → AgreesWhereHonest (run_of setup events) × IsValidSetup setup) → IsSound o
    → Never (after_text trace_header (setup_answer names x events o))
unfolding run_text
never_setup names None events whole holds sound = record { holds = λ done. never_unset }
never_setup names None events (refused number word s) holds sound =
    record { holds = λ done. absurd (never_done s sound done) }
never_setup names (Some setup) events whole holds sound =
    let both = holds setup refl in record {
      holds = λ done. never_run names setup events both.0 (once_reported setup events both.1);
    }
never_setup names (Some setup) events (refused number word s) holds sound =
    record { holds = λ done. absurd (never_done s sound done) }

pub never_replay : (names : Bool) (octets : List ℕ) → Never (replay_answer names octets)
never_replay names octets =
    let s = scenario_of octets in
    never_setup names s.setup s.events s.outcome
    (λ setup is. ((headline octets setup is).agrees, valid_setup octets setup is))
    (sound_outcome (lines octets) 0 0 _)
