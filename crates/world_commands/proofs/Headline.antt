-- The run of every scenario keeps agreement.
use Rattle.std.proofs.Common.{◌≡◌, ℕ, ◌+◌, List, Bool, true, false, Some, Result, Ok, Err, refl}
use Rattle.std.proofs.Common.{subst}
use Rattle.std.specs.Prelude.{if◌then◌else◌, ◌&&◌, nat_le, IfOk}
use Rattle.login_setup.specs.declared.event.Event.{Event}
use Rattle.login_setup.specs.declared.setup.Setup.{Setup}
use Rattle.octet_io.specs.Lines.{Lines, ended, too_long, too_much, line, lines}
use Rattle.world_laws.specs.Whole.{IsWhole}
use Rattle.login_laws.proofs.Conversations.{conversations_are_all, conversations_match}
use Rattle.login_laws.proofs.Conversations.{one_end_implies}
use Rattle.world_laws.proofs.Few.{few_tags}
use Rattle.world_laws.proofs.HonestOfEither.{honest_of_either}
use Rattle.login_laws.proofs.HonestRuns.{honest_ends_agree}
use Rattle.world_laws.proofs.Passing.{pass_carries, pass_is_alone}
use Rattle.login_laws.proofs.PresentUnderKey.{ends_agree_under, one_end_implies_under}
use Rattle.login_laws.proofs.PskReflected.{reflected_ends_agree}
use Rattle.world_laws.proofs.SingleSteps.{steps_are_lawful}
use Rattle.login_laws.proofs.UnderKey.{conversations_match_under}
use Rattle.login_laws.proofs.Owner.{honest_names_are_theirs}
use Rattle.scenario_text.specs.Reading.{Reading, ReadLine, no_settings, read_line}
use Rattle.scenario_text.specs.Valid.{AreValid, IsValidSetup, IsValidItem, IsValidReadLine}
use Rattle.text_tables.specs.declared.fault.LineFault.{LineFault}
use Rattle.scenario_text.specs.Items.{Item}
use Rattle.scenario_text.specs.Items as item
use Rattle.text_tables.specs.declared.phase.Phase.TheVariants as phase
use Rattle.scenario_text.proofs.ValidReading.{no_settings_valid, read_line_valid}
use Rattle.world_commands.specs.Headline.{HonestEndsAgree}
use Rattle.world_commands.proofs.Runs.{few_packets}
use Rattle.world_commands.specs.Replay.{max_events}
use Rattle.world_commands.specs.Scenario.{Scenario, stops, too_much_at, adds, is_event, with_line}
use Rattle.world_commands.specs.Scenario.{events_after, read_after, scenario_from, scenario_of}

-- ---- a scenario's setup is valid

of_event : (full : Bool) (number : ℕ) (s : Scenario) (e : Event) (setup : Setup)
    → (let made : Scenario = if full then stops (too_much_at number) else adds (item.Event e) s in
    made.setup) ≡ Some setup → s.setup ≡ Some setup
of_event true number s e setup same = cc
of_event false number s e setup same = same

of_item : (i : Item) (number k : ℕ) (s : Scenario) (setup : Setup) → IsValidItem i
    → (s.setup ≡ Some setup → IsValidSetup setup)
    → (let made : Scenario = if is_event i && nat_le max_events k then stops (too_much_at number)
    else adds i s in made.setup) ≡ Some setup → IsValidSetup setup
of_item item.Nothing number k s setup valid rest same = rest same
of_item (item.Ready other) number k s setup valid rest same =
    subst IsValidSetup (let equal : other ≡ setup = cc in equal) valid
of_item (item.Event e) number k s setup valid rest same =
    rest (of_event (nat_le max_events k) number s e setup same)
of_item item.End number k s setup valid rest same = rest same

of_line : (number k : ℕ) (x : Result ReadLine LineFault) (s : Scenario) (setup : Setup)
    → IfOk x IsValidReadLine
    → ((out : ReadLine) → x ≡ Ok out → s.setup ≡ Some setup → IsValidSetup setup)
    → (with_line number k x s).setup ≡ Some setup → IsValidSetup setup
of_line number k (Err fault) s setup valid rest same = cc
of_line number k (Ok out) s setup valid rest same =
    of_item out.item number k s setup valid.item (rest out refl) same

after_valid : (r : Reading) (x : Result ReadLine LineFault) (out : ReadLine)
    → IfOk x IsValidReadLine → x ≡ Ok out → AreValid (read_after r x).settings
after_valid r (Err fault) out valid is = cc
after_valid r (Ok other) out valid is = valid.settings

pub setup_valid : (ls : Lines) (n k : ℕ) (r : Reading) (setup : Setup) → AreValid r.settings
    → (scenario_from n k r ls).setup ≡ Some setup → IsValidSetup setup
unfolding scenario_from
setup_valid ended n k r setup valid same = cc
setup_valid too_long n k r setup valid same = cc
setup_valid too_much n k r setup valid same = cc
setup_valid (line l rest) n k r setup valid same =
    let read = read_line_valid r l valid in
    of_line (n + 1) k (read_line r l) (scenario_from (n + 1) (events_after k (read_line r l))
    (read_after r (read_line r l)) rest) setup read
    (λ out is. setup_valid rest (n + 1) (events_after k (read_line r l))
    (read_after r (read_line r l)) setup (after_valid r (read_line r l) out read is))
    same

pub whole_if_valid : (setup : Setup) → IsValidSetup setup → IsWhole setup
whole_if_valid setup valid = record {
  peer = valid.peer.sound;
  keys = valid.peer.keys;
  server = valid.server.sound;
  peer_kinds = valid.peer.methods;
  server_kinds = valid.server.methods;
  peer_nonce = valid.peer.nonce;
  server_nonce = valid.server.nonce;
  peer_later = valid.later.peer;
  server_later = valid.later.server;
}

pub valid_setup : (octets : List ℕ) (setup : Setup) → (scenario_of octets).setup ≡ Some setup
    → IsValidSetup setup
valid_setup octets setup is = setup_valid (lines octets) 0 0
    (record { phase = phase.Unread; settings = no_settings }) setup no_settings_valid is

-- Each line that the reader of scenarios takes leaves the settings valid, so that the setup has
-- kinds, keys and nonces as the laws ask (`whole_if_valid`). Each law then holds of the run of the
-- scenario's events.
pub headline : (octets : List ℕ) → HonestEndsAgree octets
headline octets setup is =
    let events = (scenario_of octets).events in
    let whole = whole_if_valid setup (valid_setup octets setup is) in
    record {
      of_either = honest_of_either _;
      agrees = honest_ends_agree setup events whole;
      theirs = honest_names_are_theirs setup events whole;
      reflected = reflected_ends_agree setup events whole;
      tells = one_end_implies setup events whole;
      matching = conversations_match setup events whole;
      under_key = λ kind. conversations_match_under setup events kind whole;
      agrees_under_key = λ kind. ends_agree_under setup events kind whole;
      tells_under_key = λ kind. one_end_implies_under setup events kind whole;
      all = conversations_are_all setup events whole;
      pass = pass_is_alone setup events;
      carries = pass_carries setup events;
      few_tags = few_tags setup events;
      few_packets = few_packets setup events;
      lawful = steps_are_lawful setup events;
    }
