-- The scenario that an input is, by its octets alone: within the limits its lines are those of a
-- scenario.
use Rattle.std.specs.Prelude.{◌≡◌, ℕ, ◌≤◌, List, [], ◌∷◌, length, true, Some}
use Rattle.octet_io.specs.Lines.{without_cr}
use Rattle.octet_io.specs.Cutting.{pieces, is_within}
use Rattle.login_setup.specs.declared.event.Event.{Event}
use Rattle.login_setup.specs.declared.setup.Setup.{Setup}
use Rattle.scenario_text.specs.Whole.{IsScenario}
use Rattle.world_commands.specs.Replay.{max_events}
use Rattle.world_commands.specs.Scenario.{whole, scenario_of}

-- a line for each piece that an LF ends, without the CR directly before the LF; the last piece as
-- it is, if it isn't empty
abbrev pub lines_of : List (List ℕ) → List (List ℕ)
lines_of [] = []
lines_of ([] ∷ []) = []
lines_of ((octet ∷ rest) ∷ []) = (octet ∷ rest) ∷ []
lines_of (piece ∷ next ∷ rest) = without_cr piece ∷ lines_of (next ∷ rest)

-- an input within the limits, whose lines are a scenario of at most 10,000 events
pub record IsInputOf (octets : List ℕ) (setup : Setup) (events : List Event) : Type 0 where
  pub within : is_within octets ≡ true
  pub scenario : IsScenario (lines_of (pieces octets)) setup events
  pub few : length events ≤ max_events

-- what was read of an input is that of the scenario that it is
pub record IsReadWhole (octets : List ℕ) : Type 0 where
  pub setup : Setup
  pub set : (scenario_of octets).setup ≡ Some setup
  pub input : IsInputOf octets setup (scenario_of octets).events

-- an input is read as whole exactly if it is a scenario, and then with its setup and its events
pub record InputsAreScenarios : Type 0 where
  pub taken : (octets : List ℕ) (setup : Setup) (events : List Event)
      → IsInputOf octets setup events →
      scenario_of octets ≡ record { setup = Some setup; events = events; outcome = whole }
  pub only : (octets : List ℕ) → (scenario_of octets).outcome ≡ whole → IsReadWhole octets
