-- The setup is within its limits, since the settings are.
use Rattle.scenario_text.proofs.ValidReading.{setup_of_valid}
use Rattle.scenario_text.proofs.scenario.ScenarioReader.setup.Goals as goal

pub returns-clause-valid : goal.returns-clause-valid
returns-clause-valid c = rw c.setup.ensures (setup_of_valid c.self.inside.settings c.self.invariant)
