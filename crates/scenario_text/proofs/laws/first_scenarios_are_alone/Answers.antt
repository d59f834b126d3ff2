-- The lemma is the law.
use Rattle.scenario_text.proofs.FirstVersion as first_version
use Rattle.scenario_text.proofs.laws.first_scenarios_are_alone.Goals as goal

pub returns : goal.returns
returns c = first_version.first_scenarios_are_alone
