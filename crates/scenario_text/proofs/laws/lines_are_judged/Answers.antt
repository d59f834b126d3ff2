-- Each line of a text is judged.
use Rattle.text_tables.proofs.Reading.{are_judged}
use Rattle.scenario_text.specs.Keywords.{row_of}
use Rattle.scenario_text.specs.Reading.{scenario}
use Rattle.scenario_text.proofs.laws.lines_are_judged.Goals as goal

pub returns : goal.returns
returns c = are_judged row_of scenario
