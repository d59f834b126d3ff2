-- What was read of a line is within its limits.
use Rattle.std.proofs.Common.{subst}
use Rattle.text_tables.specs.Words.{words}
use Rattle.scenario_text.specs.Valid.{IsValidEntry}
use Rattle.scenario_text.proofs.ValidReading.{item_of_valid, valid_reported}
use Rattle.scenario_text.proofs.scenario.ScenarioReaderText.entry_of.Goals as goal

pub returns-clause-valid : goal.returns-clause-valid
returns-clause-valid c =
    valid_reported c.item_of.result c.item_of.new.event (subst IsValidEntry c.item_of.ensures
    (item_of_valid c.args.word (words c.args.line.now) c.requires))
