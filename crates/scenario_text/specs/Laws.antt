-- What the reader of a scenario's lines promises, over their table alone.
use Rattle.text_tables.specs.Texts.{AreJudged}
use Rattle.scenario_text.specs.Keywords.{row_of}
use Rattle.scenario_text.specs.Reading.{scenario}

abbrev pub LinesAreJudged : Type 0
LinesAreJudged = AreJudged row_of scenario
