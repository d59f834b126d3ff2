-- What the reader of an end's lines promises, over their table alone.
use Rattle.text_tables.specs.Texts.{AreJudged}
use Rattle.end_pipe.specs.EndReading.{end}
use Rattle.end_pipe.specs.EndTable.{row_of}

abbrev pub EndLinesAreJudged : Type 0
EndLinesAreJudged = AreJudged row_of end
