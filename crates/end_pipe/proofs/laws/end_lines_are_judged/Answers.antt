-- Each line of a text is judged.
use Rattle.text_tables.proofs.Reading.{are_judged}
use Rattle.end_pipe.specs.EndTable.{row_of}
use Rattle.end_pipe.specs.EndReading.{end}
use Rattle.end_pipe.proofs.laws.end_lines_are_judged.Goals as goal

pub returns : goal.returns
returns c = are_judged row_of end
