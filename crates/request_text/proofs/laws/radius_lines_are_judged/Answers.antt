-- Each line of a text is judged.
use Rattle.text_tables.proofs.Reading.{are_judged}
use Rattle.request_text.specs.Radius.{radius, row_of}
use Rattle.request_text.proofs.laws.radius_lines_are_judged.Goals as goal

pub returns : goal.returns
returns c = are_judged row_of radius
