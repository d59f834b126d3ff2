-- What was read of a line is within its limits.
use Rattle.text_tables.specs.Words.{words}
use Rattle.end_pipe.proofs.EndValid.{read_valid}
use Rattle.end_pipe.proofs.reader.EndReaderText.entry_of.Goals as goal

pub returns-clause-valid : goal.returns-clause-valid
returns-clause-valid c =
    read_valid c.args.word (words c.args.line.now)
    c.entry_of.result c.entry_of.new.input c.requires c.entry_of.ensures
