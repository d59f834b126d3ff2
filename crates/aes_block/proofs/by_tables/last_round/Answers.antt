use Rattle.aes_block.proofs.Columns.{last_words}
use Rattle.aes_block.proofs.by_tables.last_round.Goals as goal

pub returns : goal.returns
returns c =
    last_words c.args.state c.args.key c.last_column.result c.last_column-2.result
    c.last_column-3.result c.last_column-4.result c.last_column.ensures c.last_column-2.ensures
    c.last_column-3.ensures c.last_column-4.ensures
