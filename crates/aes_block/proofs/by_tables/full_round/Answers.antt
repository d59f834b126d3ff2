use Rattle.aes_block.proofs.Columns.{full_words}
use Rattle.aes_block.proofs.by_tables.full_round.Goals as goal

pub returns : goal.returns
returns c =
    full_words c.args.state c.args.key c.full_column.result c.full_column-2.result
    c.full_column-3.result c.full_column-4.result c.full_column.ensures c.full_column-2.ensures
    c.full_column-3.ensures c.full_column-4.ensures
