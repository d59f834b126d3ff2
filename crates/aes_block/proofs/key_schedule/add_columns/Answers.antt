use Rattle.aes_block.proofs.KeyLanes.{columns_added}
use Rattle.aes_block.proofs.key_schedule.add_columns.Goals as goal

pub returns : goal.returns
returns c = columns_added c.args.state c.one_column_on.result c.two_columns_on.result c.fits-state.0
    c.one_column_on.ensures c.two_columns_on.ensures
