use Rattle.aes_block.proofs.SlicedKeys.{next_columns_are}
use Rattle.aes_block.proofs.sliced_schedule.next_columns.Goals as goal

pub returns : goal.returns
returns c = next_columns_are c.args.key c.change.result c.args.round c.change.ensures
