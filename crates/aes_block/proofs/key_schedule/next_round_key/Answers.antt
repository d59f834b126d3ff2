use Rattle.aes_block.proofs.KeyLanes.{next_is}
use Rattle.aes_block.proofs.key_schedule.next_round_key.Goals as goal

pub returns : goal.returns
returns c = next_is c.args.round c.args.key c.add_columns.result c.change.result
    c.add_columns.ensures c.change.ensures
