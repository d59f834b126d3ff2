use Rattle.aes_block.proofs.KeyLanes.{change_is}
use Rattle.aes_block.proofs.key_schedule.change.Goals as goal

pub returns : goal.returns
returns c =
    change_is c.args.round c.args.key c.rotated_word.result c.substitute.result
    c.in_first_row.result c.requires c.rotated_word.ensures c.substitute.ensures
    c.in_first_row.ensures
