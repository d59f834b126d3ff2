use Rattle.aes_block.proofs.KeyLanes.{is_turned}
use Rattle.aes_block.proofs.key_schedule.turned_full.Goals as goal

pub returns : goal.returns
returns c = is_turned c.args.key c.turn.result c.fits-key.0 c.fits-key.1 c.turn.ensures
