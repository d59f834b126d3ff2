use Rattle.aes_block.proofs.KeyLanes.{preserved_last_is}
use Rattle.aes_block.proofs.key_schedule.turned_last.Goals as goal

pub returns : goal.returns
returns c = preserved_last_is c.args.key c.fits-key.0
