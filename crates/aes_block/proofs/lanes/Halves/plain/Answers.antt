use Rattle.aes_block.specs.Turned.{plain_box}
use Rattle.aes_block.proofs.lanes.Halves.plain.Goals as goal

pub returns : goal.returns
unfolding plain_box
returns c = c.look_both.ensures
