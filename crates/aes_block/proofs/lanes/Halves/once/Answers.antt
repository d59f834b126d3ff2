use Rattle.aes_block.specs.Turned.{once}
use Rattle.aes_block.proofs.lanes.Halves.once.Goals as goal

pub returns : goal.returns
unfolding once
returns c = c.look_both.ensures
