use Rattle.aes_block.specs.Turned.{twice}
use Rattle.aes_block.proofs.lanes.Halves.twice.Goals as goal

pub returns : goal.returns
unfolding twice
returns c = c.look_both.ensures
