use Rattle.aes_block.proofs.SlicedSteps.{times_x_at}
use Rattle.aes_block.proofs.sliced_rounds.times_x.Goals as goal

pub returns : goal.returns
returns c = times_x_at c.args.words
