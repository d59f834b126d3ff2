use Rattle.aes_block.proofs.SlicedSteps.{sum_at}
use Rattle.aes_block.proofs.slices.add.Goals as goal

pub returns : goal.returns
returns c = sum_at c.args.words c.args.others
