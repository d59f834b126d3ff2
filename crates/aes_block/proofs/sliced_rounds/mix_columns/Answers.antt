use Rattle.aes_block.proofs.SlicedSteps.{mixed_state}
use Rattle.aes_block.proofs.sliced_rounds.mix_columns.Goals as goal

pub returns : goal.returns
returns c =
    mixed_state c.args.words c.below-next.result c.add-sums.result c.times_x.result c.add.result
    c.below.result c.add-2.result c.below-next.ensures c.add-sums.ensures c.times_x.ensures
    c.add.ensures c.below.ensures c.add-2.ensures
