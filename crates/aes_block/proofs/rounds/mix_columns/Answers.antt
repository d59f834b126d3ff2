use Rattle.aes_block.proofs.Lanewise.{mixed_are}
use Rattle.aes_block.proofs.rounds.mix_columns.Goals as goal

pub returns : goal.returns
returns c =
    mixed_are c.args.once c.args.twice c.one_below.result c.three_below.result c.one_below-2.result
    c.fits-twice.0 c.one_below.ensures c.three_below.ensures c.one_below-2.ensures
