use Rattle.aes_block.proofs.Transposing.{loaded_are, stored_are}
use Rattle.aes_block.proofs.slices.transpose.Goals as goal

pub returns-clause-loaded : goal.returns-clause-loaded
returns-clause-loaded c =
    loaded_are c.args.words c.exchange_ones.result c.exchange_twos.result c.exchange_fours.result
    c.exchange_ones.ensures c.exchange_twos.ensures c.exchange_fours.ensures

pub returns-clause-stored : goal.returns-clause-stored
returns-clause-stored c =
    stored_are c.args.words c.exchange_ones.result c.exchange_twos.result c.exchange_fours.result
    c.exchange_ones.ensures c.exchange_twos.ensures c.exchange_fours.ensures
