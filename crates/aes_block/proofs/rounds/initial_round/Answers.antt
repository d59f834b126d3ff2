use Rattle.aes_block.proofs.Lanewise.{begun}
use Rattle.aes_block.proofs.rounds.initial_round.Goals as goal

pub returns : goal.returns
returns c =
    begun c.args.block c.args.key c.turn.result c.fits-block.0 c.fits-key.0 c.fits-block.1
    c.fits-key.1 c.turn.ensures
