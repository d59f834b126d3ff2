use Rattle.aes_block.proofs.SlicedSteps.{added_state}
use Rattle.aes_block.proofs.sliced_rounds.add_round_key.Goals as goal

pub returns : goal.returns
returns c =
    added_state c.args.words c.load.result c.add.result c.args.key c.add.ensures
    c.load.ensures.first_lane c.load.ensures.second_lane
