use Rattle.std.proofs.Common.{◌∙◌, lit<}
use Rattle.aes_block.proofs.Transposing.{lane_loaded, in_turn}
use Rattle.aes_block.proofs.slices.load.Goals as goal

pub returns-clause-first_lane : goal.returns-clause-first_lane
returns-clause-first_lane c =
    lane_loaded (in_turn c.columns_of.result c.columns_of-2.result)
    c.transpose.result c.transpose.ensures.loaded 0 (lit< tt)
    ∙ c.columns_of.ensures

pub returns-clause-second_lane : goal.returns-clause-second_lane
returns-clause-second_lane c =
    lane_loaded (in_turn c.columns_of.result c.columns_of-2.result)
    c.transpose.result c.transpose.ensures.loaded 1 (lit< tt)
    ∙ c.columns_of-2.ensures
