use Rattle.std.proofs.Common.{◌∙◌}
use Rattle.aes_block.proofs.Transposing.{first_stored}
use Rattle.aes_block.proofs.slices.first_state.Goals as goal

pub returns : goal.returns
returns c = c.state_of_words.ensures
    ∙ first_stored c.args.words c.transpose-columns.result c.transpose-columns.ensures.stored
