use Rattle.std.proofs.Common.{[], ◌∷◌}
use Rattle.aes_block.proofs.SlicedKeys.{word_substituted}
use Rattle.aes_block.proofs.sliced_schedule.substitute_word.Goals as goal

pub returns : goal.returns
returns c =
    word_substituted c.args.word (0 ∷ 0 ∷ 0 ∷ 0 ∷ 0 ∷ 0 ∷ 0 ∷ [])
    c.transpose.result c.substitute.result c.transpose-2.result
    c.transpose.ensures.loaded c.substitute.ensures c.transpose-2.ensures.stored
