use Rattle.std.proofs.Common.{◌∙◌}
use Rattle.aes_block.proofs.SlicedKeys.{change_from}
use Rattle.aes_block.proofs.sliced_schedule.change.Goals as goal

pub returns : goal.returns
returns c =
    c.from_octets.ensures
    ∙ change_from c.substitute_word.result c.args.last c.args.round c.to_le_bytes.result c.requires
    c.substitute_word.ensures c.to_le_bytes.ensures
