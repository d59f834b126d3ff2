use Rattle.aes_block.proofs.SlicedSteps.{slice_shifted}
use Rattle.aes_block.proofs.sliced_rounds.shift_slice.Goals as goal

pub returns : goal.returns
returns c =
    slice_shifted c.args.word c.from_octets.result c.rotate_right.result c.rotate_right-2.result
    c.rotate_right-3.result c.to_le_bytes.result c.to_le_bytes.ensures c.rotate_right.ensures
    c.rotate_right-2.ensures c.rotate_right-3.ensures c.from_octets.ensures
