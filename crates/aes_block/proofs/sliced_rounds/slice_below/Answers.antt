use Rattle.std.proofs.Common.{◌∙◌, ap, ℕ, ◌+◌, ◌*◌}
use Rattle.std.specs.Int.{bit_at}
use Rattle.aes_block.proofs.SlicedSteps.{slice_rotated}
use Rattle.aes_block.proofs.sliced_rounds.slice_below.Goals as goal

pub returns : goal.returns
returns c = λ row k hr hk.
    ap (λ (n : ℕ). bit_at n (8 * row + k)) c.rotate_right.ensures
    ∙ slice_rotated c.args.word c.args.rows c.ranges.word.fits c.requires.some
    c.requires.few row k hr hk
