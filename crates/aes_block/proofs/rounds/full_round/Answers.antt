use Rattle.std.proofs.Common.{ap, ◌∙◌}
use Rattle.aes_block.specs.Turned.{all, once, twice}
use Rattle.aes_block.proofs.Lanewise.{full}
use Rattle.aes_block.proofs.rounds.full_round.Goals as goal

pub returns : goal.returns
returns c =
    full c.args.state c.args.kept c.once.result c.twice.result c.mix_columns.result c.fits-kept.0
    c.fits-state.1 (c.once.ensures c.shift_rows.result c.invert-halves.ensures
    ∙ ap (all once) c.shift_rows.ensures)
    (c.twice.ensures c.shift_rows.result c.invert-halves.ensures
    ∙ ap (all twice) c.shift_rows.ensures)
    c.mix_columns.ensures
