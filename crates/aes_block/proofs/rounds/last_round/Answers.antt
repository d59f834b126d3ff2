use Rattle.std.proofs.Common.{ap, ◌∙◌}
use Rattle.aes_block.specs.Turned.{all, plain_box}
use Rattle.aes_block.proofs.Lanewise.{last}
use Rattle.aes_block.proofs.rounds.last_round.Goals as goal

pub returns : goal.returns
returns c =
    last c.args.state c.args.kept c.plain.result c.fits-kept.0 c.fits-state.1
    (c.plain.ensures c.shift_rows.result c.invert.ensures ∙ ap (all plain_box) c.shift_rows.ensures)
