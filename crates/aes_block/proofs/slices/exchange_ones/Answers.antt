use Rattle.std.proofs.Common.{◌∙◌}
use Rattle.aes_block.proofs.Transposing.{eight_equal, ones_are}
use Rattle.aes_block.proofs.slices.exchange_ones.Goals as goal

pub returns : goal.returns
returns c = λ place h.
    eight_equal _ _ _ _ _ _ _ _ _ _ _ _ _ _ _ _
    (c.exchange-a.ensures.first place h) (c.exchange-a.ensures.second place h)
    (c.exchange-b.ensures.first place h) (c.exchange-b.ensures.second place h)
    (c.exchange-c.ensures.first place h) (c.exchange-c.ensures.second place h)
    (c.exchange-d.ensures.first place h) (c.exchange-d.ensures.second place h)
    ∙ ones_are c.args.words place h
