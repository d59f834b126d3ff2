use Rattle.aes_block.proofs.SlicedBox.{substituted_at}
use Rattle.aes_block.proofs.sliced_box.substitute.Goals as goal

pub returns : goal.returns
returns c = λ place h.
    substituted_at c.args.words c.linear_sums-sums.result c.inner_values.result
    c.inner_inverse-factors.result c.products_of.result c.output_sums.result place
    (c.linear_sums-sums.ensures place h) (c.inner_values.ensures place h)
    (c.inner_inverse-factors.ensures place h) (c.products_of.ensures place h)
    (c.output_sums.ensures place h)
