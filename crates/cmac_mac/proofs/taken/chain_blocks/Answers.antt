use Rattle.std.proofs.Common.{rules}
use Rattle.cmac_mac.proofs.Growing.{blocks_more}
use Rattle.cmac_mac.proofs.taken.chain_blocks.Goals as goal

pub loop-block-preserved : goal.loop-block-preserved
loop-block-preserved c = λ text n before.
    blocks_more c.loop-block.chain c.chain_block-next.result c.args.cipher.now text
    c.args.blocks.now c.loop-block.block-index n _ (search rules) (search rules)
    (c.loop-block.invariant text n before) c.chain_block-next.ensures
