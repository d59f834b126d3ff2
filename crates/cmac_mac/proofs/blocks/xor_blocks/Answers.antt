use Rattle.std.proofs.Common.{rules}
use Rattle.cmac_mac.proofs.Lanes.{zip2_block}
use Rattle.cmac_mac.proofs.blocks.xor_blocks.Goals as goal

pub returns : goal.returns
returns c = zip2_block c.args.left.now c.args.right.now (search rules) (search rules)
