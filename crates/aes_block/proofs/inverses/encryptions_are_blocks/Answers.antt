use Rattle.aes_block.proofs.Differing.{encryptions_are_blocks}
use Rattle.aes_block.proofs.inverses.encryptions_are_blocks.Goals as goal

pub returns : goal.returns
returns c = encryptions_are_blocks
