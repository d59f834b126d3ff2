use Rattle.std.proofs.Common.{ap, ◌∙◌}
use Rattle.cmac_mac.specs.Represents.{HasChained}
use Rattle.aes_block.specs.Cipher.{aes128}
use Rattle.cmac_mac.proofs.Tag.{tag_of}
use Rattle.cmac_mac.proofs.key.CmacKey.finish.Goals as goal

pub returns : goal.returns
unfolding HasChained
returns c = λ text so_far.
    tag_of _ _ c.last_block-last.result c.xor_blocks.result c.encrypt.result c.args.self.now text
    c.args.taken.now.count so_far c.args.taken.now.within
    c.last_block-last.ensures c.xor_blocks.ensures
    (c.encrypt.ensures ∙ ap (λ key. aes128 key c.xor_blocks.result) c.self.view_is)
