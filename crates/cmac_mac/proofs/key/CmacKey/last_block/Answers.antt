use Rattle.std.proofs.Common.{refl, ap, ◌∙◌}
use Rattle.cmac_mac.specs.Cmac.{first_subkey, second_subkey}
use Rattle.cmac_mac.proofs.Tag.{last_padded, last_whole}
use Rattle.cmac_mac.proofs.key.CmacKey.last_block.Goals as goal

pub returns-then-count-lt16 : goal.returns-then-count-lt16
returns-then-count-lt16 c = λ end so_far.
    last_padded c.args.self.now c.args.held.now _ c.self.inside.second c.xor_blocks.result end
    c.args.count so_far c.if-count-lt16.true refl
    (c.self.invariant.1 ∙ ap second_subkey c.self.view_is) c.xor_blocks.ensures

pub returns-else-count-lt16 : goal.returns-else-count-lt16
returns-else-count-lt16 c = λ end so_far.
    last_whole c.args.self.now c.args.held.now c.self.inside.first
    c.xor_blocks-else-count-lt16.result end c.args.count so_far c.if-count-lt16.false
    (c.self.invariant.0 ∙ ap first_subkey c.self.view_is) c.xor_blocks-else-count-lt16.ensures
