use Rattle.std.proofs.Common.{sym, ◌∙◌}
use Rattle.aes_block.proofs.Sixteen.{spread}
use Rattle.aes_block.proofs.SlicedKeys.{columns_are}
use Rattle.aes_block.proofs.slices.columns_of.Goals as goal

pub returns : goal.returns
returns c =
    columns_are c.from_octets.result c.from_octets-2.result c.from_octets-3.result
    c.from_octets-4.result _ _ _ _ c.from_octets.ensures c.from_octets-2.ensures
    c.from_octets-3.ensures c.from_octets-4.ensures ∙ sym (spread c.args.state c.fits-state.0)
