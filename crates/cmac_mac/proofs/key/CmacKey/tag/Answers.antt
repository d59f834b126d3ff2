use Rattle.std.proofs.Common.{◌++◌, take, rules}
use Rattle.cmac_mac.specs.Represents.{HasChained}
use Rattle.cmac_mac.proofs.Pieces.{joined, fed_more}
use Rattle.cmac_mac.proofs.key.CmacKey.tag.Goals as goal

pub loop-piece-preserved : goal.loop-piece-preserved
loop-piece-preserved c =
    fed_more (HasChained c.update-in-loop-piece.new.self c.args.self.now)
    c.args.front.now c.args.pieces.now c.loop-piece.piece-index _ (search rules)
    (c.update-in-loop-piece.ensures (c.args.front.now ++ joined (take c.loop-piece.piece-index
    c.args.pieces.now)) c.loop-piece.invariant)
