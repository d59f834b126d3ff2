use Rattle.std.proofs.Common.{◌++◌, take}
use Rattle.cmac_mac.specs.Represents.{HasChained}
use Rattle.cmac_mac.proofs.Pieces.{joined}
use Rattle.cmac_mac.proofs.key.CmacKey.tag.Given as goal

-- the pieces so far are taken in
abbrev pub invariant-loop-piece : goal.invariant-loop-piece
invariant-loop-piece l = HasChained l.taken l.self (l.front ++ joined (take l.piece-index l.pieces))
