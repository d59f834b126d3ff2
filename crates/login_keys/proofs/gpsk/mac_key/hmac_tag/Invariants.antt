use Rattle.std.proofs.Common.{ℕ, List, ◌++◌, take}
use Rattle.hmac_mac.specs.Represents.{Represents, IsKeyOf}
use Rattle.cmac_mac.proofs.Pieces.{joined}
use Rattle.login_keys.proofs.gpsk.mac_key.hmac_tag.Given as goal

-- the pieces so far are fed
abbrev pub invariant-loop-piece : goal.invariant-loop-piece
invariant-loop-piece l =
    (octets : List ℕ) → IsKeyOf l.key octets
    → Represents l.mac octets (l.front ++ joined (take l.piece-index l.pieces))
