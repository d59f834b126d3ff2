-- The packets of a capture in their order.
use Rattle.std.specs.Prelude.{ℕ, List, [], ◌∷◌, ◌++◌, Bool, Option, None}
use Rattle.std.specs.Option.{option_or}

-- a packet: whether it goes to the peer or comes from it, and its octets
pub record Captured : Type 0 where
  pub to_peer : Bool
  pub octets : List ℕ

-- what the last packet of a list shows of those that show something, if the packets `before` came
-- first; what a packet shows may depend on all packets before it
unfoldable pub last_shown : {A : Type 0} → (List Captured → Captured → Option A) → List Captured
    → List Captured → Option A
last_shown shown before [] = None
last_shown shown before (packet ∷ rest) =
    option_or (last_shown shown (before ++ packet ∷ []) rest) (shown before packet)
