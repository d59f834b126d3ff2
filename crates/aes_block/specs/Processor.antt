-- What the code is built for.
use Rattle.std.specs.Prelude.{Bool, true}

-- whether the processor shuffles octets in a register; no proof but that of `shuffles` rests on
-- which it is
unfoldable pub shuffled : Bool
shuffled = true
