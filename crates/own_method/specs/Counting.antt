-- The count of a method's discards.
use Rattle.std.specs.Prelude.{ℕ, ◌+◌, ◌-◌, ◌^◌, min}
use Rattle.eap_method.specs.PeerTurn.{PeerTurn, Discard, Reply}

-- one more, as far as the count goes, if the turn is a discard
abbrev pub discards_after : ℕ → PeerTurn → ℕ
discards_after discards (Discard cause) = min (discards + 1) (2 ^ 32 - 1)
discards_after discards (Reply packet state decision tags) = discards
