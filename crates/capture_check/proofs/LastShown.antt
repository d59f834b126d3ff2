-- What the last packet of a list shows.
use Rattle.std.proofs.Common.{◌≡◌, List, [], ◌∷◌, ◌++◌, Option, Some, None, IfSome, sym, refl}
use Rattle.std.proofs.Common.{append_assoc, append-nil}
use Rattle.std.specs.Option.{option_or}
use Rattle.capture_check.specs.Captured.{Captured, last_shown}

or_none : {A : Type 0} (x : Option A) → option_or x None ≡ x
or_none None = refl
or_none (Some a) = refl

or_assoc : {A : Type 0} (x y z : Option A)
    → option_or (option_or x y) z ≡ option_or x (option_or y z)
or_assoc None y z = refl
or_assoc (Some a) y z = refl

-- the last packet shows something, or it is as before
pub last_of_more : {A : Type 0} (shown : List Captured → Captured → Option A)
    (before packets : List Captured) (packet : Captured) →
    last_shown shown before (packets ++ packet ∷ [])
    ≡ option_or (shown (before ++ packets) packet) (last_shown shown before packets)
unfolding last_shown
last_of_more shown before [] packet = rw (append-nil before) (sym (or_none (shown before packet)))
last_of_more shown before (first ∷ rest) packet =
    rw (
      last_of_more shown (before ++ first ∷ []) rest packet,
      append_assoc before (first ∷ []) rest,
    )
    (or_assoc (shown (before ++ first ∷ rest) packet) (last_shown shown (before ++ first ∷ []) rest)
    (shown before first))

either_satisfies : {A : Type 0} (Q : A → Type 0) (x y : Option A) → IfSome x Q → IfSome y Q
    → IfSome (option_or x y) Q
either_satisfies Q None y h k = k
either_satisfies Q (Some a) y h k = h

-- what holds of one that is shown holds of the last that is
pub last_satisfies : {A : Type 0} (Q : A → Type 0) (shown : List Captured → Captured → Option A)
    (each : (before : List Captured) (packet : Captured) → IfSome (shown before packet) Q)
    (before packets : List Captured) → IfSome (last_shown shown before packets) Q
unfolding last_shown
last_satisfies Q shown each before [] = tt
last_satisfies Q shown each before (packet ∷ rest) =
    either_satisfies Q (last_shown shown (before ++ packet ∷ []) rest) (shown before packet)
    (last_satisfies Q shown each (before ++ packet ∷ []) rest) (each before packet)
