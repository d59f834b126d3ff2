-- What a source has left and what a sink was given: the octets if they are shown, else None.
use Rattle.std.specs.Prelude.{ℕ, List, [], ◌++◌, Option, Some, None}

-- the known octets with others before them
abbrev pub prepend_known : List ℕ → Option (List ℕ) → Option (List ℕ)
prepend_known front None = None
prepend_known front (Some octets) = Some (front ++ octets)

-- the known octets with others after them
abbrev pub append_known : Option (List ℕ) → List ℕ → Option (List ℕ)
append_known None back = None
append_known (Some octets) back = Some (octets ++ back)

-- no octets, if they are shown
abbrev pub nothing_known : Option (List ℕ) → Option (List ℕ)
nothing_known None = None
nothing_known (Some octets) = Some []
