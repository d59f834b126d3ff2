-- Octets drawn from a number: the high octet of each state of a linear congruential generator
-- modulo 2^32.
use Rattle.std.specs.Prelude.{ℕ, zero, suc, ◌+◌, ◌*◌, ◌/◌, ◌%◌, ◌^◌, List, [], ◌∷◌, ◌++◌}

-- the state after another
abbrev pub next_state : ℕ → ℕ
next_state x = (1664525 * x + 1013904223) % 2 ^ 32

-- the state at a place: at 0 it is the number
unfoldable pub state_at : ℕ → ℕ → ℕ
state_at number zero = number
state_at number (suc place) = next_state (state_at number place)

-- the octet drawn at a place, from 1
abbrev pub high_octet : ℕ → ℕ
high_octet x = x / 2 ^ 24

abbrev pub octet_at : ℕ → ℕ → ℕ
octet_at number place = high_octet (state_at number place)

-- so many octets drawn after a place
unfoldable pub octets_after : ℕ → ℕ → ℕ → List ℕ
octets_after number place zero = []
octets_after number place (suc count) =
    octets_after number place count ++ octet_at number (place + suc count) ∷ []
