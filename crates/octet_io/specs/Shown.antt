-- What a source or a sink shows of itself.
use Rattle.std.specs.Prelude.{◌≡◌, ◌≤◌, ℕ, List, Option, Some}

-- the octets that a source has left to be read, or that were written to a sink so far, if it shows
-- them; how many of its calls have failed so far; and the greatest number that this count can
-- reach, if there is one
pub record Shown (T : Type 0) : Type 0 where
  pub octets : T → Option (List ℕ)
  pub faults : T → ℕ
  pub most_faults : Option ℕ

-- the count of faults rose, or is at its last value
abbrev pub HasRisen : {T : Type 0} → Shown T → T → T → Type 0
HasRisen shown before now =
    shown.faults now ≤ shown.faults before → shown.most_faults ≡ Some (shown.faults now)
