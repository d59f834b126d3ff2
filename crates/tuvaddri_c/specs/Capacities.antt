-- What a call writes into a buffer of the program's, and what it answers.
use Rattle.std.specs.Prelude.{◌≡◌, ◌≤◌, ◌<◌, ◌++◌, ℕ, List, [], length, drop, Option, Some, None}

-- octets are copied to the start of a buffer if they fit; their number is the answer in any case
pub record IsCopied (octets room : List ℕ) (size : ℕ) (after : List ℕ) : Type 0 where
  pub size_is : size ≡ length octets
  pub copied : length octets ≤ length room → after ≡ octets ++ drop (length octets) room
  pub too_long : length room < length octets → after ≡ room

-- octets that fit are written to the start of a buffer; their number is the answer
pub record IsWritten (octets room : List ℕ) (size : ℕ) (after : List ℕ) : Type 0 where
  pub size_is : size ≡ length octets
  pub written : after ≡ octets ++ drop (length octets) room

-- the octets that there are; none, if there are none
abbrev pub octets_of : Option (List ℕ) → List ℕ
octets_of None = []
octets_of (Some octets) = octets
