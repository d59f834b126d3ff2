-- The one server name that a peer accepts is its server's.
use Rattle.std.proofs.Common.{◌≡◌, ℕ, List, true}
use Rattle.std.specs.Str.{bytes_eq}
use Rattle.std.proofs.lemmas.Slice.Eq.{bytes_eq-Decides}

pub is_named : (accepted name : List ℕ) → bytes_eq accepted name ≡ true → accepted ≡ name
is_named accepted name same = (bytes_eq-Decides accepted name).0 same
