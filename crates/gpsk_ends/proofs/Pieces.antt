-- The pieces of a record, and the size of a MAC.
use Rattle.std.proofs.Common.{◌≡◌, ℕ, ◌<◌, List, [], ◌++◌, append-nil, arith}
use Rattle.octet_lists.specs.Suite.{ks_of}
use Rattle.octet_lists.specs.declared.suite.Suite.{Suite}
use Rattle.octet_lists.specs.declared.suite.Suite.TheVariants.{Cmac, Hmac}

-- one piece, joined with none
pub one_piece : (octets : List ℕ) → octets ++ [] ≡ octets
one_piece octets = append-nil octets

-- KS is told in one octet
pub ks_small : (suite : Suite) → ks_of suite < 256
ks_small Cmac = omega arith
ks_small Hmac = omega arith
