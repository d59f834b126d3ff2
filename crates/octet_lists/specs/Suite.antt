-- The two ciphersuites of EAP-GPSK (RFC 5433 section 6).
use Rattle.std.specs.Prelude.{ℕ, List, [], ◌∷◌, ◌==◌, if◌then◌else◌, Option, Some, None}
use Rattle.octet_lists.specs.declared.suite.Suite.{Suite}
use Rattle.octet_lists.specs.declared.suite.Suite.TheVariants.{Cmac, Hmac}

-- KS, the octets of a key and of a MAC
abbrev pub ks_of : Suite → ℕ
ks_of Cmac = 16
ks_of Hmac = 32

-- the suite's number, its specifier
abbrev pub suite_number : Suite → ℕ
suite_number Cmac = 1
suite_number Hmac = 2

-- the suite of a number
abbrev pub suite_numbered : ℕ → Option Suite
suite_numbered number =
    if number == 1 then Some Cmac
    else if number == 2 then Some Hmac
    else None

-- CSuite_Sel: vendor 0 in four octets, the specifier in two (section 9.2)
abbrev pub suite_octets : Suite → List ℕ
suite_octets suite = 0 ∷ 0 ∷ 0 ∷ 0 ∷ 0 ∷ suite_number suite ∷ []
