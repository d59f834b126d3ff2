-- The choices that the ends' policies make: each is the first choice that is allowed.
use Rattle.std.specs.Prelude.{ℕ, List, [], ◌∷◌, Bool, true, ◌&&◌, not, if◌then◌else◌, Option, Some}
use Rattle.std.specs.Prelude.{None, find}
use Rattle.std.specs.Str.{bytes_eq}
use Rattle.octet_lists.specs.Among.{is_among}
use Rattle.octet_lists.specs.Suite.{suite_octets, suite_number}
use Rattle.octet_lists.specs.declared.suite.Suite.{Suite}
use Rattle.octet_lists.specs.declared.suite.Suite.TheVariants.{Cmac, Hmac}

-- the Types that a Nak desires (RFC 3748 section 5.3.1): the allowed ones in their order, or 0
-- alone
unfoldable pub nak_of : List ℕ → List ℕ
nak_of [] = 0 ∷ []
nak_of (kind ∷ rest) = kind ∷ rest

-- whether an entry of a list of suites is this suite, and the suite is allowed
abbrev pub is_allowed : List ℕ → List ℕ → Suite → Bool
is_allowed allowed entry suite =
    bytes_eq entry (suite_octets suite) && is_among allowed (suite_number suite)

-- the allowed suite that an entry of six octets names, or what else is chosen
abbrev pub suite_or : List ℕ → List ℕ → Option Suite → Option Suite
suite_or allowed entry otherwise =
    if is_allowed allowed entry Cmac then Some Cmac
    else if is_allowed allowed entry Hmac then Some Hmac
    else otherwise

-- the first suite of a CSuite_List (RFC 5433 section 9.2, entries of six octets) that is allowed
unfoldable pub picked_suite : List ℕ → List ℕ → Option Suite
picked_suite allowed (a ∷ b ∷ c ∷ d ∷ e ∷ f ∷ rest) =
    suite_or allowed (a ∷ b ∷ c ∷ d ∷ e ∷ f ∷ []) (picked_suite allowed rest)
picked_suite allowed octets = None

-- whether a Nak, if one has come, desires the Type
abbrev pub is_desired : Option (List ℕ) → ℕ → Bool
is_desired None kind = true
is_desired (Some nak) kind = is_among nak kind

-- the first Type of the server's order that is not yet proposed and that the Nak, if one has come,
-- desires
unfoldable pub next_kind : List ℕ → List ℕ → Option (List ℕ) → Option ℕ
next_kind order proposed nak =
    find (λ kind. not (is_among proposed kind) && is_desired nak kind) order
