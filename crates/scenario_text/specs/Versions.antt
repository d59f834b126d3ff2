-- The versions of a scenario's text: each has its header, and the second has later conversations.
use Rattle.std.specs.Prelude.{ℕ, List, Bool, true, false, if◌then◌else◌, codes, Option, Some, None}
use Rattle.std.specs.Str.{bytes_eq}
use Rattle.scenario_text.specs.declared.version.Version.{Version}
use Rattle.scenario_text.specs.declared.version.Version.TheVariants.{First, Second}

-- line 1
abbrev pub header : Version → List ℕ
header First = codes "eap-scenario 1"
header Second = codes "eap-scenario 2"

-- the version whose header the line is
abbrev pub version_of : List ℕ → Option Version
version_of line =
    if bytes_eq line (header First) then Some First
    else if bytes_eq line (header Second) then Some Second
    else None

abbrev pub version_number : Version → ℕ
version_number First = 1
version_number Second = 2

-- an end may begin again, with a nonce of its own for each later conversation
abbrev pub has_later : Version → Bool
has_later First = false
has_later Second = true

-- the later nonces that an end may have
abbrev pub most_later : Version → ℕ
most_later First = 0
most_later Second = 15
