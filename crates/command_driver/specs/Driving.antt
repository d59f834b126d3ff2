-- What a command answers to an input, line by line.
use Rattle.std.specs.Prelude.{ℕ, List, Bool}
use Rattle.octet_io.specs.Lines.{lines}
use Rattle.command_driver.specs.Commands.{LineResult, Closing, answer, lacking}
use Rattle.command_driver.specs.Responding.{Asked, reading, only_at}

abbrev pub driven : {C : Type 0} → (C → List ℕ → LineResult C) → (C → Closing)
    → (C → List ℕ → Bool) → C → Asked
driven took closing lacks c =
    reading (λ octets. answer took closing 0 c (lines octets))
    (only_at (λ octets. lacking took lacks c (lines octets)))
