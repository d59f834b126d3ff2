-- The lines of a list of packets in hex.
use Rattle.std.specs.Prelude.{ℕ, List, length, ◌==◌, if◌then◌else◌, Option, Some, None, Result, Ok}
use Rattle.std.specs.Prelude.{Err}
use Rattle.text_tables.specs.Words.{words, is_passed_over}
use Rattle.text_tables.specs.Fields.{hex_of}
use Rattle.text_tables.specs.declared.fault.LineFault.{LineFault}
use Rattle.text_tables.specs.declared.fault.LineFault.TheVariants.{BadCount}

abbrev pub some_octets : Result (List ℕ) LineFault → Result (Option (List ℕ)) LineFault
some_octets (Ok octets) = Ok (Some octets)
some_octets (Err fault) = Err fault

-- a line is one hex word; an empty line and one that begins with # are ignored
unfoldable pub packet_line : List ℕ → Result (Option (List ℕ)) LineFault
packet_line line =
    if is_passed_over line then Ok None
    else if length (words line) == 1 then some_octets (hex_of line)
    else Err BadCount
