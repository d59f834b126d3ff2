-- The name of the station in what it answers.
use Rattle.std.specs.Prelude.{ℕ, List, length, ◌==◌, ◌&&◌, nat_le, if◌then◌else◌, Option, Some}
use Rattle.std.specs.Prelude.{None, Result, Ok}
use Rattle.octet_lists.specs.Among.{identity_kind}
use Rattle.octet_lists.specs.Sizes.{max_name}
use Rattle.eap_packet.specs.Packet.{PacketValue, response}
use Rattle.eap_packet.specs.declared.cause.Cause.{Cause}

-- the name in a Response of Type Identity
abbrev pub name_in : Result PacketValue Cause → Option (List ℕ)
name_in (Ok (response id kind body)) =
    if (kind == identity_kind) && nat_le (length body) max_name then Some body else None
name_in packet = None
