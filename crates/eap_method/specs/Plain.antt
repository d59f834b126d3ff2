-- What an end that reads Expanded Types (RFC 3748 section 5.7) gives to its table for octets.
use Rattle.std.specs.Prelude.{ℕ, List, if◌then◌else◌}
use Rattle.eap_packet.specs.Packet.{PacketValue, spelled}
use Rattle.eap_packet.specs.Expanded.{has_plain_form, plain}

-- of octets that begin with this packet: those of its plain form, if that is another packet
abbrev pub plain_octets : List ℕ → PacketValue → List ℕ
plain_octets octets packet = if has_plain_form packet then spelled (plain packet) else octets
