-- The most octets of a name and of a packet.
use Rattle.std.specs.Prelude.{ℕ}

-- the octets of the name of a peer or a server (RFC 7542 section 2.3), as a Response of Type
-- Identity carries it (RFC 3748 section 5.1)
abbrev pub max_name : ℕ
max_name = 253

-- the octets of a packet: the EAP MTU here, of which RFC 3748 section 3.1 requires 1,020 at least
abbrev pub max_packet : ℕ
max_packet = 1500
