-- The packets that were sent, in their order.
use Rattle.std.specs.Prelude.{ℕ, List, [], ◌∷◌, ◌-◌, Bool, true, false, ◌==◌, if◌then◌else◌, Option}
use Rattle.std.specs.Prelude.{Some, None, slice_get}
use Rattle.login_setup.specs.declared.setup.Port.{Port}
use Rattle.login_setup.specs.declared.setup.Port.TheVariants as port

-- a packet as it was sent: to which port, and its octets
pub record Sent : Type 0 where
  pub port : Port
  pub octets : List ℕ

-- the packet of a number, from 1; none ever has the number 0
abbrev pub packet_numbered : List Sent → ℕ → Option Sent
packet_numbered sent n = if n == 0 then None else slice_get sent (n - 1)

-- whether two ports are the same
abbrev pub same_port : Port → Port → Bool
same_port port.Peer port.Peer = true
same_port port.Server port.Server = true
same_port port.PassPeer port.PassPeer = true
same_port port.PassServer port.PassServer = true
same_port one other = false

-- the octets of the last packet to a port
abbrev pub or_last : Bool → List ℕ → Option (List ℕ) → Option (List ℕ)
or_last is_to octets (Some later) = Some later
or_last is_to octets None = if is_to then Some octets else None

unfoldable pub last_to : Port → List Sent → Option (List ℕ)
last_to port [] = None
last_to port (packet ∷ rest) =
    or_last (same_port packet.port port) packet.octets (last_to port rest)
