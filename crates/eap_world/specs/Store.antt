-- The store of the packets that were sent: their octets joined, and the place of each packet's.
use Rattle.std.specs.Prelude.{◌≤◌, ◌+◌, ℕ, List, [], ◌∷◌, Bool, if◌then◌else◌, take, drop, map}
use Rattle.std.specs.Prelude.{Option, Some, None, option_map}
use Rattle.std.specs.List.{All}
use Rattle.octet_lists.specs.Sizes.{max_packet}
use Rattle.login_setup.specs.declared.setup.Port.{Port}
use Rattle.eap_world.specs.Sent.{Sent, same_port}
use Rattle.eap_world.specs.declared.store.Slot.{Slot}
use Rattle.eap_world.specs.declared.store.Stored.{Stored}

-- the packets in their order, how many octets are stored for them, and for how many more octets and
-- packets there is room
pub record StoreValue : Type 0 where
  pub packets : List Sent
  pub stored : ℕ
  pub octets_capacity : ℕ
  pub packets_capacity : ℕ

-- the packet whose octets are at a slot
abbrev pub packet_at : List ℕ → Slot → Sent
packet_at octets
    slot = record { port = slot.port; octets = take slot.length (drop slot.place octets) }

abbrev pub packets_at : List ℕ → List Slot → List Sent
packets_at octets slots = map (packet_at octets) slots

-- a packet as the store shows it
abbrev pub sent_of : Stored → Sent
sent_of packet = record { port = packet.port; octets = packet.octets.now }

abbrev pub sent_of_slot : Option Stored → Option Sent
sent_of_slot packet = option_map sent_of packet

-- so many octets are enough for a slot, which is a packet's
pub record IsThere (count : ℕ) (slot : Slot) : Type 0 where
  pub enough : slot.place + slot.length ≤ count
  pub fits : slot.length ≤ max_packet

abbrev pub AreThere : ℕ → List Slot → Type 0
AreThere count slots = All (IsThere count) slots

-- the last slot to a port
abbrev pub or_slot : Bool → Slot → Option Slot → Option Slot
or_slot is_to slot (Some later) = Some later
or_slot is_to slot None = if is_to then Some slot else None

unfoldable pub last_slot : Port → List Slot → Option Slot
last_slot port [] = None
last_slot port (slot ∷ rest) = or_slot (same_port slot.port port) slot (last_slot port rest)
