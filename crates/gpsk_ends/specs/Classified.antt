-- A message in the Type-Data of a packet that is received.
use Rattle.std.specs.Prelude.{◌≡◌, ℕ, ◌≤◌, List, length}
use Rattle.eap_packet.specs.Packet.{max_type_data}
use Rattle.gpsk_messages.specs.Message.{Message, spelled, mac_of, list_of, max_list, AreFields}

-- the Type-Data of a packet encodes the message, whose fields have their sizes
pub record IsReceived (message : Message) (octets : List ℕ) : Type 0 where
  pub encoding_of : octets ≡ spelled message
  pub fields : AreFields message
  pub mac : length (mac_of message) ≤ 32
  pub suites : length (list_of message) ≤ max_list
  pub size : length octets ≤ max_type_data
