-- The packets of messages have room for an Expanded Type.
use Rattle.std.proofs.Common.{◌≡◌, ℕ, ◌+◌, ◌≤◌, List, IsTrue, arith}
use Rattle.eap_packet.specs.declared.packet.Code.{Code}
use Rattle.eap_packet.specs.Packet.{has_type, value_with}
use Rattle.eap_packet.specs.Packet as packets
use Rattle.eap_packet.specs.Expanded.{max_wrapped}
use Rattle.gpsk_messages.specs.Message.{Message, size_of, spelled}
use Rattle.gpsk_messages.proofs.Grammar.{encodings_are_sized}
use Rattle.eap_method.specs.Capacity.{HasCapacity}
use Rattle.eap_method.proofs.Capacities.{typed_has_capacity}

-- a packet of at most 1,493 octets
pub message_has_capacity : (code : Code) (id : ℕ) (message : Message) (packet : List ℕ)
    → IsTrue (has_type code) → size_of message + 5 ≤ max_wrapped →
    packet ≡ packets.spelled (value_with code id 51 (spelled message)) → HasCapacity packet
message_has_capacity code id message packet typed short e =
    rw e (typed_has_capacity code id 51 (spelled message) typed
    (omega (arith, short, encodings_are_sized message)))
