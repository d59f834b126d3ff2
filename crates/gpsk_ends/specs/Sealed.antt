-- Messages sent, with their MACs.
use Rattle.std.specs.Prelude.{ℕ, List}
use Rattle.octet_lists.specs.declared.suite.Suite.{Suite}
use Rattle.octet_lists.specs.Among.{gpsk_kind}
use Rattle.eap_packet.specs.declared.packet.Code.{Code}
use Rattle.eap_packet.specs.Packet.{value_with}
use Rattle.eap_packet.specs.Packet as packets
use Rattle.gpsk_messages.specs.Message.{Message}
use Rattle.gpsk_messages.specs.Message as messages
use Rattle.eap_method.specs.declared.tags.TagRecord.{TagRecord}
use Rattle.eap_method.specs.GpskTags.{message_with_mac, sk_record}

-- the packet of a message with its MAC
abbrev pub packet_of : Code → ℕ → Suite → List ℕ → Message → List ℕ
packet_of code id suite sk message = packets.spelled
    (value_with code id gpsk_kind (messages.spelled (message_with_mac suite sk message)))

-- and the MAC's record
abbrev pub record_of : Suite → List ℕ → List ℕ → Message → TagRecord
record_of suite sk psk message = sk_record psk (message_with_mac suite sk message)
