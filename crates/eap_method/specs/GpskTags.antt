-- The MACs of EAP-GPSK (RFC 5433 sections 8.1.2 and 8.2.2): what they cover, and their records.
use Rattle.std.specs.Prelude.{ℕ, List, [], ◌∷◌, Bool, ◌==◌}
use Rattle.std.specs.Str.{bytes_eq}
use Rattle.std.specs.List.{flat_map}
use Rattle.octet_lists.specs.declared.suite.Suite.{Suite}
use Rattle.octet_lists.specs.Suite.{suite_number}
use Rattle.octet_lists.specs.Among.{gpsk_kind}
use Rattle.eap_packet.specs.Packet.{request, response}
use Rattle.eap_packet.specs.Packet as packets
use Rattle.gpsk_messages.specs.Message.{Message, covered_of, mac_of}
use Rattle.gpsk_messages.specs.Message as messages
use Rattle.gpsk_messages.specs.Reading.{with_mac}
use Rattle.login_keys.specs.Gpsk.{gpsk_tag_of}
use Rattle.eap_method.specs.declared.tags.Label.TheVariants.{Sk}
use Rattle.eap_method.specs.declared.tags.TagRecord.{TagRecord}

-- the octets of a Request or a Response with this message
abbrev pub gpsk_request : ℕ → Message → List ℕ
gpsk_request id message = packets.spelled (request id gpsk_kind (messages.spelled message))

abbrev pub gpsk_response : ℕ → Message → List ℕ
gpsk_response id message = packets.spelled (response id gpsk_kind (messages.spelled message))

-- a message with the MAC of its covered octets under SK
abbrev pub message_with_mac : Suite → List ℕ → Message → Message
message_with_mac suite sk message = with_mac message (gpsk_tag_of suite sk (covered_of message))

-- whether a message has that MAC
abbrev pub is_tagged : Suite → List ℕ → Message → Bool
is_tagged suite sk message = bytes_eq (gpsk_tag_of suite sk (covered_of message)) (mac_of message)

-- the record of a message's MAC
abbrev pub sk_record : List ℕ → Message → TagRecord
sk_record psk message = record {
  method = gpsk_kind;
  label = Sk;
  psk = psk;
  octets = covered_of message;
  tag = mac_of message;
}

-- whether two suites are the same
abbrev pub same_suite : Suite → Suite → Bool
same_suite one other = suite_number one == suite_number other

-- CSuite_List: the entry of each suite, vendor 0 in four octets and the specifier in two
unfoldable pub suite_list : List ℕ → List ℕ
suite_list suites = flat_map (λ suite. 0 ∷ 0 ∷ 0 ∷ 0 ∷ 0 ∷ suite ∷ []) suites
