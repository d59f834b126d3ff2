-- The messages of a login by PAX_STD (RFC 4746 section 2.1), and the records of their MACs.
use Rattle.std.specs.Prelude.{ℕ, List, [], ◌++◌, take, drop}
use Rattle.eap_packet.specs.declared.packet.Code.TheVariants.{Request, Response}
use Rattle.eap_method.specs.declared.tags.Label.TheVariants.{Ak, Tek}
use Rattle.eap_method.specs.declared.tags.TagRecord.{TagRecord}
use Rattle.pax_method.specs.Keys.{mac, ck_of, ick_of}
use Rattle.pax_method.specs.Packets.{pax_kind, std_1, std_2, std_3, ack, packet_with}
use Rattle.pax_method.specs.Packets.{covered, icv_in}
use Rattle.pax_method.specs.declared.login.Login.{Login}

-- what the MAC of PAX_STD-2 covers: A, B and CID; and that of PAX_STD-3: B and CID
abbrev pub joined : Login → List ℕ
joined login = login.a ++ (login.b ++ login.cid)

abbrev pub peer_joined : Login → List ℕ
peer_joined login = login.b ++ login.cid

-- A, B and CID of octets that are joined so
abbrev pub login_in : List ℕ → Login
login_in octets = record {
  a = take 32 octets;
  b = take 32 (drop 32 octets);
  cid = drop 64 octets;
}

unfoldable pub mac_2 : List ℕ → Login → List ℕ
mac_2 ak login = mac (ck_of ak login) (joined login)

unfoldable pub mac_3 : List ℕ → Login → List ℕ
mac_3 ak login = mac (ck_of ak login) (peer_joined login)

-- the packets: the ICV of PAX_STD-1 is under the empty key, any other under ICK
unfoldable pub std_1_of : List ℕ → ℕ → List ℕ
std_1_of a id = packet_with Request [] id (std_1 a)

unfoldable pub std_2_of : List ℕ → Login → ℕ → List ℕ
std_2_of ak login id =
    packet_with Response (ick_of ak login) id (std_2 login.b login.cid (mac_2 ak login))

unfoldable pub std_3_of : List ℕ → Login → ℕ → List ℕ
std_3_of ak login id = packet_with Request (ick_of ak login) id (std_3 (mac_3 ak login))

unfoldable pub ack_of : List ℕ → Login → ℕ → List ℕ
ack_of ak login id = packet_with Response (ick_of ak login) id ack

-- the record of a MAC under CK, and that of a packet's ICV under ICK
abbrev pub ck_record : List ℕ → List ℕ → List ℕ → TagRecord
ck_record ak octets tag =
    record { method = pax_kind; label = Ak; psk = ak; octets = octets; tag = tag }

abbrev pub ick_record : List ℕ → List ℕ → TagRecord
ick_record ak packet =
    record {
      method = pax_kind;
      label = Tek;
      psk = ak;
      octets = covered packet;
      tag = icv_in packet;
    }
