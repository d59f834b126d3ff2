-- The packets of PAX_STD (RFC 4746 sections 2.1 and 3), with MAC ID 0x02 and neither a
-- Diffie-Hellman group nor a public key.
use Rattle.std.specs.Prelude.{ℕ, ◌-◌, List, [], ◌∷◌, ◌++◌, length, take, drop, replicate, Bool}
use Rattle.std.specs.Prelude.{◌==◌, ◌&&◌, nat_le, if◌then◌else◌, Option, Some, None}
use Rattle.std.specs.List.{slice_range}
use Rattle.std.specs.Str.{bytes_eq}
use Rattle.eap_packet.specs.Packet.{spelled, two_octets, value_with}
use Rattle.eap_packet.specs.declared.packet.Code.{Code}
use Rattle.pax_method.specs.Keys.{mac}
use Rattle.pax_method.specs.declared.login.Fields.{Fields}

-- the Type of EAP-PAX
abbrev pub pax_kind : ℕ
pax_kind = 46

-- OP-Code, Flags, MAC ID, DH Group ID and Public Key ID (section 3.1)
abbrev pub front : ℕ → List ℕ
front op = op ∷ 0 ∷ 2 ∷ 0 ∷ 0 ∷ []

-- an element of the payload: its length in two octets, and its value (section 3.2)
abbrev pub element : List ℕ → List ℕ
element value = two_octets (length value) ++ value

-- the Type-Data up to the ICV, of PAX_STD-1, PAX_STD-2, PAX_STD-3 and PAX-ACK
unfoldable pub std_1 : List ℕ → List ℕ
std_1 a = front 1 ++ element a

unfoldable pub std_2 : List ℕ → List ℕ → List ℕ → List ℕ
std_2 b cid mac_ck = front 2 ++ (element b ++ (element cid ++ element mac_ck))

unfoldable pub std_3 : List ℕ → List ℕ
std_3 mac_ck = front 3 ++ element mac_ck

unfoldable pub ack : List ℕ
ack = front 0x21

-- ---- the ICV: the last 16 octets of a packet, the MAC of those before it (section 3.4)

abbrev pub covered : List ℕ → List ℕ
covered packet = take (length packet - 16) packet

abbrev pub icv_in : List ℕ → List ℕ
icv_in packet = drop (length packet - 16) packet

abbrev pub has_icv : List ℕ → List ℕ → Bool
has_icv key packet = bytes_eq (mac key (covered packet)) (icv_in packet)

-- the place of the ICV
abbrev pub no_icv : List ℕ
no_icv = replicate 16 0

-- a Request or a Response with its ICV under this key
abbrev pub icv_for : Code → List ℕ → ℕ → List ℕ → List ℕ
icv_for code key id octets =
    mac key (covered (spelled (value_with code id pax_kind (octets ++ no_icv))))

unfoldable pub packet_with : Code → List ℕ → ℕ → List ℕ → List ℕ
packet_with code key id octets =
    spelled (value_with code id pax_kind (octets ++ icv_for code key id octets))

-- ---- reading Type-Data: the fields stand where they do if the message is the one awaited, and it
-- is if it is spelled of them

-- the Type-Data but for the ICV
abbrev pub before_icv : List ℕ → List ℕ
before_icv body = take (length body - 16) body

-- A of PAX_STD-1
unfoldable pub read_1 : List ℕ → Option (List ℕ)
read_1 body =
    let a = slice_range body 7 39 in
    if (length body == 55) && bytes_eq (before_icv body) (std_1 a) then Some a else None

-- B, CID and MAC_CK (A, B, CID) of PAX_STD-2, whose CID has at most 253 octets
abbrev pub fields_in : List ℕ → Fields
fields_in body = record {
  b = slice_range body 7 39;
  cid = slice_range body 41 (length body - 34);
  mac_ck = slice_range body (length body - 32) (length body - 16);
}

unfoldable pub read_2 : List ℕ → Option Fields
read_2 body =
    let found = fields_in body in
    if nat_le 75 (length body) && (nat_le (length body) 328
    && bytes_eq (before_icv body) (std_2 found.b found.cid found.mac_ck)) then Some found else None

-- MAC_CK (B, CID) of PAX_STD-3
unfoldable pub read_3 : List ℕ → Option (List ℕ)
read_3 body =
    let mac_ck = slice_range body 7 23 in
    if (length body == 39) && bytes_eq (before_icv body) (std_3 mac_ck) then Some mac_ck else None

-- whether it is PAX-ACK
unfoldable pub is_ack : List ℕ → Bool
is_ack body = (length body == 21) && bytes_eq (before_icv body) ack
