-- The spelling of a packet: how long it is, and that it is read as that packet.
use Rattle.std.proofs.Common.{◌≡◌, ◌≢◌, ℕ, ◌+◌, ◌-◌, ◌<◌, ◌≤◌, List, [], ◌∷◌, ◌++◌, length, take}
use Rattle.std.proofs.Common.{drop, Ok, refl, ap, ◌∙◌, arith, length-append, IsTrue}
use Rattle.std.proofs.lemmas.List.{take_at}
use Rattle.eap_packet.specs.declared.packet.Code.{Code}
use Rattle.eap_packet.specs.declared.packet.Code.TheVariants.{Request, Response, Success, Failure}
use Rattle.eap_packet.specs.Packet.{PacketValue, request, response, success, failure, spelled}
use Rattle.eap_packet.specs.Packet.{frame_of, two_octets, number_of, value_with, has_type, IsPacket}
use Rattle.eap_packet.specs.Fault.{code_of, length_of, fields_of, packet_of, packet_unless}
use Rattle.eap_packet.proofs.Faults.{StartsAt, none_if_starts}

-- the octets of a packet's spelling
abbrev pub size_of : PacketValue → ℕ
size_of (request id kind body) = length body + 5
size_of (response id kind body) = length body + 5
size_of (success id) = 4
size_of (failure id) = 4

-- the fields before the Type-Data, and the Type-Data behind them
pub encoding_from_front : (code : Code) (id kind size : ℕ) (body : List ℕ) → IsTrue (has_type code)
    → length body ≡ size →
    (number_of code ∷ id ∷ two_octets (5 + size)) ++ kind ∷ [] ++ body
    ≡ spelled (value_with code id kind body)
unfolding spelled
encoding_from_front Request id kind size body t e =
    let count : 5 + size ≡ length (kind ∷ body) + 4 = omega (arith, e) in
    ap (λ n. 1 ∷ id ∷ two_octets n ++ kind ∷ body) count
encoding_from_front Response id kind size body t e =
    let count : 5 + size ≡ length (kind ∷ body) + 4 = omega (arith, e) in
    ap (λ n. 2 ∷ id ∷ two_octets n ++ kind ∷ body) count
encoding_from_front Success id kind size body t e = absurd cc
encoding_from_front Failure id kind size body t e = absurd cc

pub length_spelled : (packet : PacketValue) → length (spelled packet) ≡ size_of packet
unfolding spelled
length_spelled (request id kind body) = omega arith
length_spelled (response id kind body) = omega arith
length_spelled (success id) = refl
length_spelled (failure id) = refl

pub encoding_bounded : (packet : PacketValue) → IsPacket packet → length (spelled packet) ≤ 1500
unfolding spelled
encoding_bounded (request id kind body) p = omega (arith, p.0.size)
encoding_bounded (response id kind body) p = omega (arith, p.0.size)
encoding_bounded (success id) p = omega arith
encoding_bounded (failure id) p = omega arith

-- where no cause applies, the octets are read as their fields
pub read_if_starts : (octets : List ℕ) → StartsAt octets
    → packet_of octets ≡ Ok (fields_of (code_of octets) octets)
unfolding packet_of
read_if_starts octets b = ap (λ found. packet_unless found octets) (none_if_starts octets b)

-- the Length field of a Request or a Response
length_typed : (code id kind : ℕ) (body rest : List ℕ)
    → length_of (frame_of code id (kind ∷ body) ++ rest) ≡ length body + 5
length_typed code id kind body rest = omega arith

body_typed : (code id kind : ℕ) (body rest : List ℕ) →
    (let octets =
    frame_of code id (kind ∷ body) ++ rest in take (length_of octets - 5) (drop 5 octets) ≡ body)
body_typed code id kind body rest = take_at body rest _ (omega arith)

-- a spelling, with any octets behind it, begins with a packet
starts_typed : (code id kind : ℕ) (body rest : List ℕ) → 1 ≤ code → code ≤ 2 → length body ≤ 1495 →
    (code ≡ 1 → kind ≢ 3) → (code ≡ 2 → kind ≡ 3 → 0 < length body)
    → StartsAt (frame_of code id (kind ∷ body) ++ rest)
starts_typed code id kind body rest low high size no_nak desires =
    let count = length-append body rest in
    let field = length_typed code id kind body rest in
    record {
      four = omega arith;
      low = low;
      high = omega arith;
      typed = λ h. omega arith;
      plain = λ h. absurd (omega arith);
      whole = omega arith;
      fits = omega arith;
      no_nak = no_nak;
      desires = λ h k s. absurd (omega (arith, desires h k));
    }

not_empty : (body : List ℕ) → body ≢ [] → 0 < length body
not_empty [] ne = absurd (ne refl)
not_empty (x ∷ body) ne = omega arith

pub prefix_encoding : (packet : PacketValue) (rest : List ℕ) → IsPacket packet
    → StartsAt (spelled packet ++ rest)
unfolding spelled
prefix_encoding (request id kind body) rest p = starts_typed 1 id kind body rest (omega arith)
    (omega arith) p.0.size (λ _. p.1) (λ h. absurd (omega arith))
prefix_encoding (response id kind body) rest p = starts_typed 2 id kind body rest (omega arith)
    (omega arith) p.0.size (λ h. absurd (omega arith)) (λ _ k. not_empty body (p.1 k))
prefix_encoding (success id) rest p = record {
  four = omega arith;
  low = omega arith;
  high = omega arith;
  typed = λ h. absurd (omega arith);
  plain = λ _. refl;
  whole = omega arith;
  fits = omega arith;
  no_nak = λ h. absurd (omega arith);
  desires = λ h. absurd (omega arith);
}
prefix_encoding (failure id) rest p = record {
  four = omega arith;
  low = omega arith;
  high = omega arith;
  typed = λ h. absurd (omega arith);
  plain = λ _. refl;
  whole = omega arith;
  fits = omega arith;
  no_nak = λ h. absurd (omega arith);
  desires = λ h. absurd (omega arith);
}

fields_encoded : (packet : PacketValue) (rest : List ℕ)
    → (let octets = spelled packet ++ rest in fields_of (code_of octets) octets ≡ packet)
unfolding spelled
fields_encoded (request id kind body) rest = ap (request id kind) (body_typed 1 id kind body rest)
fields_encoded (response id kind body) rest = ap (response id kind) (body_typed 2 id kind body rest)
fields_encoded (success id) rest = refl
fields_encoded (failure id) rest = refl

-- A spelling, with any octets behind it, is read as its packet.
pub packet_of_encoding : (packet : PacketValue) (rest : List ℕ) → IsPacket packet
    → packet_of (spelled packet ++ rest) ≡ Ok packet
packet_of_encoding packet rest p =
    read_if_starts (spelled packet ++ rest) (prefix_encoding packet rest p)
    ∙ ap Ok (fields_encoded packet rest)
