-- The laws of the grammar.
use Rattle.std.proofs.Common.{◌≡◌, ℕ, ◌+◌, ◌*◌, ◌/◌, ◌%◌, List, [], ◌∷◌, ◌++◌, length, suc, take}
use Rattle.std.proofs.Common.{drop, slice_index, IsTrue, Option, Some, None, Ok}
use Rattle.std.proofs.Common.{refl, ap, ◌∙◌, sym, subst, arith, append_assoc, length-append}
use Rattle.std.proofs.lemmas.List.{take_at, drop_at, take-append-drop}
use Rattle.eap_packet.specs.Packet.{IsOctets}
use Rattle.radius_carry.specs.declared.cause.RadiusCause.{RadiusCause}
use Rattle.radius_carry.specs.Packet.{RadiusPacket, IsRadius, is_code, octets_of, spelled}
use Rattle.radius_carry.specs.Fault.{attributes_of, left_of, body_of, code_of, length_of, fault}
use Rattle.radius_carry.specs.Fault.{packet_at, packet_of, packet_unless}
use Rattle.radius_carry.specs.Laws.{IsPrefixed, EncodingsAreRead, EncodingsAreApart}
use Rattle.radius_carry.specs.Laws.{ReadsTheEncoding, FaultlessIsEncoded}
use Rattle.radius_carry.proofs.ReadAttributes.{stored_whole}
use Rattle.radius_carry.proofs.Causes.{StartsAt, HasHead, HasBody, starts_if_none, none_if_starts}
use Rattle.radius_carry.proofs.Fronts.{radius_if_starts, encoding_front}

-- what is read comes of no cause, and is the fields
unless_ok : (found : Option RadiusCause) (octets : List ℕ) (packet : RadiusPacket) →
    packet_unless found octets ≡ Ok packet → (found ≡ None) × (packet_at octets ≡ packet)
unless_ok None octets packet e = (refl, cc)
unless_ok (Some cause) octets packet e = cc

starts_if_read : (octets : List ℕ) (packet : RadiusPacket) → packet_of octets ≡ Ok packet
    → StartsAt octets
unfolding packet_of
starts_if_read octets packet e = starts_if_none octets (unless_ok (fault octets) octets packet e).0

fields_if_read : (octets : List ℕ) (packet : RadiusPacket) → packet_of octets ≡ Ok packet
    → packet_at octets ≡ packet
unfolding packet_of
fields_if_read octets packet e = (unless_ok (fault octets) octets packet e).1

-- where no cause applies, the octets are read as their fields
read_if_starts : (octets : List ℕ) → StartsAt octets → packet_of octets ≡ Ok (packet_at octets)
unfolding packet_of
read_if_starts octets b = ap (λ found. packet_unless found octets) (none_if_starts octets b)

-- octets that begin with a packet are its spelling and what comes after
prefixed_by_fields : (octets : List ℕ) → IsOctets octets → StartsAt octets
    → IsPrefixed octets (packet_at octets)
prefixed_by_fields octets small b = record {
  is_radius = subst (IsRadius (packet_at octets)) (encoding_front octets small b)
      (radius_if_starts octets small b);
  rest = drop (length_of octets) octets;
  joined = sym (take-append-drop (length_of octets) octets)
      ∙ ap (λ (l : List ℕ). l ++ drop (length_of octets) octets) (encoding_front octets small b);
}

-- ---- a spelling with any octets behind it

take_front : (a b c d m : ℕ) (front rest : List ℕ) → length front + 4 ≡ m
    → take m (a ∷ b ∷ c ∷ d ∷ (front ++ rest)) ≡ a ∷ b ∷ c ∷ d ∷ front
take_front a b c d m front rest e =
    let four : m ≡ suc (suc (suc (suc (length front)))) = omega arith in
    rw four (ap (λ (l : List ℕ). a ∷ b ∷ c ∷ d ∷ l) (take_at front rest (length front) refl))

record EncodedOctets (packet : RadiusPacket) (rest : List ℕ) : Type 0 where
  size : length_of (spelled packet ++ rest) ≡ 20 + length (octets_of packet.attributes)
  body : body_of (spelled packet ++ rest) ≡ octets_of packet.attributes
  front : take 16 (drop 4 (spelled packet ++ rest)) ≡ packet.authenticator
  room : length (spelled packet ++ rest) ≡ 20 + length (octets_of packet.attributes) + length rest

encoded_fields : (packet : RadiusPacket) (rest : List ℕ) → length packet.authenticator ≡ 16
    → EncodedOctets packet rest
unfolding spelled
encoded_fields packet rest sixteen =
    let octets = octets_of packet.attributes in
    let size : ℕ = 20 + length octets in
    let behind : List ℕ = packet.authenticator ++ octets in
    let both = length-append packet.authenticator octets in
    let number : 256 * (size / 256) + size % 256 ≡ size = omega arith in
    let whole : take size (spelled packet ++ rest)
    ≡ packet.code ∷ packet.id ∷ size / 256 ∷ size % 256 ∷ behind =
    take_front packet.code packet.id (size / 256) (size % 256) size behind rest (omega arith) in
    let cut : drop 20 (packet.code ∷ packet.id ∷ size / 256 ∷ size % 256 ∷ behind) ≡ octets =
    drop_at packet.authenticator octets 16 sixteen in
    record {
      size = number;
      body = ap (λ n. drop 20 (take n (spelled packet ++ rest))) number ∙ ap (drop 20) whole ∙ cut;
      front = ap (take 16) (append_assoc packet.authenticator octets rest)
          ∙ take_at packet.authenticator (octets ++ rest) 16 sixteen;
      room = omega (arith, both, length-append behind rest);
    }

-- the Code and the Identifier stand first
known_code : (packet : RadiusPacket) (rest : List ℕ) → IsRadius packet (spelled packet)
    → IsTrue (is_code (code_of (spelled packet ++ rest)))
unfolding spelled
known_code packet rest is = is.known

first_fields : (packet : RadiusPacket) (rest : List ℕ) →
    (let whole : RadiusPacket = record {
      code = code_of (spelled packet ++ rest);
      id = slice_index (spelled packet ++ rest) 1;
      authenticator = packet.authenticator;
      attributes = packet.attributes;
    } in whole ≡ packet)
unfolding spelled
first_fields packet rest = refl

prefix_encoding : (packet : RadiusPacket) (rest : List ℕ) → IsRadius packet (spelled packet)
    → StartsAt (spelled packet ++ rest)
prefix_encoding packet rest is =
    let fields = encoded_fields packet rest is.authenticator in
    let held = stored_whole packet.attributes in
    let attributes : attributes_of (body_of (spelled packet ++ rest)) ≡ packet.attributes =
    ap attributes_of fields.body ∙ held.same in
    let left : left_of (body_of (spelled packet ++ rest)) ≡ [] =
    ap left_of fields.body ∙ held.none_left in
    let whole = length-append (spelled packet) rest in
    let head : HasHead (spelled packet ++ rest) =
    record {
      twenty = omega (arith, fields.room);
      known = known_code packet rest is;
      low = omega (arith, fields.size);
      high = omega (arith, fields.size, fields.room, is.size);
      whole = omega (arith, fields.size, fields.room);
    } in
    let body : HasBody (body_of (spelled packet ++ rest)) =
    record {
      none_left = ap length left;
      carries = rw attributes is.carries;
      eap_bounded = rw attributes is.eap_bounded;
      lone_tag = rw attributes is.lone_tag;
      tag_size = rw attributes is.tag_size;
    } in
    record { head = head; body = body }

fields_encoded : (packet : RadiusPacket) (rest : List ℕ) → IsRadius packet (spelled packet)
    → packet_at (spelled packet ++ rest) ≡ packet
unfolding packet_at
fields_encoded packet rest is =
    let fields = encoded_fields packet rest is.authenticator in
    let held = stored_whole packet.attributes in
    let attributes : attributes_of (body_of (spelled packet ++ rest)) ≡ packet.attributes =
    ap attributes_of fields.body ∙ held.same in
    rw (attributes, fields.front) (first_fields packet rest)

pub encodings_are_read : EncodingsAreRead
encodings_are_read packet rest is =
    read_if_starts (spelled packet ++ rest) (prefix_encoding packet rest is)
    ∙ ap Ok (fields_encoded packet rest is)

pub encodings_are_apart : EncodingsAreApart
encodings_are_apart one other rest others p q e =
    let same =
    sym (encodings_are_read one rest p) ∙ ap packet_of e ∙ encodings_are_read other others q in
    cc

pub reads_the_encoding : ReadsTheEncoding
reads_the_encoding octets packet small = (
  λ e. subst (IsPrefixed octets) (fields_if_read octets packet e)
      (prefixed_by_fields octets small (starts_if_read octets packet e)),
  λ b. ap packet_of b.joined ∙ encodings_are_read packet b.rest b.is_radius,
)

pub faultless_is_encoded : FaultlessIsEncoded
faultless_is_encoded octets small = (
  λ e. (packet_at octets, prefixed_by_fields octets small (starts_if_none octets e)),
  λ w. ap fault w.1.joined
      ∙ none_if_starts (spelled w.0 ++ w.1.rest) (prefix_encoding w.0 w.1.rest w.1.is_radius),
)
