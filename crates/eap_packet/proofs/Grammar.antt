-- The laws of the grammar.
use Rattle.std.proofs.Common.{◌≡◌, ℕ, ◌-◌, ◌<◌, ◌≤◌, List, ◌++◌, length, suc, zero, take, drop}
use Rattle.std.proofs.Common.{slice_index, Option, Some, None, Ok, refl, ap, ◌∙◌, sym, subst, arith}
use Rattle.std.proofs.lemmas.List.{length-take, length-drop, take-append-drop}
use Rattle.std.proofs.lemmas.List.Elements.{All-take, All-drop}
use Rattle.eap_packet.specs.declared.cause.Cause.{Cause}
use Rattle.eap_packet.specs.Packet.{PacketValue, spelled, IsPacket, IsOctets, AreTypedFields}
use Rattle.eap_packet.specs.Fault.{code_of, length_of, type_of, fields_of, fault, packet_of}
use Rattle.eap_packet.specs.Fault.{packet_unless}
use Rattle.eap_packet.specs.Laws.{IsPrefixed, EncodingsAreRead, EncodingsAreApart, ReadsTheEncoding}
use Rattle.eap_packet.specs.Laws.{FaultlessIsEncoded}
use Rattle.eap_packet.proofs.Faults.{StartsAt, AreFields, starts_if_none, none_if_starts}
use Rattle.eap_packet.proofs.Fronts.{encoding_front}
use Rattle.eap_packet.proofs.IsEncodingOf.{packet_of_encoding, prefix_encoding}

-- the octets of the Type-Data
body_octets : (size : ℕ) (octets : List ℕ) → IsOctets octets
    → IsOctets (take (size - 5) (drop 5 octets))
body_octets size octets small =
    All-take (λ b. b < 256) (size - 5) (drop 5 octets) (All-drop (λ b. b < 256) 5 octets small)

-- how much Type-Data there is
body_size : (size : ℕ) (octets : List ℕ) → size ≤ length octets
    → length (take (size - 5) (drop 5 octets)) ≡ size - 5
body_size size octets whole =
    omega (arith, length-take (size - 5) (drop 5 octets), length-drop 5 octets)

-- the Identifier, the Type and the Type-Data of a Request or a Response
typed_fields : (octets : List ℕ) (size : ℕ) → IsOctets octets → 5 ≤ size → size ≤ length octets
    → size ≤ 1500 →
    AreTypedFields (slice_index octets 1) (type_of octets) (take (size - 5) (drop 5 octets))
typed_fields octets size small typed whole fits = record {
  id_bounded = small 1 0 (omega arith);
  kind_bounded = small 4 0 (omega arith);
  octets = body_octets size octets small;
  size = omega (arith, body_size size octets whole);
}

-- the fields of octets that begin with a packet are a packet
pub fields_are_packet : (code : ℕ) (octets : List ℕ) → IsOctets octets →
    AreFields (length octets) code (length_of octets) (type_of octets)
    → IsPacket (fields_of code octets)
fields_are_packet zero octets small b = absurd (omega (arith, b.low))
fields_are_packet (suc zero) octets small b = (
  typed_fields octets (length_of octets) small (b.typed (omega arith)) b.whole b.fits,
  b.no_nak refl,
)
fields_are_packet (suc (suc zero)) octets small b = (
  typed_fields octets (length_of octets) small (b.typed (omega arith)) b.whole b.fits,
  λ nak empty. b.desires refl nak (omega
      (arith, ap length empty, body_size (length_of octets) octets b.whole, b.typed (omega arith))),
)
fields_are_packet (suc (suc (suc zero))) octets small b = small 1 0 (omega (arith, b.four))
fields_are_packet (suc (suc (suc (suc zero)))) octets small b = small 1 0 (omega (arith, b.four))
fields_are_packet (suc (suc (suc (suc (suc code))))) octets small b = absurd (omega (arith, b.high))

-- what is read comes of no cause, and is the fields
unless_ok : (found : Option Cause) (octets : List ℕ) (packet : PacketValue) →
    packet_unless found octets ≡ Ok packet → (found ≡ None)
    × (fields_of (code_of octets) octets ≡ packet)
unless_ok None octets packet e = (refl, cc)
unless_ok (Some cause) octets packet e = cc

pub starts_if_read : (octets : List ℕ) (packet : PacketValue) → packet_of octets ≡ Ok packet
    → StartsAt octets
unfolding packet_of
starts_if_read octets packet e = starts_if_none octets (unless_ok (fault octets) octets packet e).0

pub fields_if_read : (octets : List ℕ) (packet : PacketValue) → packet_of octets ≡ Ok packet
    → fields_of (code_of octets) octets ≡ packet
unfolding packet_of
fields_if_read octets packet e = (unless_ok (fault octets) octets packet e).1

-- octets that begin with a packet are the spelling of their fields and what comes after
prefixed_by_fields : (octets : List ℕ) → IsOctets octets → StartsAt octets
    → IsPrefixed octets (fields_of (code_of octets) octets)
prefixed_by_fields octets small b = record {
  is_packet = fields_are_packet (code_of octets) octets small b;
  rest = drop (length_of octets) octets;
  joined = sym (take-append-drop (length_of octets) octets)
      ∙ ap (λ front. front ++ drop (length_of octets) octets) (encoding_front octets small b);
}

pub encodings_are_read : EncodingsAreRead
encodings_are_read = packet_of_encoding

pub encodings_are_apart : EncodingsAreApart
encodings_are_apart one other rest others p q e =
    let same =
    sym (packet_of_encoding one rest p) ∙ ap packet_of e ∙ packet_of_encoding other others q in
    cc

pub reads_the_encoding : ReadsTheEncoding
reads_the_encoding octets packet small = (
  λ e. subst (IsPrefixed octets) (fields_if_read octets packet e)
      (prefixed_by_fields octets small (starts_if_read octets packet e)),
  λ b. ap packet_of b.joined ∙ packet_of_encoding packet b.rest b.is_packet,
)

pub faultless_is_encoded : FaultlessIsEncoded
faultless_is_encoded octets small = (
  λ e. (
    fields_of (code_of octets) octets,
    prefixed_by_fields octets small (starts_if_none octets e),
  ),
  λ w. ap fault w.1.joined
      ∙ none_if_starts (spelled w.0 ++ w.1.rest) (prefix_encoding w.0 w.1.rest w.1.is_packet),
)
