-- The plain form of a packet, and a packet wrapped, are packets.
use Rattle.std.proofs.Common.{◌≡◌, ◌≢◌, ℕ, ◌<◌, ◌≤◌, List, ◌∷◌, ◌++◌, length, true, arith}
use Rattle.std.proofs.lemmas.Bool.{cond_both}
use Rattle.std.proofs.lemmas.Bool.Decides.{nat_tests}
use Rattle.std.proofs.lemmas.List.{length-drop}
use Rattle.std.proofs.lemmas.List.Elements.{All-drop, All-append, All-cons, All-from_recursion}
use Rattle.octet_lists.specs.Among.{ietf}
use Rattle.eap_packet.specs.Packet.{request, response, success, failure, IsPacket, AreTypedFields}
use Rattle.eap_packet.specs.Expanded.{is_wrapped, inner_kind, inner_body}
use Rattle.eap_packet.specs.Laws.{PlainIsPacket, WrapIsPacket}
use Rattle.eap_packet.proofs.IsEncodingOf.{length_spelled}

-- a wrapped packet has the Type inside, which is no Nak
has_inner : (kind : ℕ) (body : List ℕ) → is_wrapped kind body ≡ true → 6 < length body
has_inner kind body is = grind (arith, nat_tests, is)

no_nak : (kind : ℕ) (body : List ℕ) → is_wrapped kind body ≡ true → inner_kind body ≢ 3
no_nak kind body is nak = grind (arith, nat_tests, is, nak)

inner_fields : (id kind : ℕ) (body : List ℕ) → is_wrapped kind body ≡ true
    → AreTypedFields id kind body →
    AreTypedFields id (inner_kind body) (inner_body body)
inner_fields id kind body is p = record {
  id_bounded = p.id_bounded;
  kind_bounded = p.octets 6 0 (has_inner kind body is);
  octets = All-drop (λ b. b < 256) 7 body p.octets;
  size = omega (arith, length-drop 7 body, p.size);
}

pub plain_is_packet : PlainIsPacket
plain_is_packet (request id kind body) p =
    cond_both (is_wrapped kind body) (request id (inner_kind body) (inner_body body))
    (request id kind body) (λ v. IsPacket v)
    (λ is. (inner_fields id kind body is p.0, no_nak kind body is)) (λ _. p)
plain_is_packet (response id kind body) p =
    cond_both (is_wrapped kind body) (response id (inner_kind body) (inner_body body))
    (response id kind body) (λ v. IsPacket v)
    (λ is. (inner_fields id kind body is p.0, λ nak. absurd (no_nak kind body is nak))) (λ _. p)
plain_is_packet (success id) p = p
plain_is_packet (failure id) p = p

wrapped_fields : (id kind : ℕ) (body : List ℕ) → AreTypedFields id kind body → length body ≤ 1488
    → AreTypedFields id 254 (ietf ++ kind ∷ body)
wrapped_fields id kind body p size = record {
  id_bounded = p.id_bounded;
  kind_bounded = omega arith;
  octets = All-append (λ b. b < 256) ietf (kind ∷ body)
      (All-from_recursion (λ b. b < 256) ietf
      (omega arith, (omega arith, (omega arith, (omega arith, (omega arith, (omega arith, tt)))))))
      (All-cons (λ b. b < 256) kind body p.kind_bounded p.octets);
  size = omega arith;
}

pub wrap_is_packet : WrapIsPacket
wrap_is_packet (request id kind body) p fits = (
  wrapped_fields id kind body p.0 (omega (arith, fits, length_spelled (request id kind body))),
  λ nak. absurd (omega (arith, nak)),
)
wrap_is_packet (response id kind body) p fits = (
  wrapped_fields id kind body p.0 (omega (arith, fits, length_spelled (response id kind body))),
  λ nak. absurd (omega (arith, nak)),
)
wrap_is_packet (success id) p fits = p
wrap_is_packet (failure id) p fits = p
