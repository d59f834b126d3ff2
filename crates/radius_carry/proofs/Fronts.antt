-- Octets that begin with a packet have its spelling as their front.
use Rattle.std.proofs.Common.{◌≡◌, ℕ, suc, ◌+◌, ◌*◌, ◌-◌, ◌/◌, ◌%◌, ◌<◌, ◌≤◌, List, [], ◌∷◌, ◌++◌}
use Rattle.std.proofs.Common.{length, take, drop, refl, ap, ◌∙◌, sym, arith, append-nil}
use Rattle.std.proofs.lemmas.List.{length-take-le, length-drop, take-append-drop, take-take}
use Rattle.std.proofs.lemmas.List.{nil_from_length}
use Rattle.eap_packet.specs.Packet.{IsOctets}
use Rattle.radius_carry.specs.Packet.{IsRadius, spelled, head_of, octets_of}
use Rattle.radius_carry.specs.Fault.{body_of, length_of, attributes_of, left_of, packet_at}
use Rattle.radius_carry.proofs.Causes.{StartsAt}
use Rattle.radius_carry.proofs.ReadAttributes.{attributes_encoded}

-- where nothing is left, octets are spelled by their attributes
pub encoding_whole : (octets : List ℕ) → length (left_of octets) ≡ 0
    → octets_of (attributes_of octets) ≡ octets
encoding_whole octets none =
    sym (append-nil (octets_of (attributes_of octets)))
    ∙ ap (λ (l : List ℕ). octets_of (attributes_of octets) ++ l)
    (sym (nil_from_length (left_of octets) none))
    ∙ attributes_encoded octets

take_four : (a b c d m : ℕ) (tail : List ℕ) → take (4 + m) (a ∷ b ∷ c ∷ d ∷ tail)
    ≡ a ∷ b ∷ c ∷ d ∷ take m tail
take_four a b c d m tail =
    let four : 4 + m ≡ suc (suc (suc (suc m))) = omega arith in
    rw four refl

-- the fields of a front, and the octets behind them
front_fields : (code id high low : ℕ) (tail : List ℕ) → low < 256 → 20 ≤ 256 * high + low
    → 256 * high + low ≤ length tail + 4 →
    (let body = drop 20 (take (256 * high + low) (code ∷ id ∷ high ∷ low ∷ tail)) in
    take (256 * high + low) (code ∷ id ∷ high ∷ low ∷ tail)
    ≡ head_of code id (length body) ++ (take 16 tail ++ body))
front_fields code id high low tail small twenty there =
    let m = 256 * high + low - 4 in
    let size : 256 * high + low ≡ 4 + m = omega arith in
    let cut : take (256 * high + low) (code ∷ id ∷ high ∷ low ∷ tail)
    ≡ code ∷ id ∷ high ∷ low ∷ take m tail =
    ap (λ n. take n (code ∷ id ∷ high ∷ low ∷ tail)) size ∙ take_four code id high low m tail in
    let body : drop 20 (take (256 * high + low) (code ∷ id ∷ high ∷ low ∷ tail))
    ≡ drop 16 (take m tail) = ap (drop 20) cut in
    let count : length (drop 16 (take m tail)) + 20 ≡ 256 * high + low =
    omega (arith, length-take-le m tail (omega arith), length-drop 16 (take m tail)) in
    let first : (20 + length (drop 16 (take m tail))) / 256 ≡ high = omega arith in
    let second : (20 + length (drop 16 (take m tail))) % 256 ≡ low = omega arith in
    let front : take 16 (take m tail) ≡ take 16 tail = take-take 16 m tail (omega arith) in
    let whole = take-append-drop 16 (take m tail) in
    rw body (cut ∙ cc)

pub encoding_front : (octets : List ℕ) → IsOctets octets → StartsAt octets
    → take (length_of octets) octets ≡ spelled (packet_at octets)
unfolding spelled packet_at
encoding_front [] small b = absurd (omega (arith, b.head.twenty))
encoding_front (a ∷ []) small b = absurd (omega (arith, b.head.twenty))
encoding_front (a ∷ c ∷ []) small b = absurd (omega (arith, b.head.twenty))
encoding_front (a ∷ c ∷ d ∷ []) small b = absurd (omega (arith, b.head.twenty))
encoding_front (code ∷ id ∷ high ∷ low ∷ tail) small b =
    let octets = code ∷ id ∷ high ∷ low ∷ tail in
    let same : octets_of (attributes_of (body_of octets)) ≡ body_of octets =
    encoding_whole (body_of octets) b.body.none_left in
    rw same (front_fields code id high low tail (small 3 0 (omega arith)) b.head.low
    (omega (arith, b.head.whole)))

-- the fields of octets that begin with a packet are a packet that carries EAP
pub radius_if_starts : (octets : List ℕ) → IsOctets octets → StartsAt octets
    → IsRadius (packet_at octets) (take (length_of octets) octets)
unfolding packet_at
radius_if_starts octets small b = record {
  encoding_of = encoding_front octets small b;
  known = b.head.known;
  authenticator =
      let head = b.head in
      length-take-le 16 (drop 4 octets) (omega (arith, length-drop 4 octets));
  size = let head = b.head in omega (arith, length-take-le (length_of octets) octets head.whole);
  carries = b.body.carries;
  eap_bounded = b.body.eap_bounded;
  lone_tag = b.body.lone_tag;
  tag_size = b.body.tag_size;
}
