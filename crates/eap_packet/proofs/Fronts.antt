-- Octets that begin with a packet have its spelling as their front.
use Rattle.std.proofs.Common.{◌≡◌, ℕ, ◌+◌, ◌*◌, ◌-◌, ◌/◌, ◌%◌, ◌<◌, ◌≤◌, List, [], ◌∷◌, length, suc}
use Rattle.std.proofs.Common.{zero, take, All, refl, ap, ◌∙◌, arith}
use Rattle.std.proofs.lemmas.List.{length-take-le}
use Rattle.eap_packet.specs.Packet.{spelled, frame_of}
use Rattle.eap_packet.specs.Fault.{code_of, length_of, fields_of}
use Rattle.eap_packet.proofs.Faults.{StartsAt}

first_five : (a b c d e m : ℕ) (tail : List ℕ) → take (5 + m) (a ∷ b ∷ c ∷ d ∷ e ∷ tail)
    ≡ a ∷ b ∷ c ∷ d ∷ e ∷ take m tail
first_five a b c d e m tail =
    let five : 5 + m ≡ suc (suc (suc (suc (suc m)))) = omega arith in
    rw five refl

-- The front of a Request or a Response: the Length says how much Type-Data there is.
typed_front : (code id high low kind : ℕ) (tail : List ℕ) →
    low < 256 → 5 ≤ 256 * high + low
    → 256 * high + low ≤ length (code ∷ id ∷ high ∷ low ∷ kind ∷ tail) →
    take (256 * high + low) (code ∷ id ∷ high ∷ low ∷ kind ∷ tail)
    ≡ frame_of code id (kind ∷ take (256 * high + low - 5) tail)
typed_front code id high low kind tail small typed there =
    let m = 256 * high + low - 5 in
    let size : 256 * high + low ≡ 5 + m = omega arith in
    let count : length (take m tail) ≡ m = length-take-le m tail (omega arith) in
    let first : (length (kind ∷ take m tail) + 4) / 256 ≡ high = omega arith in
    let second : (length (kind ∷ take m tail) + 4) % 256 ≡ low = omega arith in
    ap (λ n. take n (code ∷ id ∷ high ∷ low ∷ kind ∷ tail)) size
    ∙ first_five code id high low kind m tail ∙ cc

-- The front of a Success or a Failure.
plain_front : (code id high low : ℕ) (tail : List ℕ) → low < 256 → 256 * high + low ≡ 4 →
    take (256 * high + low) (code ∷ id ∷ high ∷ low ∷ tail) ≡ frame_of code id []
plain_front code id high low tail small size =
    let first : 0 ≡ high = omega arith in
    let second : 4 ≡ low = omega arith in
    ap (λ n. take n (code ∷ id ∷ high ∷ low ∷ tail)) size ∙ cc

-- the front of octets, by the Code
front : (code id high low : ℕ) (rest : List ℕ) → low < 256 →
    (let octets = code ∷ id ∷ high ∷ low ∷ rest in StartsAt octets
    → take (length_of octets) octets ≡ spelled (fields_of (code_of octets) octets))
unfolding spelled
front zero id high low rest small b = absurd (omega arith)
front (suc zero) id high low [] small b = absurd (omega (arith, b.typed))
front (suc zero) id high low (kind ∷ tail) small b =
    typed_front 1 id high low kind tail small (b.typed (omega arith)) b.whole
front (suc (suc zero)) id high low [] small b = absurd (omega (arith, b.typed))
front (suc (suc zero)) id high low (kind ∷ tail) small b =
    typed_front 2 id high low kind tail small (b.typed (omega arith)) b.whole
front (suc (suc (suc zero))) id high low rest small b =
    plain_front 3 id high low rest small (b.plain (omega arith))
front (suc (suc (suc (suc zero)))) id high low rest small b =
    plain_front 4 id high low rest small (b.plain (omega arith))
front (suc (suc (suc (suc (suc code))))) id high low rest small b = absurd (omega (arith, b.high))

-- The first Length octets are the spelling of the packet with which the octets begin.
pub encoding_front : (octets : List ℕ) → All (λ b. b < 256) octets → StartsAt octets →
    take (length_of octets) octets ≡ spelled (fields_of (code_of octets) octets)
encoding_front [] small b = absurd (omega (arith, b.four))
encoding_front (a ∷ []) small b = absurd (omega (arith, b.four))
encoding_front (a ∷ c ∷ []) small b = absurd (omega (arith, b.four))
encoding_front (a ∷ c ∷ d ∷ []) small b = absurd (omega (arith, b.four))
encoding_front (code ∷ id ∷ high ∷ low ∷ rest) small b =
    front code id high low rest (small 3 0 (omega arith)) b
