use Rattle.std.proofs.Common.{◌≡◌, ℕ, zero, suc, List, [], ◌∷◌, length, replicate, map, refl, ap}
use Rattle.std.proofs.Common.{arith, rules}
use Rattle.std.specs.Prelude.{bit_xor}
use Rattle.std.specs.Simd.Lanes.{zip2}
use Rattle.hmac_mac.specs.Hmac.{padded}
use Rattle.hmac_mac.proofs.combine.Goals as goal

-- the sum with lanes that are all the same
zip2_pad : (octets : List ℕ) (pad n : ℕ) → length octets ≡ n
    → zip2 bit_xor octets (replicate n pad) ≡ map (λ octet. bit_xor octet pad) octets
zip2_pad [] pad n e = refl
zip2_pad (x ∷ xs) pad zero e = absurd (omega arith)
zip2_pad (x ∷ xs) pad (suc n) e = ap (λ l. bit_xor x pad ∷ l) (zip2_pad xs pad n (omega arith))

pub returns : goal.returns
unfolding padded
returns c = zip2_pad c.args.block.now c.args.pad 64 (search rules)
