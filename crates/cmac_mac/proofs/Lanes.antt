-- Lists of sixteen octets.
use Rattle.std.proofs.Common.{◌≡◌, ℕ, zero, suc, ◌*◌, List, [], ◌∷◌, ◌++◌, length, take, drop}
use Rattle.std.proofs.Common.{get_or, map, refl, sym, ap, ◌∙◌, arith, length-drop}
use Rattle.std.specs.Prelude.{bit_xor}
use Rattle.std.specs.List.{concat, range_with_len}
use Rattle.std.specs.Simd.{first_chunks}
use Rattle.std.specs.Simd.Lanes.{zip2}
use Rattle.std.proofs.lemmas.List.{take-append-drop}
use Rattle.std.proofs.lemmas.Grind.{same_number_lists}
use Rattle.std.proofs.lemmas.List.FromFn.{get_or-map-range_with_len}
use Rattle.std.proofs.lemmas.Simd.{length-zip2, get_or-zip2}
use Rattle.cmac_mac.specs.Cmac.{xor_blocks}

-- the sum by lanes
pub zip2_block : (a b : List ℕ) → length a ≡ 16 → length b ≡ 16 → zip2 bit_xor a b ≡ xor_blocks a b
unfolding xor_blocks
zip2_block a b len_a len_b =
    let octet : ℕ → ℕ = λ i. bit_xor (get_or a i 0) (get_or b i 0) in
    let len : length (zip2 bit_xor a b) ≡ 16 =
    length-zip2 bit_xor a b (len_a ∙ sym len_b) ∙ len_a in
    same_number_lists (zip2 bit_xor a b) (map octet (range_with_len 0 16)) len
    (λ k h. get_or-zip2 bit_xor a b k 0 0 0 (omega arith) (omega arith)
    ∙ sym (get_or-map-range_with_len octet 0 16 k k 0 (omega arith) (omega arith)))

-- the chunks of whole blocks, joined
pub concat_chunks : (k : ℕ) (octets : List ℕ) → length octets ≡ 16 * k
    → concat (first_chunks 16 k octets) ≡ octets
concat_chunks zero [] h = refl
concat_chunks zero (x ∷ xs) h = absurd (omega arith)
concat_chunks (suc k) octets h =
    let rest : length (drop 16 octets) ≡ 16 * k = omega (arith, length-drop 16 octets) in
    ap (λ l. take 16 octets ++ l) (concat_chunks k (drop 16 octets) rest)
    ∙ take-append-drop 16 octets
