-- What the loop over a secret leaves of a block.
use Rattle.std.proofs.Common.{◌≡◌, ℕ, zero, suc, ◌+◌, ◌-◌, ◌<◌, ◌≤◌, List, ◌∷◌, ◌++◌, length}
use Rattle.std.proofs.Common.{get_or, set, drop, replicate, map, bit_xor, refl, ap}
use Rattle.std.proofs.Common.{◌∙◌, sym, arith, zero-add}
use Rattle.std.specs.Int.Bits.{xor_zero_l}
use Rattle.std.proofs.lemmas.List.{map-append, get_or-map, length-map, drop-replicate}
use Rattle.std.proofs.lemmas.List.Edits.{paste_more, paste_all}
use lib.Seq.{paste}
use Rattle.hmac_mac.specs.Hmac.{filled, padded}

-- an octet of zero takes the pad's value
padded_zeros : (pad n : ℕ) → map (λ octet. bit_xor octet pad) (replicate n 0) ≡ replicate n pad
padded_zeros pad zero = refl
padded_zeros pad (suc n) =
    ap (λ (octet : ℕ). octet ∷ map (λ o. bit_xor o pad) (replicate n 0)) (xor_zero_l pad)
    ∙ ap (λ (l : List ℕ). pad ∷ l) (padded_zeros pad n)

-- one octet more
pub padded_more : (secret : List ℕ) (pad i : ℕ) → i < length secret → length secret ≤ 64 →
    set (paste (replicate 64 pad) 0 (padded secret pad) i) i (bit_xor (get_or secret i 0) pad)
    ≡ paste (replicate 64 pad) 0 (padded secret pad) (i + 1)
unfolding padded
padded_more secret pad i inside fits =
    let f : ℕ → ℕ = λ octet. bit_xor octet pad in
    let value : get_or (map f secret) i 0 ≡ bit_xor (get_or secret i 0) pad =
    get_or-map f secret i 0 0 inside in
    let place : 0 + i ≡ i = zero-add i in
    let next = paste_more (replicate 64 pad) 0 (map f secret) i 0 (omega arith)
    (omega (arith, length-map secret f)) in
    ap (λ (octet : ℕ). set (paste (replicate 64 pad) 0 (map f secret) i) i octet) (sym value)
    ∙ ap (λ (at : ℕ). set (paste (replicate 64 pad) 0 (map f secret) i) at
    (get_or (map f secret) i 0)) (sym place)
    ∙ next

-- the whole secret
pub padded_whole : (secret : List ℕ) (pad i : ℕ) → i ≡ length secret
    → paste (replicate 64 pad) 0 (padded secret pad) i ≡ padded (filled secret) pad
unfolding padded filled
padded_whole secret pad i e =
    let f : ℕ → ℕ = λ octet. bit_xor octet pad in
    paste_all (replicate 64 pad) 0 (map f secret) i (e ∙ sym (length-map secret f))
    ∙ ap (λ (l : List ℕ). map f secret ++ l)
    (ap (λ k. drop k (replicate 64 pad)) (zero-add i ∙ e) ∙ drop-replicate (length secret) 64 pad
    ∙ sym (padded_zeros pad (64 - length secret)))
    ∙ sym (map-append f secret (replicate (64 - length secret) 0))
