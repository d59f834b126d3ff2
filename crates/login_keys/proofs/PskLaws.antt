-- The keys of two EAP-PSK logins differ if their RAND_P does: AES gives different blocks for
-- different ones.
use Rattle.std.proofs.Common.{◌≡◌, ℕ, zero, suc, ◌+◌, ◌*◌, ◌^◌, ◌<◌, ◌≤◌, List, [], ◌∷◌, length}
use Rattle.std.proofs.Common.{take, refl, sym, ap, ◌∙◌, arith, inl, inr, bit_xor, slice_index}
use Rattle.std.proofs.Common.{append-nil, mod-lt, mul-le-mul_right, add-mul}
use Rattle.std.specs.Prelude.{◌⊎◌}
use Rattle.std.specs.Int.{byte_at, bytes_high_first, from_be_bytes, to_be_bytes, w128}
use Rattle.std.specs.List.{flat_map}
use Rattle.std.specs.Int.Bits.{xor_assoc, xor_self, xor_zero_r}
use Rattle.std.proofs.lemmas.List.{take-append-le, take_all}
use Rattle.std.proofs.lemmas.Nat.{xor_lt}
use Rattle.byteorder.specs.Endian.{big_from}
use Rattle.byteorder.specs.Numbers.{big_from-cons, big_from-lt, big_number-reads_back}
use Rattle.aes_block.specs.Blocks.{IsBlock}
use Rattle.aes_block.specs.Cipher.{aes128}
use Rattle.aes_block.proofs.Differing.{encryptions_are_blocks, encryptions_differ}
use Rattle.aes_block.proofs.Laws.{length_aes128}
use Rattle.login_keys.specs.Psk.{combined_with, counter_block, psk_keys_of, psk_long_of}
use Rattle.login_keys.specs.PskLaws.{PskKeysDiffer}

-- ---- the number in a block

abbrev AreOctets : List ℕ → Type 0
AreOctets xs = (i : ℕ) → slice_index xs i < 256

-- two digits of one number are equal
same_digits : (p x y r s : ℕ) → r < p → s < p → x * p + r ≡ y * p + s → (x ≡ y) × (r ≡ s)
same_digits p x y r s hr hs e = elim (compare x y) [
  | inl same ↦ let at : x * p ≡ y * p = ap (λ (z : ℕ). z * p) same in (same, omega arith)
  | inr apart ↦ elim apart [
    | inl less ↦
        let step : (x + 1) * p ≤ y * p = mul-le-mul_right p less in
        let wide : (x + 1) * p ≡ x * p + 1 * p = add-mul x 1 p in
        absurd (omega arith)
    | inr more ↦
        let step : (y + 1) * p ≤ x * p = mul-le-mul_right p more in
        let wide : (y + 1) * p ≡ y * p + 1 * p = add-mul y 1 p in
        absurd (omega arith)
  ]
]
  where
    compare : (a b : ℕ) → (a ≡ b) ⊎ ((a + 1 ≤ b) ⊎ (b + 1 ≤ a))
    compare zero zero = inl refl
    compare zero (suc b) = inr (inl (omega arith))
    compare (suc a) zero = inr (inr (omega arith))
    compare (suc a) (suc b) = elim (compare a b) [
      | inl same ↦ inl (ap (λ (n : ℕ). suc n) same)
      | inr apart ↦ elim apart [
        | inl less ↦ inr (inl (omega arith))
        | inr more ↦ inr (inr (omega arith))
      ]
    ]

same_octets : (n : ℕ) (xs ys : List ℕ) → length xs ≡ n → length ys ≡ n → AreOctets xs → AreOctets ys
    → big_from 0 n xs ≡ big_from 0 n ys → xs ≡ ys
same_octets zero [] [] hx hy ox oy e = refl
same_octets zero [] (y ∷ ys) hx hy ox oy e = absurd (omega arith)
same_octets zero (x ∷ xs) ys hx hy ox oy e = absurd (omega arith)
same_octets (suc n) [] ys hx hy ox oy e = absurd (omega arith)
same_octets (suc n) (x ∷ xs) [] hx hy ox oy e = absurd (omega arith)
same_octets (suc n) (x ∷ xs) (y ∷ ys) hx hy ox oy e =
    let rx : AreOctets xs = λ i. ox (suc i) in
    let ry : AreOctets ys = λ i. oy (suc i) in
    let at_x = big_from-cons 0 n x xs in
    let at_y = big_from-cons 0 n y ys in
    let same : x * 256 ^ n + big_from 0 n xs ≡ y * 256 ^ n + big_from 0 n ys =
    sym (ap (λ (r : ℕ). x * 256 ^ n + r) at_x) ∙ e ∙ ap (λ (r : ℕ). y * 256 ^ n + r) at_y in
    let both = same_digits (256 ^ n) x y (big_from 0 n xs) (big_from 0 n ys) (big_from-lt 0 n xs rx)
    (big_from-lt 0 n ys ry) same in
    ap (λ (h : ℕ). h ∷ xs) both.0
    ∙ ap (λ (t : List ℕ). y ∷ t) (same_octets n xs ys (omega arith) (omega arith) rx ry both.1)

as_number : (xs : List ℕ) → from_be_bytes w128 xs ≡ big_from 0 16 xs
as_number xs = omega arith

number_lt : (xs : List ℕ) → AreOctets xs → from_be_bytes w128 xs < 2 ^ 128
number_lt xs h = let small = big_from-lt 0 16 xs h in let same = as_number xs in omega arith

byte_lt : (k n : ℕ) → byte_at k n < 256
byte_lt zero n = mod-lt n (omega arith)
byte_lt (suc k) n = omega arith

byte_octets : (k n : ℕ) → AreOctets (bytes_high_first k n)
byte_octets zero n i = omega arith
byte_octets (suc k) n zero = byte_lt k n
byte_octets (suc k) n (suc i) = byte_octets k n i

-- ---- a block combined with a counter

combined_is_block : (block : List ℕ) (c : ℕ) → IsBlock (combined_with block c)
unfolding combined_with
combined_is_block block c =
    record { whole = refl; octets = byte_octets 16 (bit_xor (from_be_bytes w128 block) c) }

xor_back : (a c : ℕ) → bit_xor (bit_xor a c) c ≡ a
xor_back a c = xor_assoc a c c ∙ ap (bit_xor a) (xor_self c) ∙ xor_zero_r a

written_back : (n : ℕ) → n < 2 ^ 128 → big_from 0 16 (to_be_bytes w128 n) ≡ n
written_back n h =
    ap (big_from 0 16) (sym (append-nil (to_be_bytes w128 n)))
    ∙ big_number-reads_back 16 n [] (omega arith)

combined_differ : (one other : List ℕ) (c : ℕ) → c < 2 ^ 128 → IsBlock one → IsBlock other
    → combined_with one c ≡ combined_with other c → one ≡ other
unfolding combined_with
combined_differ one other c small is_one is_other e =
    let n : ℕ = from_be_bytes w128 one in
    let m : ℕ = from_be_bytes w128 other in
    let sums : bit_xor n c ≡ bit_xor m c =
    sym (written_back (bit_xor n c) (xor_lt 128 n c (number_lt one is_one.octets) small))
    ∙ ap (big_from 0 16) e
    ∙ written_back (bit_xor m c) (xor_lt 128 m c (number_lt other is_other.octets) small) in
    let numbers : n ≡ m = sym (xor_back n c) ∙ ap (λ (x : ℕ). bit_xor x c) sums ∙ xor_back m c in
    same_octets 16 one other is_one.whole is_other.whole is_one.octets is_other.octets
    (sym (as_number one) ∙ numbers ∙ as_number other)

-- ---- the modified counter mode

blocks_differ : (key one other : List ℕ) (c : ℕ) → c < 2 ^ 128 → IsBlock key → IsBlock one
    → IsBlock other
    → counter_block key one c ≡ counter_block key other c → one ≡ other
unfolding counter_block
blocks_differ key one other c small is_key is_one is_other e =
    encryptions_differ key one other is_key is_one is_other
    (combined_differ (aes128 key one) (aes128 key other) c small
    (encryptions_are_blocks key one is_key) (encryptions_are_blocks key other is_key)
    (encryptions_differ key (combined_with (aes128 key one) c)
    (combined_with (aes128 key other) c) is_key (combined_is_block (aes128 key one) c)
    (combined_is_block (aes128 key other) c) e))

block_whole : (key block : List ℕ) (c : ℕ) → length (counter_block key block c) ≡ 16
unfolding counter_block
block_whole key block c = length_aes128 key (combined_with (aes128 key block) c)

-- the first of several blocks
first_of : (f : ℕ → List ℕ) (c : ℕ) (more : List ℕ) → length (f c) ≡ 16
    → take 16 (flat_map f (c ∷ more)) ≡ f c
first_of f c more whole =
    take-append-le 16 (f c) (flat_map f more) (omega arith) ∙ take_all 16 (f c) (omega arith)

several_differ : (key one other : List ℕ) (c : ℕ) (more : List ℕ) → c < 2 ^ 128 → IsBlock key
    → IsBlock one → IsBlock other
    → flat_map (counter_block key one) (c ∷ more) ≡ flat_map (counter_block key other) (c ∷ more)
    → one ≡ other
several_differ key one other c more small is_key is_one is_other e =
    blocks_differ key one other c small is_key is_one is_other
    (sym (first_of (counter_block key one) c more (block_whole key one c)) ∙ ap (take 16) e
    ∙ first_of (counter_block key other) c more (block_whole key other c))

kdk_is_block : (psk : List ℕ) → IsBlock psk → IsBlock (psk_long_of psk).kdk
unfolding psk_long_of counter_block
kdk_is_block psk is_key = encryptions_are_blocks psk (combined_with (aes128 psk _) 2) is_key

pub psk_keys_differ : PskKeysDiffer
unfolding psk_keys_of
psk_keys_differ psk one other is_key is_one is_other =
    let kdk = kdk_is_block psk is_key in
    record {
      tek = blocks_differ (psk_long_of psk).kdk one other 1 (omega arith) kdk is_one is_other;
      msk = several_differ (psk_long_of psk).kdk one other 2 (3 ∷ 4 ∷ 5 ∷ [])
          (omega arith) kdk is_one is_other;
      emsk = several_differ (psk_long_of psk).kdk one other 6 (7 ∷ 8 ∷ 9 ∷ [])
          (omega arith) kdk is_one is_other;
    }
