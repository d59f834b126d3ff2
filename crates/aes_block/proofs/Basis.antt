-- The turned basis, octet by octet.
use Rattle.std.proofs.Common.{◌≡◌, ℕ, ◌<◌, true, nat_lt, [], ◌∷◌, map, refl, ap, ◌∙◌, sym, bit_xor}
use Rattle.std.proofs.Common.{get_or}
use Rattle.std.proofs.lemmas.Bool.{ltb-true}
use Rattle.aes_block.specs.Field.{octets, times, sub_byte}
use Rattle.aes_block.specs.Cipher.{mixed}
use Rattle.aes_block.specs.Turned.{look, turned, plain, first_sum, second_sum, first_place}
use Rattle.aes_block.specs.Turned.{second_place, looked, once, twice, plain_box, of_turned, of_last}
use Rattle.aes_block.specs.declared.tables.TheConstants.{S_BOX}
use Rattle.aes_block.proofs.Octets.{same_at}
use Rattle.aes_block.proofs.Sbox.{get_or_S_BOX, times_three, sub_byte_lt}
use Rattle.aes_block.proofs.Xor.{xor_pairs, xor_twice, xor_ends, by_bits_xor}

pub plain_xor : (a b : ℕ) → plain (bit_xor a b) ≡ bit_xor (plain a) (plain b)
unfolding plain
plain_xor a b = by_bits_xor (0x60 ∷ 0xb6 ∷ 0x29 ∷ 0x08 ∷ 0xec ∷ 0xbc ∷ 0x51 ∷ 0xe0 ∷ []) a b

plain_turned_test : map (λ b. plain (turned b)) octets ≡ map (λ b. b) octets
unfolding plain turned look
plain_turned_test = refl

-- turned and back
pub plain_turned : (b : ℕ) → b < 256 → plain (turned b) ≡ b
plain_turned b h = same_at (λ b. plain (turned b)) (λ b. b) b plain_turned_test h

plain_test : map (λ b. nat_lt (plain b) 256) octets ≡ map (λ _. true) octets
unfolding plain
plain_test = refl

pub plain_lt : (b : ℕ) → b < 256 → plain b < 256
plain_lt b h =
    ltb-true (plain b) 256 (same_at (λ b. nat_lt (plain b) 256) (λ _. true) b plain_test h)

once_test : map (λ b. plain (once b)) octets
    ≡ map (λ b. bit_xor (get_or S_BOX (plain b) 0) 0x63) octets
unfolding plain once looked first_place second_place first_sum second_sum look
once_test = refl

-- the S-box but for its constant
pub plain_once : (b : ℕ) → b < 256 → plain (once b) ≡ bit_xor (sub_byte (plain b)) 0x63
plain_once b h =
    same_at (λ b. plain (once b)) (λ b. bit_xor (get_or S_BOX (plain b) 0) 0x63) b once_test h
    ∙ ap (λ s. bit_xor s 0x63) (get_or_S_BOX (plain b) (plain_lt b h))

twice_test : map (λ b. plain (twice b)) octets
    ≡ map (λ b. bit_xor (times 2 (get_or S_BOX (plain b) 0)) 0xc6) octets
unfolding plain twice looked first_place second_place first_sum second_sum look times
twice_test = refl

-- that times x
pub plain_twice : (b : ℕ) → b < 256 → plain (twice b) ≡ bit_xor (times 2 (sub_byte (plain b))) 0xc6
plain_twice b h =
    same_at (λ b. plain (twice b)) (λ b. bit_xor (times 2 (get_or S_BOX (plain b) 0)) 0xc6)
    b twice_test h
    ∙ ap (λ s. bit_xor (times 2 s) 0xc6) (get_or_S_BOX (plain b) (plain_lt b h))

plain_box_test : map plain_box octets ≡ map (λ b. bit_xor (get_or S_BOX (plain b) 0) 0x63) octets
unfolding plain plain_box looked first_place second_place first_sum second_sum look
plain_box_test = refl

-- the same in the standard's basis
pub plain_box_is : (b : ℕ) → b < 256 → plain_box b ≡ bit_xor (sub_byte (plain b)) 0x63
plain_box_is b h =
    same_at plain_box (λ b. bit_xor (get_or S_BOX (plain b) 0) 0x63) b plain_box_test h
    ∙ ap (λ s. bit_xor s 0x63) (get_or_S_BOX (plain b) (plain_lt b h))

-- ---- a round

-- the constants in a mixed octet add up to the one that the kept key has
constants_meet : (a b d s c k : ℕ)
    → bit_xor (bit_xor (bit_xor (bit_xor (bit_xor a 0xc6) (bit_xor b 0x63)) (bit_xor d 0x63))
    (bit_xor (bit_xor s 0xc6) (bit_xor c 0x63))) k
    ≡ bit_xor (bit_xor (bit_xor (bit_xor a (bit_xor s b)) c) d) (bit_xor k 0x63)
constants_meet a b d s c k =
    let first : bit_xor (bit_xor a 0xc6) (bit_xor b 0x63) ≡ bit_xor (bit_xor a b) 0xa5 =
    xor_pairs a 0xc6 b 0x63 in
    let second : bit_xor (bit_xor (bit_xor a b) 0xa5) (bit_xor d 0x63)
    ≡ bit_xor (bit_xor (bit_xor a b) d) 0xc6 = xor_pairs (bit_xor a b) 0xa5 d 0x63 in
    let third : bit_xor (bit_xor s 0xc6) (bit_xor c 0x63) ≡ bit_xor (bit_xor s c) 0xa5 =
    xor_pairs s 0xc6 c 0x63 in
    let fourth = xor_pairs (bit_xor (bit_xor a b) d) 0xc6 (bit_xor s c) 0xa5 in
    let order : bit_xor (bit_xor (bit_xor a b) d) (bit_xor s c)
    ≡ bit_xor (bit_xor (bit_xor a (bit_xor s b)) c) d =
    xor_pairs (bit_xor a b) d s c ∙ ap (λ x. bit_xor x (bit_xor d c)) (xor_ends a b s)
    ∙ sym (xor_ends (bit_xor a (bit_xor s b)) c d) in
    rw (first, second, third, fourth, order)
    (xor_ends (bit_xor (bit_xor (bit_xor a (bit_xor s b)) c) d) 0x63 k)

-- one octet after a full round
pub mixed_octet : (a b c d k : ℕ) → a < 256 → b < 256 → c < 256 → d < 256
    → plain (bit_xor
    (bit_xor (bit_xor (bit_xor (twice a) (once b)) (once d)) (bit_xor (twice b) (once c))) k)
    ≡ bit_xor (mixed (sub_byte (plain a)) (sub_byte (plain b)) (sub_byte (plain c))
    (sub_byte (plain d))) (of_turned k)
unfolding mixed
mixed_octet a b c d k ha hb hc hd =
    rw (
      plain_xor
          (bit_xor (bit_xor (bit_xor (twice a) (once b)) (once d)) (bit_xor (twice b) (once c))) k,
      plain_xor (bit_xor (bit_xor (twice a) (once b)) (once d)) (bit_xor (twice b) (once c)),
      plain_xor (bit_xor (twice a) (once b)) (once d),
      plain_xor (twice a) (once b),
      plain_xor (twice b) (once c),
      plain_twice a ha,
      plain_once b hb,
      plain_once d hd,
      plain_twice b hb,
      plain_once c hc,
      sym (times_three (sub_byte (plain b)) (sub_byte_lt (plain b))),
    )
    (constants_meet (times 2 (sub_byte (plain a))) (sub_byte (plain b)) (sub_byte (plain d))
    (times 2 (sub_byte (plain b))) (sub_byte (plain c)) (plain k))

-- one octet after the last round
pub last_octet : (a k : ℕ) → a < 256
    → bit_xor (plain_box a) k ≡ bit_xor (sub_byte (plain a)) (of_last k)
last_octet a k h = rw (plain_box_is a h) (xor_ends (sub_byte (plain a)) 0x63 k)

-- ---- keys

-- an octet of a key, kept and back
pub turned_octet : (k : ℕ) → bit_xor k 0x63 < 256 → of_turned (turned (bit_xor k 0x63)) ≡ k
turned_octet k h = ap (λ x. bit_xor x 0x63) (plain_turned (bit_xor k 0x63) h) ∙ xor_twice k 0x63

-- the S-box of an octet in the standard's basis
pub substituted : (b : ℕ) → b < 256 → turned b < 256 → bit_xor (plain_box (turned b)) 0x63
    ≡ sub_byte b
substituted b h ht =
    ap (λ x. bit_xor x 0x63) (plain_box_is (turned b) ht)
    ∙ xor_twice (sub_byte (plain (turned b))) 0x63 ∙ ap sub_byte (plain_turned b h)

turned_test : map (λ b. nat_lt (turned b) 256) octets ≡ map (λ _. true) octets
unfolding turned look
turned_test = refl

pub turned_lt : (b : ℕ) → b < 256 → turned b < 256
turned_lt b h =
    ltb-true (turned b) 256 (same_at (λ b. nat_lt (turned b) 256) (λ _. true) b turned_test h)
