-- How one round key follows from the one before it.
use Rattle.std.proofs.Common.{◌≡◌, ℕ, suc, ◌+◌, ◌*◌, ◌/◌, ◌%◌, ◌-◌, ◌<◌, List, [], ◌∷◌, map, refl}
use Rattle.std.proofs.Common.{bit_xor, get_or, slice_index, ap, ◌∙◌, sym, arith, eqb, false}
use Rattle.std.specs.List.{range_with_len}
use Rattle.std.proofs.lemmas.List.FromFn.{get_or-map-range_with_len}
use Rattle.std.proofs.lemmas.Bool.{ne_eqb}
use Rattle.std.specs.Int.Bits.{xor_zero_r}
use Rattle.aes_block.specs.Field.{times, sub_byte}
use Rattle.aes_block.specs.KeySchedule.{KeyWords, word_of, xor_words, change_at, power_of_x}
use Rattle.aes_block.specs.KeySchedule.{key_words, next_words, joined, round_key}
use Rattle.aes_block.specs.declared.key_schedule.TheConstants.{ROUND_CONSTANTS}

-- the round constants are the powers of x
constants_test : map power_of_x (range_with_len 0 10) ≡ ROUND_CONSTANTS
unfolding power_of_x times
constants_test = refl

pub get_or_ROUND_CONSTANTS : (r : ℕ) → r < 10 → get_or ROUND_CONSTANTS r 0 ≡ power_of_x r
get_or_ROUND_CONSTANTS r h =
    ap (λ t. get_or t r 0) (sym constants_test)
    ∙ get_or-map-range_with_len power_of_x 0 10 r r 0 h (omega arith)

-- four words on from k: the first is at the place i, and only there is a change made
abbrev four_after : ℕ → KeyWords → KeyWords
four_after i k =
    let first : List ℕ = xor_words k.first (change_at i k.fourth) in
    let second : List ℕ = xor_words k.second first in
    let third : List ℕ = xor_words k.third second in
    record { first = first; second = second; third = third; fourth = xor_words k.fourth third }

-- the change at the first word of a round key
pub change_at_first : (r : ℕ) (w : List ℕ) → change_at (4 * r + 4) w
    ≡ bit_xor (sub_byte (slice_index w 1)) (power_of_x r) ∷ sub_byte (slice_index w 2)
    ∷ sub_byte (slice_index w 3) ∷ sub_byte (slice_index w 0) ∷ []
unfolding change_at
change_at_first r w =
    let edge : (4 * r + 4) % 4 ≡ 0 = omega arith in
    let place : (4 * r + 4) / 4 - 1 ≡ r = omega arith in
    rw edge (rw place (simp xor_zero_r refl))

-- no change at the other three
change_at_other : (r k : ℕ) (w : List ℕ) → 4 < k → k < 8 → change_at (4 * r + k) w ≡ w
unfolding change_at
change_at_other r k w low high =
    let inside : eqb ((4 * r + k) % 4) 0 ≡ false = ne_eqb ((4 * r + k) % 4) 0 (omega arith) in
    rw inside refl

-- the four words after k, where the first of them is at a multiple of four
next_four : (r : ℕ) (k : KeyWords)
    → next_words (4 * r + 7) (next_words (4 * r + 6)
    (next_words (4 * r + 5) (next_words (4 * r + 4) k))) ≡ four_after (4 * r + 4) k
next_four r k =
    rw (
      change_at_other r 5 (four_after (4 * r + 4) k).first (omega arith) (omega arith),
      change_at_other r 6 (four_after (4 * r + 4) k).second (omega arith) (omega arith),
      change_at_other r 7 (four_after (4 * r + 4) k).third (omega arith) (omega arith),
    )
    refl

-- the words of the next round key
words_on : (key : List ℕ) (r : ℕ)
    → key_words key (4 * (r + 1)) ≡ four_after (4 * r + 4) (key_words key (4 * r))
unfolding key_words
words_on key r =
    let on : 4 * (r + 1) ≡ suc (suc (suc (suc (4 * r)))) = omega arith in
    let second : suc (4 * r) + 4 ≡ 4 * r + 5 = omega arith in
    let third : suc (suc (4 * r)) + 4 ≡ 4 * r + 6 = omega arith in
    let fourth : suc (suc (suc (4 * r))) + 4 ≡ 4 * r + 7 = omega arith in
    rw (on, second, third, fourth) (next_four r (key_words key (4 * r)))

-- the next round key, from the octets of the one before it
pub next_key : (initial p t a b d e : List ℕ) (r : ℕ) → p ≡ round_key initial r
    → t ≡ change_at (4 * r + 4) (word_of (λ i. slice_index p (12 + i)))
    → a ≡ xor_words (word_of (λ i. slice_index p i)) t
    → b ≡ xor_words (word_of (λ i. slice_index p (4 + i))) a
    → d ≡ xor_words (word_of (λ i. slice_index p (8 + i))) b
    → e ≡ xor_words (word_of (λ i. slice_index p (12 + i))) d
    → joined a b d e ≡ round_key initial (r + 1)
unfolding round_key
next_key initial p t a b d e r ep et ea eb ed ee =
    let w : KeyWords = key_words initial (4 * r) in
    rw (ee, ed, eb, ea, et, ep, words_on initial r)
    (rw (change_at_first r (word_of (λ i. slice_index w.fourth i)), change_at_first r w.fourth)
    refl)
