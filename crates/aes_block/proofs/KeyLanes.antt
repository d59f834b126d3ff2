-- The key expansion, lane by lane.
use Rattle.std.proofs.Common.{◌≡◌, ℕ, ◌+◌, ◌*◌, ◌%◌, ◌<◌, ◌==◌, if◌then◌else◌, List, length, refl}
use Rattle.std.proofs.Common.{sym, ap, ◌∙◌, bit_xor, replicate, slice_index, get_or, w8, Fits, lit<}
use Rattle.std.proofs.lemmas.Nat.{xor_lt}
use Rattle.std.specs.Int.Bits.{xor_assoc, xor_zero_r}
use lib.Lanes.{zip2, Each1}
use Rattle.aes_block.specs.Field.{sub_byte}
use Rattle.aes_block.specs.KeySchedule.{word_of, change_at, xor_words, joined, round_key}
use Rattle.aes_block.specs.Cipher.{entry}
use Rattle.aes_block.specs.Turned.{all, turned, plain_box, of_turned, of_last, each_column}
use Rattle.aes_block.specs.Turned.{columns_on, sums_of_two, sums_of_four}
use Rattle.aes_block.specs.declared.key_schedule.TheConstants.{ROUND_CONSTANTS}
use Rattle.aes_block.proofs.Sixteen.{spread, lane_bounded}
use Rattle.aes_block.proofs.Basis.{turned_octet, substituted, turned_lt}
use Rattle.aes_block.proofs.Xor.{xor_twice}
use Rattle.aes_block.proofs.Lanewise.{state_of_same}
use Rattle.aes_block.proofs.Schedule.{get_or_ROUND_CONSTANTS, change_at_first, next_key}

-- a key with the constant of the affine map added
with_constant : (key : List ℕ) → length key ≡ 16 → zip2 bit_xor key (replicate 16 0x63)
    ≡ all (λ b. bit_xor b 0x63) key
with_constant key long = ap (λ v. zip2 bit_xor v (replicate 16 0x63)) (spread key long)

pub is_turned : (key r : List ℕ) → length key ≡ 16 → Each1 (Fits w8) key
    → r ≡ all turned (zip2 bit_xor key (replicate 16 0x63)) → all of_turned r ≡ key
is_turned key r long fits e =
    ap (all of_turned) (e ∙ ap (all turned) (with_constant key long))
    ∙ state_of_same (λ row column. of_turned (turned (bit_xor (entry key row column) 0x63)))
    (λ row column. entry key row column) (λ row column. turned_octet (entry key row column)
    (xor_lt 8 (entry key row column) 0x63 (lane_bounded key (row + 4 * column) fits) (lit< tt)))
    ∙ sym (spread key long)

pub preserved_last_is : (key : List ℕ) → length key ≡ 16
    → all of_last (zip2 bit_xor key (replicate 16 0x63)) ≡ key
preserved_last_is key long =
    ap (all of_last) (with_constant key long)
    ∙ state_of_same (λ row column. of_last (bit_xor (entry key row column) 0x63))
    (λ row column. entry key row column) (λ row column. xor_twice (entry key row column) 0x63)
    ∙ sym (spread key long)

pub substituted_are : (o t p : List ℕ) → Each1 (Fits w8) o → t ≡ all turned o → p ≡ all plain_box t
    → zip2 bit_xor p (replicate 16 0x63) ≡ all sub_byte o
substituted_are o t p fits et ep =
    ap (λ v. zip2 bit_xor v (replicate 16 0x63)) (ep ∙ ap (all plain_box) et)
    ∙ state_of_same (λ row column. bit_xor (plain_box (turned (entry o row column))) 0x63)
    (λ row column. sub_byte (entry o row column)) (λ row column.
    let fit : entry o row column < 256 = lane_bounded o (row + 4 * column) fits in
    substituted (entry o row column) fit (turned_lt (entry o row column) fit))

pub columns_added : (state one two : List ℕ) → length state ≡ 16 → one ≡ columns_on 1 state
    → two ≡ columns_on 2 (zip2 bit_xor state one)
    → zip2 bit_xor (zip2 bit_xor state one) two ≡ sums_of_four state
columns_added state one two long e1 e2 =
    let sums : zip2 bit_xor state one ≡ sums_of_two state =
    ap (zip2 bit_xor state) e1
    ∙ ap (λ v. zip2 bit_xor v (columns_on 1 state)) (spread state long) in
    let two_is : two ≡ columns_on 2 (sums_of_two state) = e2 ∙ ap (columns_on 2) sums in
    ap (λ v. zip2 bit_xor v two) sums ∙ ap (zip2 bit_xor (sums_of_two state)) two_is

pub change_is : (round : ℕ) (key w s f : List ℕ) → round < 10
    → w ≡ each_column (λ i. entry key ((i + 1) % 4) 3) → s ≡ all sub_byte w
    → f ≡ each_column (λ i. if i == 0 then get_or ROUND_CONSTANTS round 0 else 0)
    → zip2 bit_xor s f
    ≡ each_column (slice_index (change_at (4 * round + 4) (word_of (λ i. entry key i 3))))
change_is round key w s f h ew es ef =
    let last : List ℕ = word_of (λ i. entry key i 3) in
    let constants : List ℕ =
    each_column (λ i. if i == 0 then get_or ROUND_CONSTANTS round 0 else 0) in
    ap (λ v. zip2 bit_xor v f) (es ∙ ap (all sub_byte) ew)
    ∙ ap (zip2 bit_xor (each_column (λ i. sub_byte (entry key ((i + 1) % 4) 3)))) ef
    ∙ rw (get_or_ROUND_CONSTANTS round h, change_at_first round last) (simp xor_zero_r refl)

-- the words that follow, from the sums of the columns
sums_are_words : (key t : List ℕ)
    → (let a = xor_words (word_of (λ i. slice_index key i)) t in
    let b = xor_words (word_of (λ i. slice_index key (4 + i))) a in
    let d = xor_words (word_of (λ i. slice_index key (8 + i))) b in
    zip2 bit_xor (sums_of_four key) (each_column (slice_index t))
    ≡ joined a b d (xor_words (word_of (λ i. slice_index key (12 + i))) d))
sums_are_words key t = simp (xor_assoc, xor_zero_r) refl

pub next_is : (round : ℕ) (key sums change : List ℕ) → sums ≡ sums_of_four key
    → change ≡ each_column (slice_index (change_at (4 * round + 4) (word_of (λ i. entry key i 3))))
    → (initial : List ℕ) → key ≡ round_key initial round
    → zip2 bit_xor sums change ≡ round_key initial (round + 1)
next_is round key sums change es ec initial ek =
    let t : List ℕ = change_at (4 * round + 4) (word_of (λ i. slice_index key (12 + i))) in
    let a : List ℕ = xor_words (word_of (λ i. slice_index key i)) t in
    let b : List ℕ = xor_words (word_of (λ i. slice_index key (4 + i))) a in
    let d : List ℕ = xor_words (word_of (λ i. slice_index key (8 + i))) b in
    ap (λ v. zip2 bit_xor v change) es ∙ ap (zip2 bit_xor (sums_of_four key)) ec
    ∙ sums_are_words key t
    ∙ next_key initial key t a b d (xor_words (word_of (λ i. slice_index key (12 + i))) d)
    round ek refl refl refl refl refl
