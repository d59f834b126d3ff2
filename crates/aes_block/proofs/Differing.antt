-- Each step of an encryption can be undone, so no two blocks have one encryption under a key.
use Rattle.std.proofs.Common.{◌≡◌, ℕ, zero, suc, ◌+◌, ◌-◌, ◌*◌, ◌/◌, ◌%◌, ◌<◌, List, [], ◌∷◌}
use Rattle.std.proofs.Common.{length, map, get_or, refl, sym, ap, subst, ◌∙◌, arith, bit_xor}
use Rattle.std.proofs.Common.{slice_index}
use Rattle.std.specs.Prelude.{◌==◌, find, unwrap_or}
use Rattle.std.proofs.lemmas.Bool.{cond_both}
use Rattle.std.proofs.lemmas.Nat.{xor_lt}
use Rattle.aes_block.specs.Blocks.{EncryptionsAreBlocks, EncryptionsDiffer, IsBlock}
use Rattle.aes_block.specs.Field.{octets, sub_byte}
use Rattle.aes_block.specs.KeySchedule.{KeyWords, change_at, joined, key_words, power_of_x}
use Rattle.aes_block.specs.KeySchedule.{round_constant, round_key, rot_word, sub_word, word_of}
use Rattle.aes_block.specs.KeySchedule.{xor_words}
use Rattle.aes_block.specs.Cipher.{add_round_key, aes128, entry, mix_columns, mixed, rounds}
use Rattle.aes_block.specs.Cipher.{shift_rows, state_of, sub_bytes}
use Rattle.aes_block.specs.Turned.{all}
use Rattle.aes_block.specs.declared.tables.TheConstants.{S_BOX}
use Rattle.aes_block.proofs.Laws.{length_aes128}
use Rattle.aes_block.proofs.Lanewise.{state_of_same}
use Rattle.aes_block.proofs.Octets.{same_at}
use Rattle.aes_block.proofs.Sbox.{get_or_S_BOX, sub_byte_lt}
use Rattle.aes_block.proofs.Sixteen.{spread}
use Rattle.aes_block.proofs.Unmixing.{mixed_lt, times_two_lt, unmixed, unmixed_mixed}
use Rattle.aes_block.proofs.Xor.{xor_twice}

-- ---- lists of octets

record AreOctets (xs : List ℕ) : Type 0 where
  at : (i : ℕ) → slice_index xs i < 256

none : AreOctets []
none = record { at = λ i. omega arith }

more : (x : ℕ) (xs : List ℕ) → x < 256 → AreOctets xs → AreOctets (x ∷ xs)
more x xs h hs = record { at = each }
  where
    each : (i : ℕ) → slice_index (x ∷ xs) i < 256
    each zero = h
    each (suc i) = hs.at i

four : (a b c d : ℕ) (xs : List ℕ) → a < 256 → b < 256 → c < 256 → d < 256 → AreOctets xs
    → AreOctets (a ∷ b ∷ c ∷ d ∷ xs)
four a b c d xs ha hb hc hd h = more a _ ha (more b _ hb (more c _ hc (more d _ hd h)))

state_octets : (f : ℕ → ℕ → ℕ) → ((row column : ℕ) → f row column < 256) → AreOctets (state_of f)
state_octets f h =
    four _ _ _ _ _ (h 0 0) (h 1 0) (h 2 0) (h 3 0)
    (four _ _ _ _ _ (h 0 1) (h 1 1) (h 2 1) (h 3 1)
    (four _ _ _ _ _ (h 0 2) (h 1 2) (h 2 2) (h 3 2)
    (four _ _ _ _ _ (h 0 3) (h 1 3) (h 2 3) (h 3 3) none)))

-- ---- round keys are octets

record AreWords (k : KeyWords) : Type 0 where
  first : AreOctets k.first
  second : AreOctets k.second
  third : AreOctets k.third
  fourth : AreOctets k.fourth

word_octets : (f : ℕ → ℕ) → ((i : ℕ) → f i < 256) → AreOctets (word_of f)
word_octets f h = four _ _ _ _ _ (h 0) (h 1) (h 2) (h 3) none

summed : (v w : List ℕ) → AreOctets v → AreOctets w → AreOctets (xor_words v w)
summed v w hv hw = word_octets (λ i. bit_xor (slice_index v i) (slice_index w i))
    (λ i. xor_lt 8 (slice_index v i) (slice_index w i) (hv.at i) (hw.at i))

power_lt : (n : ℕ) → power_of_x n < 256
unfolding power_of_x
power_lt zero = omega arith
power_lt (suc n) = times_two_lt (power_of_x n) (power_lt n)

changed : (i : ℕ) (w : List ℕ) → AreOctets w → AreOctets (change_at i w)
unfolding change_at
changed i w h =
    cond_both (i % 4 == 0) (xor_words (sub_word (rot_word w)) (round_constant (i / 4))) w AreOctets
    (λ _. summed (sub_word (rot_word w)) (round_constant (i / 4))
    (word_octets (λ j. sub_byte (slice_index (rot_word w) j))
    (λ j. sub_byte_lt (slice_index (rot_word w) j)))
    (four _ 0 0 0 _ (power_lt (i / 4 - 1)) (omega arith) (omega arith) (omega arith) none))
    (λ _. h)

words_are : (key : List ℕ) → AreOctets key → (n : ℕ) → AreWords (key_words key n)
unfolding key_words
words_are key h zero = record {
  first = word_octets (λ i. slice_index key i) h.at;
  second = word_octets (λ i. slice_index key (4 + i)) (λ i. h.at (4 + i));
  third = word_octets (λ i. slice_index key (8 + i)) (λ i. h.at (8 + i));
  fourth = word_octets (λ i. slice_index key (12 + i)) (λ i. h.at (12 + i));
}
words_are key h (suc n) =
    let before = words_are key h n in
    record {
      first = before.second;
      second = before.third;
      third = before.fourth;
      fourth = summed (key_words key n).first (change_at (n + 4) (key_words key n).fourth)
          before.first (changed (n + 4) (key_words key n).fourth before.fourth);
    }

joined_octets : (p q r s : List ℕ) → AreOctets p → AreOctets q → AreOctets r → AreOctets s
    → AreOctets (joined p q r s)
joined_octets p q r s hp hq hr hs =
    four _ _ _ _ _ (hp.at 0) (hp.at 1) (hp.at 2) (hp.at 3)
    (four _ _ _ _ _ (hq.at 0) (hq.at 1) (hq.at 2) (hq.at 3)
    (four _ _ _ _ _ (hr.at 0) (hr.at 1) (hr.at 2) (hr.at 3)
    (four _ _ _ _ _ (hs.at 0) (hs.at 1) (hs.at 2) (hs.at 3) none)))

round_key_octets : (key : List ℕ) → AreOctets key → (r : ℕ) → AreOctets (round_key key r)
unfolding round_key
round_key_octets key h r =
    let words = words_are key h (4 * r) in
    joined_octets _ _ _ _ words.first words.second words.third words.fourth

-- ---- the steps of a round

substituted : (s : List ℕ) → AreOctets (sub_bytes s)
unfolding sub_bytes
substituted s = state_octets (λ row column. sub_byte (entry s row column))
    (λ row column. sub_byte_lt (entry s row column))

shifted : (s : List ℕ) → AreOctets s → AreOctets (shift_rows s)
unfolding shift_rows
shifted s h = state_octets (λ row column. entry s row ((column + row) % 4))
    (λ row column. h.at (row + 4 * ((column + row) % 4)))

added : (s k : List ℕ) → AreOctets s → AreOctets k → AreOctets (add_round_key s k)
unfolding add_round_key
added s k hs hk =
    state_octets (λ row column. bit_xor (entry s row column) (entry k row column))
    (λ row column. xor_lt 8 (entry s row column) (entry k row column) (hs.at (row + 4 * column))
    (hk.at (row + 4 * column)))

-- the octet of a state i rows below this place, round about
abbrev around : List ℕ → ℕ → ℕ → ℕ → ℕ
around s row column i = entry s ((row + i) % 4) column

around_lt : (s : List ℕ) → AreOctets s → (row column i : ℕ) → around s row column i < 256
around_lt s h row column i = h.at ((row + i) % 4 + 4 * column)

-- a mixed octet, i rows below this place
abbrev mixed_at : List ℕ → ℕ → ℕ → ℕ → ℕ
mixed_at s row column i = mixed (around s row column i) (around s row column (i + 1))
    (around s row column (i + 2)) (around s row column (i + 3))

mixed_is : (s : List ℕ) → mix_columns s ≡ state_of (λ row column. mixed_at s row column 0)
unfolding mix_columns
mixed_is s = refl

mixed_octets : (s : List ℕ) → AreOctets s → AreOctets (mix_columns s)
mixed_octets s h =
    subst AreOctets (sym (mixed_is s))
    (state_octets (λ row column. mixed_at s row column 0)
    (λ row column. mixed_lt _ _ _ _ (around_lt s h row column 0) (around_lt s h row column 1)
    (around_lt s h row column 2) (around_lt s h row column 3)))

-- ---- and back

-- the octet whose S-box this is
abbrev unsubstituted : ℕ → ℕ
unsubstituted x = unwrap_or (find (λ c. get_or S_BOX c 0 == x) octets) 0

unsubstituted_test : map (λ b. unsubstituted (get_or S_BOX b 0)) octets ≡ map (λ b. b) octets
unsubstituted_test = refl

box_back : (b : ℕ) → b < 256 → unsubstituted (sub_byte b) ≡ b
box_back b h =
    sym (ap unsubstituted (get_or_S_BOX b h))
    ∙ same_at (λ b. unsubstituted (get_or S_BOX b 0)) (λ b. b) b unsubstituted_test h

substituted_back : (s : List ℕ) → length s ≡ 16 → AreOctets s → all unsubstituted (sub_bytes s) ≡ s
unfolding sub_bytes
substituted_back s long h =
    state_of_same (λ row column. unsubstituted (sub_byte (entry s row column))) (entry s)
    (λ row column. box_back (entry s row column) (h.at (row + 4 * column)))
    ∙ sym (spread s long)

abbrev unshifted : List ℕ → List ℕ
unshifted s = state_of (λ row column. entry s row ((column + 4 - row) % 4))

shifted_back : (s : List ℕ) → length s ≡ 16 → unshifted (shift_rows s) ≡ s
unfolding shift_rows
shifted_back s long = sym (spread s long)

abbrev unmixed_columns : List ℕ → List ℕ
unmixed_columns s = state_of (λ row column. unmixed (around s row column 0) (around s row column 1)
    (around s row column 2) (around s row column 3))

mixed_back : (s : List ℕ) → length s ≡ 16 → AreOctets s → unmixed_columns (mix_columns s) ≡ s
mixed_back s long h =
    ap unmixed_columns (mixed_is s) ∙ laid_out
    ∙ state_of_same undone (λ row column. around s row column 0) (λ row column.
    unmixed_mixed _ _ _ _ (around_lt s h row column 0) (around_lt s h row column 1)
    (around_lt s h row column 2) (around_lt s h row column 3))
    ∙ sym (spread s long)
  where
    undone : ℕ → ℕ → ℕ
    undone row column =
        let a : ℕ → ℕ = around s row column in
        unmixed (mixed (a 0) (a 1) (a 2) (a 3)) (mixed (a 1) (a 2) (a 3) (a 0))
        (mixed (a 2) (a 3) (a 0) (a 1)) (mixed (a 3) (a 0) (a 1) (a 2))

    laid_out : unmixed_columns (state_of (λ row column. mixed_at s row column 0)) ≡ state_of undone
    laid_out = refl

added_back : (s k : List ℕ) → length s ≡ 16 → add_round_key (add_round_key s k) k ≡ s
unfolding add_round_key
added_back s k long =
    state_of_same (λ row column. bit_xor (bit_xor (entry s row column) (entry k row column))
    (entry k row column)) (entry s)
    (λ row column. xor_twice (entry s row column) (entry k row column))
    ∙ sym (spread s long)

-- ---- what follows of two states

unadded : (s t k : List ℕ) → length s ≡ 16 → length t ≡ 16
    → add_round_key s k ≡ add_round_key t k → s ≡ t
unadded s t k hs ht e =
    sym (added_back s k hs) ∙ ap (λ (x : List ℕ). add_round_key x k) e ∙ added_back t k ht

length_added : (s k : List ℕ) → length (add_round_key s k) ≡ 16
unfolding add_round_key
length_added s k = refl

length_mixed : (s : List ℕ) → length (mix_columns s) ≡ 16
unfolding mix_columns
length_mixed s = refl

length_shifted : (s : List ℕ) → length (shift_rows s) ≡ 16
unfolding shift_rows
length_shifted s = refl

length_substituted : (s : List ℕ) → length (sub_bytes s) ≡ 16
unfolding sub_bytes
length_substituted s = refl

-- the states before the S-box
unboxed : (s t : List ℕ) → length s ≡ 16 → length t ≡ 16 → AreOctets s → AreOctets t
    → shift_rows (sub_bytes s) ≡ shift_rows (sub_bytes t) → s ≡ t
unboxed s t ls lt hs ht e =
    let same : sub_bytes s ≡ sub_bytes t =
    sym (shifted_back (sub_bytes s) (length_substituted s)) ∙ ap unshifted e
    ∙ shifted_back (sub_bytes t) (length_substituted t) in
    sym (substituted_back s ls hs) ∙ ap (all unsubstituted) same ∙ substituted_back t lt ht

module _ (key : List ℕ) (fit : AreOctets key) where
  rounds_whole : (block : List ℕ) (n : ℕ) → length (rounds key block n) ≡ 16
  unfolding rounds
  rounds_whole block zero = length_added block (round_key key 0)
  rounds_whole block (suc n) = length_added
      (mix_columns (shift_rows (sub_bytes (rounds key block n)))) (round_key key (suc n))

  rounds_octets : (block : List ℕ) → AreOctets block → (n : ℕ) → AreOctets (rounds key block n)
  unfolding rounds
  rounds_octets block h zero = added block (round_key key 0) h (round_key_octets key fit 0)
  rounds_octets block h (suc n) =
      added (mix_columns (shift_rows (sub_bytes (rounds key block n)))) (round_key key (suc n))
      (mixed_octets (shift_rows (sub_bytes (rounds key block n)))
      (shifted (sub_bytes (rounds key block n)) (substituted (rounds key block n))))
      (round_key_octets key fit (suc n))

  module _ (one other : List ℕ) (is_one : IsBlock one) (is_other : IsBlock other) where
    before : (n : ℕ) → rounds key one n ≡ rounds key other n → one ≡ other
    unfolding rounds
    before zero e = unadded one other (round_key key 0) is_one.whole is_other.whole e
    before (suc n) e =
        let s : List ℕ = shift_rows (sub_bytes (rounds key one n)) in
        let t : List ℕ = shift_rows (sub_bytes (rounds key other n)) in
        let mixed_same : mix_columns s ≡ mix_columns t = unadded (mix_columns s) (mix_columns
        t) (round_key key (suc n)) (length_mixed s) (length_mixed t) e in
        let same : s ≡ t =
        sym (mixed_back s (length_shifted (sub_bytes (rounds key one n)))
        (shifted (sub_bytes (rounds key one n)) (substituted (rounds key one n))))
        ∙ ap unmixed_columns mixed_same
        ∙ mixed_back t (length_shifted (sub_bytes (rounds key other n)))
        (shifted (sub_bytes (rounds key other n)) (substituted (rounds key other n))) in
        before n
        (unboxed (rounds key one n) (rounds key other n) (rounds_whole one n) (rounds_whole other n)
        (rounds_octets one (record { at = is_one.octets }) n)
        (rounds_octets other (record { at = is_other.octets }) n) same)

    differ : aes128 key one ≡ aes128 key other → one ≡ other
    unfolding aes128
    differ e =
        let s : List ℕ = rounds key one 9 in
        let t : List ℕ = rounds key other 9 in
        before 9 (unboxed s t (rounds_whole one 9) (rounds_whole other 9) (rounds_octets one
        (record { at = is_one.octets }) 9) (rounds_octets other (record { at = is_other.octets }) 9)
        (unadded (shift_rows (sub_bytes s)) (shift_rows (sub_bytes t)) (round_key key 10)
        (length_shifted (sub_bytes s)) (length_shifted (sub_bytes t)) e))

pub encryptions_differ : EncryptionsDiffer
encryptions_differ key one other is_key is_one is_other e =
    differ key (record { at = is_key.octets }) one other is_one is_other e

pub encryptions_are_blocks : EncryptionsAreBlocks
unfolding aes128
encryptions_are_blocks key block is_key = record {
  whole = length_aes128 key block;
  octets = (added (shift_rows (sub_bytes (rounds key block 9))) (round_key key 10)
      (shifted (sub_bytes (rounds key block 9)) (substituted (rounds key block 9)))
      (round_key_octets key (record { at = is_key.octets }) 10)).at;
}
