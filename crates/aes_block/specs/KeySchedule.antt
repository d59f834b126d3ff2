-- The key expansion of AES-128 (FIPS 197, section 5.2). A word is a list of four octets.
use Rattle.std.specs.Prelude.{ℕ, zero, suc, ◌+◌, ◌-◌, ◌*◌, ◌/◌, ◌%◌, ◌==◌, if◌then◌else◌, List, []}
use Rattle.std.specs.Prelude.{◌∷◌, ◌++◌, slice_index, bit_xor}
use Rattle.aes_block.specs.Field.{times, sub_byte}

-- the word with these octets
abbrev pub word_of : (ℕ → ℕ) → List ℕ
word_of octet = octet 0 ∷ octet 1 ∷ octet 2 ∷ octet 3 ∷ []

-- the sum of two words
abbrev pub xor_words : List ℕ → List ℕ → List ℕ
xor_words v w = word_of (λ i. bit_xor (slice_index v i) (slice_index w i))

-- ROTWORD: the octets, one place to the left
abbrev pub rot_word : List ℕ → List ℕ
rot_word w = word_of (λ i. slice_index w ((i + 1) % 4))

-- SUBWORD: each octet through the S-box
abbrev pub sub_word : List ℕ → List ℕ
sub_word w = word_of (λ i. sub_byte (slice_index w i))

-- x^n as an octet
unfoldable pub power_of_x : ℕ → ℕ
power_of_x zero = 1
power_of_x (suc n) = times 2 (power_of_x n)

-- the round constant Rcon[j], for j from 1 on
abbrev pub round_constant : ℕ → List ℕ
round_constant j = power_of_x (j - 1) ∷ 0 ∷ 0 ∷ 0 ∷ []

-- what is added to w[i-4] to make w[i], from the word w[i-1]
unfoldable pub change_at : ℕ → List ℕ → List ℕ
change_at i w = if i % 4 == 0 then xor_words (sub_word (rot_word w)) (round_constant (i / 4)) else w

-- four words in a row
pub record KeyWords : Type 0 where
  pub first : List ℕ
  pub second : List ℕ
  pub third : List ℕ
  pub fourth : List ℕ

-- from the words w[i-4] to w[i-1] to the words w[i-3] to w[i]
abbrev pub next_words : ℕ → KeyWords → KeyWords
next_words i k = record {
  first = k.second;
  second = k.third;
  third = k.fourth;
  fourth = xor_words k.first (change_at i k.fourth);
}

-- the words w[n] to w[n+3] of the expanded key
unfoldable pub key_words : List ℕ → ℕ → KeyWords
key_words key zero = record {
  first = word_of (λ i. slice_index key i);
  second = word_of (λ i. slice_index key (4 + i));
  third = word_of (λ i. slice_index key (8 + i));
  fourth = word_of (λ i. slice_index key (12 + i));
}
key_words key (suc n) = next_words (n + 4) (key_words key n)

-- the octets of four words in a row
abbrev pub joined : List ℕ → List ℕ → List ℕ → List ℕ → List ℕ
joined first second third fourth =
    word_of (λ i. slice_index first i) ++ word_of (λ i. slice_index second i)
    ++ word_of (λ i. slice_index third i) ++ word_of (λ i. slice_index fourth i)

-- the octets of these words
abbrev pub key_octets : KeyWords → List ℕ
key_octets k = joined k.first k.second k.third k.fourth

-- the key of round r: the words w[4r] to w[4r+3]
unfoldable pub round_key : List ℕ → ℕ → List ℕ
round_key key r = key_octets (key_words key (4 * r))
