-- EAX over AES-128 (M. Bellare, P. Rogaway and D. Wagner, "The EAX Mode of Operation"; RFC 4764,
-- section 3.3, uses it) on whole lists of octets, with tags of sixteen octets.
use Rattle.std.specs.Prelude.{◌≡◌, Bool, ℕ, ◌+◌, ◌%◌, ◌^◌, List, [], ◌∷◌, ◌++◌, length, bit_xor}
use Rattle.std.specs.Int.{w128, div_ceil, from_be_bytes, to_be_bytes}
use Rattle.std.specs.Str.{bytes_eq}
use Rattle.std.specs.List.{flat_map, range_with_len}
use Rattle.aes_block.specs.Cipher.{aes128}
use Rattle.cmac_mac.specs.Cmac.{aes_cmac}

-- octets, each combined with the one at its place in a second list; where that list ends, the rest
-- stays
unfoldable pub combined : List ℕ → List ℕ → List ℕ
combined [] others = []
combined (x ∷ xs) [] = x ∷ xs
combined (x ∷ xs) (y ∷ ys) = bit_xor x y ∷ combined xs ys

-- a number as a block, its most significant octet first
abbrev pub block_of : ℕ → List ℕ
block_of n = to_be_bytes w128 n

-- OMAC with a number: the CMAC of the number's block and the text
unfoldable pub omac : List ℕ → ℕ → List ℕ → List ℕ
omac key number text = aes_cmac key (block_of number ++ text)

-- block n of the key stream: the counter begins at `start` and goes on modulo 2^128
unfoldable pub stream_block : List ℕ → ℕ → ℕ → List ℕ
stream_block key start n = aes128 key (block_of ((start + n) % 2 ^ 128))

-- the first `count` blocks of the key stream, joined
unfoldable pub key_stream : List ℕ → ℕ → ℕ → List ℕ
key_stream key start count = flat_map (stream_block key start) (range_with_len 0 count)

-- the counter mode: a text combined with as much of the key stream
unfoldable pub counter_mode : List ℕ → ℕ → List ℕ → List ℕ
counter_mode key start text = combined text (key_stream key start (div_ceil (length text) 16))

-- the first counter: the nonce's OMAC as a number
abbrev pub first_counter : List ℕ → List ℕ → ℕ
first_counter key nonce = from_be_bytes w128 (omac key 0 nonce)

-- the ciphertext of a text
unfoldable pub eax_ciphertext : List ℕ → List ℕ → List ℕ → List ℕ
eax_ciphertext key nonce text = counter_mode key (first_counter key nonce) text

-- the text of a ciphertext: the same key stream takes itself away
unfoldable pub eax_plaintext : List ℕ → List ℕ → List ℕ → List ℕ
eax_plaintext key nonce ciphertext = counter_mode key (first_counter key nonce) ciphertext

-- the tag over a nonce, a header and a ciphertext
unfoldable pub eax_tag : List ℕ → List ℕ → List ℕ → List ℕ → List ℕ
eax_tag key nonce header ciphertext =
    combined (combined (omac key 0 nonce) (omac key 1 header)) (omac key 2 ciphertext)

-- whether a tag is the one over a nonce, a header and a ciphertext, as a test that computes
unfoldable pub eax_accepts : List ℕ → List ℕ → List ℕ → List ℕ → List ℕ → Bool
eax_accepts key nonce header ciphertext tag = bytes_eq (eax_tag key nonce header ciphertext) tag

-- a sealed text
pub record Sealed : Type 0 where
  pub ciphertext : List ℕ
  pub tag : List ℕ

-- what a text is sealed to
abbrev pub eax_sealed : List ℕ → List ℕ → List ℕ → List ℕ → Sealed
eax_sealed key nonce header text =
    let hidden = eax_ciphertext key nonce text in
    record { ciphertext = hidden; tag = eax_tag key nonce header hidden }

-- the text is the one that is sealed to this ciphertext and tag, and no other is
pub record IsOnlyTextOf (key nonce header ciphertext tag text : List ℕ) : Type 0 where
  pub seals : eax_sealed key nonce header text ≡ record { ciphertext = ciphertext; tag = tag }
  pub no_other : (other : List ℕ) → eax_sealed key nonce header other
      ≡ record { ciphertext = ciphertext; tag = tag } → other ≡ text
