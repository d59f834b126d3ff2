-- AES-CMAC (RFC 4493) of a whole text. A block is a list of sixteen octets.
use Rattle.std.specs.Prelude.{ℕ, zero, suc, ◌-◌, ◌*◌, ◌/◌, ◌%◌, ◌^◌, ◌==◌, nat_lt, if◌then◌else◌}
use Rattle.std.specs.Prelude.{List, [], ◌∷◌, ◌++◌, length, take, drop, replicate, slice_index}
use Rattle.std.specs.Prelude.{bit_xor}
use Rattle.std.specs.Int.{w128, from_be_bytes, to_be_bytes}
use Rattle.aes_block.specs.Cipher.{aes128}

-- the block of zeros
abbrev pub zero_block : List ℕ
zero_block = replicate 16 0

-- the block with these octets
abbrev pub block_of : (ℕ → ℕ) → List ℕ
block_of octet =
    octet 0 ∷ octet 1 ∷ octet 2 ∷ octet 3 ∷ octet 4 ∷ octet 5 ∷ octet 6 ∷ octet 7
    ∷ octet 8 ∷ octet 9 ∷ octet 10 ∷ octet 11 ∷ octet 12 ∷ octet 13 ∷ octet 14 ∷ octet 15 ∷ []

-- the sum of two blocks
unfoldable pub xor_blocks : List ℕ → List ℕ → List ℕ
xor_blocks a b = block_of (λ i. bit_xor (slice_index a i) (slice_index b i))

-- a number of 128 bits, one bit to the left
abbrev pub shifted : ℕ → ℕ
shifted n = n * 2 % 2 ^ 128

-- this number times x in the field of 2^128 elements: 0x87 is added if the bit that went out was 1
abbrev pub doubled_number : ℕ → ℕ
doubled_number n = if nat_lt n (2 ^ 127) then shifted n else bit_xor (shifted n) 0x87

-- a block times x (2.3)
unfoldable pub doubled : List ℕ → List ℕ
doubled block = to_be_bytes w128 (doubled_number (from_be_bytes w128 block))

-- K1 and K2 (2.3)
abbrev pub first_subkey : List ℕ → List ℕ
first_subkey key = doubled (aes128 key zero_block)

abbrev pub second_subkey : List ℕ → List ℕ
second_subkey key = doubled (first_subkey key)

-- the last octets of a text, made a block: a whole block is combined with K1, any other is padded
-- by one bit 1 and zeros and combined with K2 (2.4)
unfoldable pub last_block : List ℕ → List ℕ → List ℕ
last_block key end = if length end == 16
    then xor_blocks end (first_subkey key)
    else xor_blocks (end ++ 0x80 ∷ replicate (15 - length end) 0) (second_subkey key)

-- how many blocks of a text precede the last one
abbrev pub inner_count : List ℕ → ℕ
inner_count text = (length text - 1) / 16

-- the block n of a text, counted from 0
abbrev pub block_at : List ℕ → ℕ → List ℕ
block_at text n = take 16 (drop (16 * n) text)

-- the chain after the first n blocks of a text (2.4, step 6)
unfoldable pub chain : List ℕ → List ℕ → ℕ → List ℕ
chain key text zero = zero_block
chain key text (suc n) = aes128 key (xor_blocks (chain key text n) (block_at text n))

-- the tag of a text (2.4)
unfoldable pub aes_cmac : List ℕ → List ℕ → List ℕ
aes_cmac key text =
    aes128 key (xor_blocks (chain key text (inner_count text))
    (last_block key (drop (16 * inner_count text) text)))
