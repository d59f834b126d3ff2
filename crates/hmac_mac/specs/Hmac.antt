-- HMAC (RFC 2104, section 2), on whole lists of octets, over any hash of blocks of 64 octets, and
-- with SHA-256: FIPS 180-4 as the crate `sha2` defines it.
use Rattle.std.specs.Prelude.{ℕ, ◌-◌, List, ◌++◌, length, map, replicate, bit_xor, nat_le}
use Rattle.std.specs.Prelude.{if◌then◌else◌}
use Rattle.sha2.specs.Sha256.{sha256}

-- the octets of a block of the hash
abbrev pub block_len : ℕ
block_len = 64

-- octets filled with zeros at their end to a whole block
unfoldable pub filled : List ℕ → List ℕ
filled octets = octets ++ replicate (block_len - length octets) 0

-- the key as one block: a key that is longer than a block is replaced by its digest
unfoldable pub block_key_of : (List ℕ → List ℕ) → List ℕ → List ℕ
block_key_of hash key = filled (if nat_le (length key) block_len then key else hash key)

abbrev pub block_key : List ℕ → List ℕ
block_key key = block_key_of sha256 key

-- the octet ipad, which the inner hash's key is combined with
abbrev pub inner_pad : ℕ
inner_pad = 0x36

-- the octet opad, which the outer hash's key is combined with
abbrev pub outer_pad : ℕ
outer_pad = 0x5c

-- each octet combined with the same pad
unfoldable pub padded : List ℕ → ℕ → List ℕ
padded octets pad = map (λ octet. bit_xor octet pad) octets

-- H(K XOR opad, H(K XOR ipad, text))
unfoldable pub hmac : (List ℕ → List ℕ) → List ℕ → List ℕ → List ℕ
hmac hash key text =
    hash (padded (block_key_of hash
    key) outer_pad ++ hash (padded (block_key_of hash key) inner_pad ++ text))

unfoldable pub hmac_sha256 : List ℕ → List ℕ → List ℕ
hmac_sha256 key text = hmac sha256 key text
