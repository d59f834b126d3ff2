-- Blocks, of which AES-128 encrypts each to another one (FIPS 197, section 5).
use Rattle.std.specs.Prelude.{◌≡◌, ◌<◌, ℕ, List, length, slice_index}
use Rattle.aes_block.specs.Cipher.{aes128}

-- a block, or a key: sixteen octets (3.4)
pub record IsBlock (block : List ℕ) : Type 0 where
  pub whole : length block ≡ 16
  pub octets : (i : ℕ) → slice_index block i < 256

-- what a block is encrypted to is a block
abbrev pub EncryptionsAreBlocks : Type 0
EncryptionsAreBlocks = (key block : List ℕ) → IsBlock key → IsBlock (aes128 key block)

-- no two blocks have one encryption under a key
abbrev pub EncryptionsDiffer : Type 0
EncryptionsDiffer = (key one other : List ℕ) → IsBlock key → IsBlock one → IsBlock other
    → aes128 key one ≡ aes128 key other → one ≡ other
