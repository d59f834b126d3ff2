-- Blocks of a list that is made block by block.
pub mod Blocks
-- The definitions computed, with values of an independent program (Python with its hashlib and
-- hmac, and with AES of the package cryptography).
pub mod Examples
-- The sizes of an EAP-GPSK ciphersuite: of a tag, and how many of them a key takes.
pub mod GpskLaws
-- The keys of two EAP-PSK logins differ if their RAND_P does.
pub mod PskLaws
