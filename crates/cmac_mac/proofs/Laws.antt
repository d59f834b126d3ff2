-- The size of a tag, for those who cut it or send it.
use Rattle.std.proofs.Common.{◌≡◌, ℕ, List, length}
use Rattle.aes_block.proofs.Laws.{length_aes128}
use Rattle.cmac_mac.specs.Cmac.{aes_cmac}

-- a tag has sixteen octets
pub length_aes_cmac : (key text : List ℕ) → length (aes_cmac key text) ≡ 16
unfolding aes_cmac
length_aes_cmac key text = length_aes128 key _
