-- The sizes of a sealed text, for those who send it.
use Rattle.std.proofs.Common.{◌≡◌, ℕ, List, length, ◌∙◌}
use Rattle.std.specs.Int.{div_ceil}
use Rattle.cmac_mac.proofs.Laws.{length_aes_cmac}
use Rattle.eax_mode.specs.Eax.{combined, counter_mode, eax_ciphertext, eax_tag, first_counter}
use Rattle.eax_mode.specs.Eax.{key_stream, omac}
use Rattle.eax_mode.proofs.Combining.{length_combined}

-- a ciphertext has the size of its text
pub length_eax_ciphertext : (key nonce text : List ℕ) → length (eax_ciphertext key nonce text)
    ≡ length text
unfolding eax_ciphertext counter_mode
length_eax_ciphertext key nonce text =
    length_combined text (key_stream key (first_counter key nonce) (div_ceil (length text) 16))

-- a tag has sixteen octets
pub length_eax_tag : (key nonce header ciphertext : List ℕ)
    → length (eax_tag key nonce header ciphertext) ≡ 16
unfolding eax_tag omac
length_eax_tag key nonce header ciphertext =
    length_combined (combined (omac key 0 nonce) (omac key 1 header)) (omac key 2 ciphertext)
    ∙ length_combined (omac key 0 nonce) (omac key 1 header)
    ∙ length_aes_cmac key _
