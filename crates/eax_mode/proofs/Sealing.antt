-- A sealed text and its one plaintext.
use Rattle.std.proofs.Common.{◌≡◌, List, ℕ, sym, ap, ◌∙◌}
use Rattle.eax_mode.specs.Eax.{IsOnlyTextOf, Sealed, eax_ciphertext, eax_plaintext, eax_tag}
use Rattle.eax_mode.specs.Eax.{first_counter}
use Rattle.eax_mode.proofs.Stream.{counter_mode_twice}

-- the text comes back
pub eax_plaintext_eax_ciphertext : (key nonce text : List ℕ)
    → eax_plaintext key nonce (eax_ciphertext key nonce text) ≡ text
unfolding eax_plaintext eax_ciphertext
eax_plaintext_eax_ciphertext key nonce text = counter_mode_twice key (first_counter key nonce) text

-- and so does the ciphertext
pub eax_ciphertext_eax_plaintext : (key nonce text : List ℕ)
    → eax_ciphertext key nonce (eax_plaintext key nonce text) ≡ text
unfolding eax_plaintext eax_ciphertext
eax_ciphertext_eax_plaintext key nonce text = counter_mode_twice key (first_counter key nonce) text

-- the plaintext of a ciphertext whose tag is right is the only text that is sealed so
pub only_text : (key nonce header ciphertext tag text : List ℕ)
    → tag ≡ eax_tag key nonce header ciphertext
    → text ≡ eax_plaintext key nonce ciphertext → IsOnlyTextOf key nonce header ciphertext tag text
only_text key nonce header ciphertext tag text is_tag is_text = record {
  seals =
      let back : eax_ciphertext key nonce text ≡ ciphertext =
      ap (eax_ciphertext key nonce) is_text ∙ eax_ciphertext_eax_plaintext key nonce ciphertext in
      let of_hidden : List ℕ
      → Sealed = λ hidden. record { ciphertext = hidden; tag = eax_tag key nonce header hidden } in
      let with_tag : List ℕ → Sealed = λ t. record { ciphertext = ciphertext; tag = t } in
      ap of_hidden back ∙ ap with_tag (sym is_tag);
  no_other = λ other same.
      let hidden : Sealed → List ℕ = λ s. s.ciphertext in
      sym (eax_plaintext_eax_ciphertext key nonce other)
      ∙ ap (eax_plaintext key nonce) (ap hidden same)
      ∙ sym is_text;
}
