-- Which lines of an end are plain: those of the states that it entered, and of a discard.
use Rattle.std.proofs.Common.{◌≡◌, ℕ, ◌≤◌, List, [], ◌∷◌, ◌++◌, Bool, true, false, Option, Some}
use Rattle.std.proofs.Common.{None, refl}
use Rattle.eap_packet.specs.Words.{cause_word, state_word}
use Rattle.eap_packet.specs.declared.cause.Cause.{Cause}
use Rattle.eap_packet.specs.declared.state.State.{State}
use Rattle.answer_text.specs.Paths.{states_text, path_text, cause_text}
use Rattle.answer_text.proofs.Plain.{plain, through, within_join, decimal_first}
use Rattle.answer_text.proofs.PlainWords.{cause_within, state_within}

module _ (bad : ℕ → Bool) (no_digit : (o : ℕ) → 48 ≤ o → o ≤ 57 → bad o ≡ false) where
  states_plain : (path : List State) → plain bad false (states_text path) ≡ true
  states_plain [] = refl
  states_plain (s ∷ rest) = through bad (state_word s ++ []) (states_text rest)
      (within_join (state_word s) [] (state_within s) refl) (states_plain rest)

  pub path_plain : (path : List State) → plain bad false (path_text path) ≡ true
  path_plain [] = refl
  path_plain (s ∷ rest) = states_plain (s ∷ rest)

  pub cause_plain : (event : ℕ) (c : Option Cause) → plain bad true (cause_text event c) ≡ true
  cause_plain event None = refl
  cause_plain event (Some c) =
      decimal_first bad no_digit event _ (through bad (cause_word c) _ (cause_within c) refl)
