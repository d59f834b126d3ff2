-- The words that stand within a line: causes, states, octets in hex.
use Rattle.std.proofs.Common.{◌≡◌, List, ℕ, [], ◌∷◌, Bool, true, false, cond, refl}
use Rattle.eap_packet.specs.Words.{cause_word, state_word}
use Rattle.eap_packet.specs.declared.cause.Cause.{Cause}
use Rattle.eap_packet.specs.declared.cause.Cause.TheVariants as cause
use Rattle.eap_packet.specs.declared.state.State.{State}
use Rattle.eap_packet.specs.declared.state.State.TheVariants as state
use Rattle.answer_text.specs.Pieces.{hex_text}
use Rattle.answer_text.proofs.Plain.{is_within, encoded_within}

pub cause_within : (c : Cause) → is_within (cause_word c) ≡ true
cause_within cause.Short = refl
cause_within other = refl

pub state_within : (s : State) → is_within (state_word s) ≡ true
state_within state.Initialize = refl
state_within other = refl

pub either_within : (t : Bool) (xs ys : List ℕ) → is_within xs ≡ true → is_within ys ≡ true
    → is_within (cond t xs ys) ≡ true
either_within true xs ys p q = p
either_within false xs ys p q = q

pub hex_within : (octets : List ℕ) → is_within (hex_text octets) ≡ true
hex_within [] = refl
hex_within (o ∷ octets) = encoded_within (o ∷ octets)
