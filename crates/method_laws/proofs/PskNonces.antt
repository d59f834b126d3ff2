-- The nonces of PSK-1 and PSK-2 stand in their octets.
use Rattle.std.proofs.Common.{◌≡◌, ℕ, List, [], ◌∷◌, length, Ok, Err, Result, sym, subst, ◌∙◌, inl}
use Rattle.std.proofs.Common.{inr}
use Rattle.std.specs.Prelude.{◌==◌, ◌/◌}
use Rattle.std.proofs.lemmas.Bool.{cases_Bool, cond_both, cond-true, cond-false}
use Rattle.eap_packet.specs.declared.cause.Cause.{Cause}
use Rattle.eap_packet.specs.declared.cause.Cause.TheVariants.{PskShape}
use Rattle.psk_messages.specs.Message.{Message, psk1, psk2, psk3, psk4}
use Rattle.psk_messages.specs.Reading.{is_size, psk1_at, psk2_at, psk3_at, psk4_at, message_at}
use Rattle.psk_messages.specs.Reading.{read_of}
use Rattle.method_laws.proofs.Occurrence.{Occurrence, part_of, trailing_of, one_more}

abbrev pub OccursInMessage : List ℕ → Message → Type 0
OccursInMessage octets (psk1 rand_s id_s) = Occurrence rand_s octets
OccursInMessage octets (psk2 rand_s rand_p mac id_p) = Occurrence rand_p octets
OccursInMessage octets message = Unit {0}

message_occurs : (t : ℕ) (octets : List ℕ) → OccursInMessage octets (message_at t octets)
message_occurs t octets =
    cond_both (t == 0) (psk1_at octets) _ (OccursInMessage octets) (λ _. part_of 16 octets)
    (λ _. cond_both (t == 1) (psk2_at octets) _ (OccursInMessage octets)
    (λ _. trailing_of 16 16 octets) (λ _. cond_both (t == 2) (psk3_at octets) (psk4_at octets)
    (OccursInMessage octets) (λ _. tt) (λ _. tt)))

trailing_flags : (flags : ℕ) (octets : List ℕ) (message : Message) → OccursInMessage octets message
    → OccursInMessage (flags ∷ octets) message
trailing_flags flags octets (psk1 rand_s id_s) s = one_more flags rand_s octets s
trailing_flags flags octets (psk2 rand_s rand_p mac id_p) s = one_more flags rand_p octets s
trailing_flags flags octets (psk3 rand_s mac nonce tag sealed) s = tt
trailing_flags flags octets (psk4 rand_s nonce tag sealed) s = tt

pub read_occurs : (octets : List ℕ) (message : Message) → read_of octets ≡ Ok message
    → OccursInMessage octets message
unfolding read_of
read_occurs [] message e = absurd cc
read_occurs (flags ∷ octets) message e =
    let t = flags / 64 in
    elim (cases_Bool (is_size t (length octets))) [
      | inl fits ↦ let same : ◌≡◌ {A = Result Message Cause} (Ok
          (message_at t octets)) (Ok message) = sym (cond-true _ _ _ fits) ∙ e in
          let read : message_at t octets ≡ message = cc in
          trailing_flags flags octets message
          (subst (OccursInMessage octets) read (message_occurs t octets))
      | inr misses ↦ let same : ◌≡◌ {A = Result Message Cause} (Err PskShape) (Ok message) =
          sym (cond-false _ _ _ misses) ∙ e in absurd cc
    ]
