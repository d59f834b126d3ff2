-- The sizes of the nonces that a reader of EAP-PSK gives.
use Rattle.std.proofs.Common.{◌≡◌, ℕ, ◌+◌, ◌≤◌, true, eqb, leb, List, [], ◌∷◌, length, take, drop}
use Rattle.std.proofs.Common.{Result, Ok, Err, sym, subst, ◌∙◌, length-drop, length-take-le, arith}
use Rattle.std.proofs.Common.{inl, inr}
use Rattle.std.specs.Prelude.{Bool, ◌==◌, ◌&&◌, if◌then◌else◌, ◌/◌}
use Rattle.std.proofs.lemmas.Bool.{cases_Bool, and_parts, leb-true, cond-true, cond-false}
use Rattle.eap_packet.specs.declared.cause.Cause.{Cause}
use Rattle.eap_packet.specs.declared.cause.Cause.TheVariants.{PskShape}
use Rattle.psk_messages.specs.Message.{Message, psk1, psk2}
use Rattle.psk_messages.specs.Reading.{is_size, psk1_at, psk2_at, psk3_at, psk4_at, message_at}
use Rattle.psk_messages.specs.Reading.{read_of}

pub front_size : (octets : List ℕ) → 16 ≤ length octets → length (take 16 octets) ≡ 16
front_size octets fits = length-take-le 16 octets fits

-- RAND_S of PSK-1 and RAND_P of PSK-2 have 16 octets
abbrev pub HasRand : Message → Type 0
HasRand (psk1 rand_s id_s) = length rand_s ≡ 16
HasRand (psk2 rand_s rand_p mac id_p) = length rand_p ≡ 16
HasRand message = Unit {0}

psk1_rand : (octets : List ℕ) → (leb 16 (length octets) && leb (length octets) (16 + 253)) ≡ true
    → HasRand (psk1_at octets)
psk1_rand octets e =
    let tests = and_parts (leb 16 (length octets)) (leb (length octets) (16 + 253)) e in
    front_size octets (leb-true 16 (length octets) tests.0)

psk2_rand : (octets : List ℕ) → (leb 48 (length octets) && leb (length octets) (48 + 253)) ≡ true
    → HasRand (psk2_at octets)
psk2_rand octets e =
    let tests = and_parts (leb 48 (length octets)) (leb (length octets) (48 + 253)) e in
    let size : 48 ≤ length octets = leb-true 48 (length octets) tests.0 in
    front_size (drop 16 octets) (omega (arith, length-drop 16 octets, size))

abbrev later_at : ℕ → List ℕ → Message
later_at t octets = if t == 2 then psk3_at octets else psk4_at octets

later_rand : (t : ℕ) (octets : List ℕ) → HasRand (later_at t octets)
later_rand t octets =
    elim (cases_Bool (eqb t 2)) [
      | inl third ↦
          subst HasRand (sym (cond-true {A = Message} _ (psk3_at octets) (psk4_at octets) third)) tt
      | inr fourth ↦ subst HasRand
          (sym (cond-false {A = Message} _ (psk3_at octets) (psk4_at octets) fourth)) tt
    ]

abbrev rest_at : ℕ → List ℕ → Message
rest_at t octets = if t == 1 then psk2_at octets else later_at t octets

abbrev rest_fits : ℕ → ℕ → Bool
rest_fits t size =
    if t == 1 then leb 48 size && leb size (48 + 253) else if t == 2 then size == 53 else size == 37

rest_rand : (t : ℕ) (octets : List ℕ) → rest_fits t (length octets) ≡ true
    → HasRand (rest_at t octets)
rest_rand t octets e =
    elim (cases_Bool (eqb t 1)) [
      | inl second ↦ subst HasRand (sym (cond-true _ (psk2_at octets) (later_at t octets) second))
          (psk2_rand octets (sym (cond-true _ _ _ second) ∙ e))
      | inr past ↦ subst HasRand (sym (cond-false _ (psk2_at octets) (later_at t octets) past))
          (later_rand t octets)
    ]

message_rand : (t : ℕ) (octets : List ℕ) → is_size t (length octets) ≡ true
    → HasRand (message_at t octets)
message_rand t octets e =
    elim (cases_Bool (eqb t 0)) [
      | inl first ↦ subst HasRand (sym (cond-true _ (psk1_at octets) (rest_at t octets) first))
          (psk1_rand octets (sym (cond-true _ _ _ first) ∙ e))
      | inr past ↦ subst HasRand (sym (cond-false _ (psk1_at octets) (rest_at t octets) past))
          (rest_rand t octets (sym (cond-false _ _ _ past) ∙ e))
    ]

pub read_rand : (octets : List ℕ) (message : Message) → read_of octets ≡ Ok message
    → HasRand message
unfolding read_of
read_rand [] message e = absurd cc
read_rand (flags ∷ octets) message e =
    let t = flags / 64 in
    elim (cases_Bool (is_size t (length octets))) [
      | inl fits ↦ let same : ◌≡◌ {A = Result Message Cause} (Ok
          (message_at t octets)) (Ok message) = sym (cond-true _ _ _ fits) ∙ e in
          let read : message_at t octets ≡ message = cc in
          subst HasRand read (message_rand t octets fits)
      | inr misses ↦ let same : ◌≡◌ {A = Result Message Cause} (Err PskShape) (Ok message) =
          sym (cond-false _ _ _ misses) ∙ e in absurd cc
    ]
