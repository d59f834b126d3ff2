-- The header that EAX covers of an EAP-PSK message ends in RAND_S (RFC 4764 section 5).
use Rattle.std.proofs.Common.{◌≡◌, ℕ, List, [], ◌∷◌, length, take, drop, Result, Ok, Err, refl, sym}
use Rattle.std.proofs.Common.{◌∙◌, take_at, inl, inr}
use Rattle.std.specs.Prelude.{◌==◌, ◌/◌}
use Rattle.std.proofs.lemmas.Bool.{cases_Bool, cond_both, cond-true, cond-false}
use Rattle.eap_packet.specs.Packet as packets
use Rattle.eap_packet.specs.declared.cause.Cause.{Cause}
use Rattle.eap_packet.specs.declared.cause.Cause.TheVariants.{PskShape}
use Rattle.psk_messages.specs.Message as messages
use Rattle.psk_messages.specs.Message.{Message, psk4}
use Rattle.psk_messages.specs.Reading.{is_size, psk1_at, psk2_at, psk3_at, psk4_at, message_at}
use Rattle.psk_messages.specs.Reading.{read_of}
use Rattle.eap_method.specs.PskPeer as psk
use Rattle.eap_method.specs.PskTags.{channel_nonce, channel_octets, header_of}
use Rattle.eap_method.specs.Turns.{body_of}
use Rattle.method_laws.proofs.Fields.{ends, fronts}

-- RAND_S of PSK-4 are the first sixteen of these octets
record StartsAt (octets : List ℕ) (message : Message) : Type 0 where
  pub is : (rand_s : List ℕ) (nonce : ℕ) (tag : List ℕ) (sealed : ℕ)
      → message ≡ psk4 rand_s nonce tag sealed → take 16 octets ≡ rand_s

message_starts : (t : ℕ) (octets : List ℕ) → StartsAt octets (message_at t octets)
message_starts t octets =
    cond_both (t == 0) (psk1_at octets) _ (StartsAt octets)
    (λ _. record { is = λ rand_s nonce tag sealed e. cc e })
    (λ _. cond_both (t == 1) (psk2_at octets) _ (StartsAt octets)
    (λ _. record { is = λ rand_s nonce tag sealed e. cc e })
    (λ _. cond_both (t == 2) (psk3_at octets) (psk4_at octets) (StartsAt octets)
    (λ _. record { is = λ rand_s nonce tag sealed e. cc e })
    (λ _. record { is = λ rand_s nonce tag sealed e. cc })))

read_starts : (flags : ℕ) (octets rand_s : List ℕ) (nonce : ℕ) (tag : List ℕ) (sealed : ℕ)
    → read_of (flags ∷ octets) ≡ Ok (psk4 rand_s nonce tag sealed)
    → take 16 octets ≡ rand_s
unfolding read_of
read_starts flags octets rand_s nonce tag sealed e =
    let t = flags / 64 in
    let message = psk4 rand_s nonce tag sealed in
    elim (cases_Bool (is_size t (length octets))) [
      | inl fits ↦ let same : ◌≡◌ {A = Result Message Cause} (Ok
          (message_at t octets)) (Ok message) = sym (cond-true _ _ _ fits) ∙ e in
          let read : message_at t octets ≡ message = cc in
          (message_starts t octets).is rand_s nonce tag sealed read
      | inr misses ↦ let same : ◌≡◌ {A = Result Message Cause} (Err PskShape) (Ok message) =
          sym (cond-false _ _ _ misses) ∙ e in absurd cc
    ]

-- the header of a PSK-4 that was read
pub header_read : (octets rand_s : List ℕ) (nonce : ℕ) (tag : List ℕ) (sealed : ℕ)
    → read_of (body_of octets) ≡ Ok (psk4 rand_s nonce tag sealed)
    → drop 6 (header_of octets) ≡ rand_s
unfolding read_of
header_read [] rand_s nonce tag sealed e = absurd cc
header_read (a ∷ []) rand_s nonce tag sealed e = absurd cc
header_read (a ∷ b ∷ []) rand_s nonce tag sealed e = absurd cc
header_read (a ∷ b ∷ c ∷ []) rand_s nonce tag sealed e = absurd cc
header_read (a ∷ b ∷ c ∷ d ∷ []) rand_s nonce tag sealed e = absurd cc
header_read (a ∷ b ∷ c ∷ d ∷ k ∷ []) rand_s nonce tag sealed e = absurd cc
header_read (a ∷ b ∷ c ∷ d ∷ k ∷ flags ∷ octets) rand_s nonce tag sealed e =
    read_starts flags octets rand_s nonce tag sealed e

-- and of the one that the peer makes
pub header_created : (login : psk.Login) (id : ℕ) → length login.rand_s ≡ 16
    → drop 6 (psk.psk4_header login id) ≡ login.rand_s
unfolding psk.psk4_header packets.spelled messages.spelled
header_created login id size = take_at login.rand_s _ 16 size

-- tags over equal octets have equal sealed octets
one_octet : (sealed sealed' : ℕ) → ◌≡◌ {A = List ℕ} (sealed ∷ []) (sealed' ∷ []) → sealed ≡ sealed'
one_octet sealed sealed' e = cc

pub same_sealed : (header other : List ℕ) (sealed sealed' : ℕ)
    → channel_octets 1 header sealed ≡ channel_octets 1 other sealed' → sealed ≡ sealed'
unfolding channel_octets channel_nonce
same_sealed header other sealed sealed' e =
    one_octet sealed sealed' (ends 1 header (sealed ∷ []) other (sealed' ∷ []) refl refl
    (fronts 16 (channel_nonce 1) _ (channel_nonce 1) _ refl refl e).1).1

-- tags over equal octets have equal headers
pub same_header : (header other : List ℕ) (sealed sealed' : ℕ)
    → channel_octets 1 header sealed ≡ channel_octets 1 other sealed' → header ≡ other
unfolding channel_octets channel_nonce
same_header header other sealed sealed' e =
    (ends 1 header (sealed ∷ []) other (sealed' ∷ []) refl refl
    (fronts 16 (channel_nonce 1) _ (channel_nonce 1) _ refl refl e).1).0
