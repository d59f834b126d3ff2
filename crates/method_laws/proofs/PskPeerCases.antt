-- The turns of a peer of EAP-PSK, by cases.
use Rattle.std.proofs.Common.{◌≡◌, ℕ, List, Bool, true, false, Option, None, Result, Ok, Err, refl}
use Rattle.std.specs.Prelude.{not, ◌==◌}
use Rattle.std.specs.Str.{bytes_eq}
use Rattle.std.proofs.lemmas.Bool.{cond_both, and_parts, eqb-true}
use Rattle.eap_packet.specs.declared.cause.Cause.{Cause}
use Rattle.eap_packet.specs.declared.cause.Cause.TheVariants.{UnknownServer, FieldMismatch}
use Rattle.eap_packet.specs.declared.cause.Cause.TheVariants.{BadNonce, BadTag, BadResult, Extended}
use Rattle.psk_messages.specs.Message.{Message, psk1, psk3}
use Rattle.psk_messages.specs.Reading.{read_of}
use Rattle.eap_method.specs.declared.values.Credential.{Credential}
use Rattle.login_setup.specs.Setup.{accepts_name}
use Rattle.eap_method.specs.PskTags.{header_of, is_sealed, result_of, is_extended, done_success}
use Rattle.eap_method.specs.Turns.{id_of, body_of}
use Rattle.eap_method.specs.PskPeer.{Login, unset, fresh, wait, over, keys_of, mac_s_of}
use Rattle.eap_method.specs.PskPeer.{psk3_records, psk3_fault, receives_psk1, fresh_reads}
use Rattle.eap_method.specs.PskPeer.{are_right, wait_reads, over_reads, step}
use Rattle.eap_method.specs.PskPeer as peer
use Rattle.method_laws.specs.PskPeerRows.{PskPeerRow, drops, answers, confirms_success}
use Rattle.method_laws.specs.PskPeerRows.{confirms_failure, opened_by, PskPeerStepsAreRows}
use Rattle.method_laws.proofs.Tests.{of_not, equal_octets, equal_tags, failure_left}

module _ (cred : Credential) (nonce octets : List ℕ) where
  psk1_row : (rand_s id_s : List ℕ) → read_of (body_of octets) ≡ Ok (psk1 rand_s id_s)
      → PskPeerRow (fresh cred nonce) octets (receives_psk1 cred nonce (id_of octets) rand_s id_s)
  unfolding peer.answers
  psk1_row rand_s id_s is_read =
      cond_both (accepts_name cred.accepts id_s) _ _ (PskPeerRow (fresh cred nonce) octets)
      (λ accepted. answers cred nonce rand_s id_s refl is_read accepted)
      (λ _. drops UnknownServer)

  fresh_row : (read : Result Message Cause) → read_of (body_of octets) ≡ read
      → PskPeerRow (fresh cred nonce) octets (fresh_reads cred nonce (id_of octets) read)
  fresh_row (Err cause) is_read = drops cause
  fresh_row (Ok (psk1 rand_s id_s)) is_read = psk1_row rand_s id_s is_read
  fresh_row (Ok message) is_read = drops _

module _ (login : Login) (octets : List ℕ) where
  module _ (rand_s mac : List ℕ) (nonce : ℕ) (tag : List ℕ) (sealed : ℕ)
      (is_read : read_of (body_of octets) ≡ Ok (psk3 rand_s mac nonce tag sealed)) where
    -- the row of an answer to PSK-3 with this fault
    abbrev confirmed : Option Cause → Type 0
    confirmed fault = PskPeerRow (wait login) octets
        (peer.confirms login (id_of octets) (result_of (opened_by login sealed))
        (psk3_records login (header_of octets) mac tag sealed) fault)

    faultless_row : rand_s ≡ login.rand_s → nonce ≡ 0
        → are_right login (header_of octets) mac tag sealed ≡ true
        → (result_of (opened_by login sealed) == 0) ≡ false
        → is_extended (opened_by login sealed) ≡ false
        → confirmed None
    unfolding peer.confirms
    faultless_row their_nonce is_first tags_right has_result is_plain =
        let tags = and_parts (bytes_eq (mac_s_of login) mac)
        (is_sealed (keys_of login).tek 0 (header_of octets) sealed tag) tags_right in
        cond_both (result_of (opened_by login sealed) == done_success) _ _
        (PskPeerRow (wait login) octets) (λ is_success.
        confirms_success login rand_s mac nonce tag sealed refl is_read their_nonce
        is_first tags_right (equal_octets _ _ tags.0) tags.1 (equal_tags _ _ _ _ _ tags.1) is_plain
        (eqb-true _ _ is_success)) (λ no_success.
        confirms_failure login rand_s mac nonce tag sealed refl is_read their_nonce
        is_first tags_right (equal_octets _ _ tags.0) tags.1 (equal_tags _ _ _ _ _ tags.1)
        is_plain has_result no_success (failure_left _ has_result is_plain no_success))

    psk3_row : confirmed (psk3_fault login (header_of octets) rand_s mac nonce tag sealed)
    unfolding peer.confirms
    psk3_row =
        cond_both (not (bytes_eq rand_s login.rand_s)) _ _ confirmed
        (λ _. drops FieldMismatch)
        (λ same. cond_both (not (nonce == 0)) _ _ confirmed
        (λ _. drops BadNonce)
        (λ first. cond_both (not (are_right login (header_of octets) mac tag sealed)) _ _ confirmed
        (λ _. drops BadTag)
        (λ right. cond_both (result_of (opened_by login sealed) == 0) _ _ confirmed
        (λ _. drops BadResult)
        (λ has_result. cond_both (is_extended (opened_by login sealed)) _ _ confirmed
        (λ _. drops Extended)
        (λ is_plain. faultless_row (equal_octets _ _ (of_not _ same))
        (eqb-true _ _ (of_not _ first)) (of_not _ right) has_result is_plain)))))

  wait_row : (read : Result Message Cause) → read_of (body_of octets) ≡ read
      → PskPeerRow (wait login) octets (wait_reads login (id_of octets) (header_of octets) read)
  wait_row (Err cause) is_read = drops cause
  wait_row (Ok (psk3 rand_s mac nonce tag sealed)) is_read =
      psk3_row rand_s mac nonce tag sealed is_read
  wait_row (Ok message) is_read = drops _

  over_row : (good : Bool) (read : Result Message Cause)
      → PskPeerRow (over login good) octets (over_reads login good read)
  over_row good (Err cause) = drops cause
  over_row good (Ok message) = drops _

pub psk_peer_steps_are_rows : PskPeerStepsAreRows
unfolding step
psk_peer_steps_are_rows unset octets = drops _
psk_peer_steps_are_rows (fresh cred nonce) octets =
    fresh_row cred nonce octets (read_of (body_of octets)) refl
psk_peer_steps_are_rows (wait login) octets = wait_row login octets (read_of (body_of octets)) refl
psk_peer_steps_are_rows (over login good) octets =
    over_row login octets good (read_of (body_of octets))
