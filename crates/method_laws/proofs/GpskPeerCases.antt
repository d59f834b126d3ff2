-- The turns of a peer of EAP-GPSK, by cases.
use Rattle.std.proofs.Common.{◌≡◌, ℕ, List, Bool, true, Option, Some, None, Result, Ok, Err, refl}
use Rattle.std.specs.Prelude.{not}
use Rattle.std.specs.Str.{bytes_eq}
use Rattle.std.proofs.lemmas.Bool.{cond_both, and_parts}
use Rattle.octet_lists.specs.declared.suite.Suite.{Suite}
use Rattle.octet_lists.specs.Suite.{ks_of}
use Rattle.eap_packet.specs.declared.cause.Cause.{Cause}
use Rattle.eap_packet.specs.declared.cause.Cause.TheVariants.{UnknownServer, FieldMismatch, BadTag}
use Rattle.gpsk_messages.specs.Message.{Message, gpsk1, gpsk3, fail, protected_fail}
use Rattle.gpsk_messages.specs.Reading.{read_of}
use Rattle.login_policy.specs.Policy.{picked_suite}
use Rattle.eap_method.specs.declared.values.Credential.{Credential}
use Rattle.eap_method.specs.GpskTags.{same_suite}
use Rattle.login_setup.specs.Setup.{accepts_name}
use Rattle.eap_method.specs.Turns.{id_of, body_of, fault_if}
use Rattle.eap_method.specs.GpskPeer.{Login, unset, fresh, wait, over, picks, receives_gpsk1}
use Rattle.eap_method.specs.GpskPeer.{fresh_reads, repeats, is_tagged_by, wait_reads, over_reads}
use Rattle.eap_method.specs.GpskPeer.{step}
use Rattle.eap_method.specs.GpskPeer as peer
use Rattle.method_laws.specs.GpskPeerRows.{GpskPeerRow, drops, answers, confirms, repeats_fail}
use Rattle.method_laws.specs.GpskPeerRows.{repeats_protected, GpskPeerStepsAreRows}
use Rattle.method_laws.proofs.Tests.{of_not, equal_octets, equal_suites}

module _ (cred : Credential) (nonce octets : List ℕ) where
  picks_row : (id_s rand_s list : List ℕ)
      → read_of None (body_of octets) ≡ Ok (gpsk1 id_s rand_s list)
      → accepts_name cred.accepts id_s ≡ true
      → (found : Option Suite) → picked_suite cred.suites list ≡ found
      → GpskPeerRow (fresh cred nonce) octets
      (picks cred nonce (id_of octets) id_s rand_s list found)
  unfolding peer.answers
  picks_row id_s rand_s list is_read accepted None picked = drops _
  picks_row id_s rand_s list is_read accepted (Some suite) picked =
      answers cred nonce id_s rand_s list suite refl is_read accepted picked

  gpsk1_row : (id_s rand_s list : List ℕ)
      → read_of None (body_of octets) ≡ Ok (gpsk1 id_s rand_s list)
      → GpskPeerRow (fresh cred nonce) octets
      (receives_gpsk1 cred nonce (id_of octets) id_s rand_s list)
  gpsk1_row id_s rand_s list is_read =
      cond_both (accepts_name cred.accepts id_s) _ _ (GpskPeerRow (fresh cred nonce) octets)
      (λ accepted. picks_row id_s rand_s list is_read accepted (picked_suite cred.suites list) refl)
      (λ _. drops UnknownServer)

  fresh_row : (read : Result Message Cause) → read_of None (body_of octets) ≡ read
      → GpskPeerRow (fresh cred nonce) octets (fresh_reads cred nonce (id_of octets) read)
  fresh_row (Err cause) is_read = drops cause
  fresh_row (Ok (gpsk1 id_s rand_s list)) is_read = gpsk1_row id_s rand_s list is_read
  fresh_row (Ok message) is_read = drops _

module _ (login : Login) (octets : List ℕ) where
  gpsk3_row : (rand_p rand_s id_s : List ℕ) (suite : Suite) (pd mac : List ℕ)
      → read_of (Some (ks_of login.suite)) (body_of octets)
      ≡ Ok (gpsk3 rand_p rand_s id_s suite pd mac)
      → GpskPeerRow (wait login) octets
      (peer.confirms login (id_of octets) (gpsk3 rand_p rand_s id_s suite pd mac)
      (fault_if (not (repeats login rand_p rand_s id_s suite)) FieldMismatch
      (fault_if (not (is_tagged_by login (gpsk3 rand_p rand_s id_s suite pd mac))) BadTag None)))
  unfolding peer.confirms
  gpsk3_row rand_p rand_s id_s suite pd mac is_read =
      let message : Message = gpsk3 rand_p rand_s id_s suite pd mac in
      cond_both (not (repeats login rand_p rand_s id_s suite)) _ _
      (λ fault. GpskPeerRow (wait login) octets (peer.confirms login (id_of octets) message fault))
      (λ _. drops FieldMismatch)
      (λ not_other. cond_both (not (is_tagged_by login message)) _ _
      (λ fault. GpskPeerRow (wait login) octets (peer.confirms login (id_of octets) message fault))
      (λ _. drops BadTag)
      (λ not_untagged.
      let repeated : repeats login rand_p rand_s id_s suite ≡ true = of_not _ not_other in
      let nonces = and_parts (bytes_eq rand_p login.nonce) _ repeated in
      let others = and_parts (bytes_eq rand_s login.rand_s) _ nonces.1 in
      let names = and_parts (bytes_eq id_s login.id_s) (same_suite suite login.suite) others.1 in
      let is_tagged : is_tagged_by login message ≡ true = of_not _ not_untagged in
      confirms login rand_p rand_s id_s suite pd mac refl is_read repeated
      (equal_octets _ _ nonces.0) (equal_octets _ _ others.0) (equal_octets _ _ names.0)
      (equal_suites _ _ names.1) is_tagged (equal_octets _ _ is_tagged)))

  protected_row : (code : ℕ) (mac : List ℕ)
      → read_of (Some (ks_of login.suite)) (body_of octets) ≡ Ok (protected_fail code mac)
      → GpskPeerRow (wait login) octets
      (peer.repeats_protected login (id_of octets) code (protected_fail code mac)
      (fault_if (not (is_tagged_by login (protected_fail code mac))) BadTag None))
  unfolding peer.repeats_protected
  protected_row code mac is_read =
      let message : Message = protected_fail code mac in
      cond_both (not (is_tagged_by login message)) _ _ (λ fault. GpskPeerRow (wait login) octets
      (peer.repeats_protected login (id_of octets) code message fault))
      (λ _. drops BadTag)
      (λ not_untagged.
      let is_tagged : is_tagged_by login message ≡ true = of_not _ not_untagged in
      repeats_protected login code mac refl is_read is_tagged (equal_octets _ _ is_tagged))

  wait_row : (read : Result Message Cause)
      → read_of (Some (ks_of login.suite)) (body_of octets) ≡ read
      → GpskPeerRow (wait login) octets (wait_reads login (id_of octets) read)
  wait_row (Err cause) is_read = drops cause
  wait_row (Ok (gpsk3 rand_p rand_s id_s suite pd mac)) is_read =
      gpsk3_row rand_p rand_s id_s suite pd mac is_read
  wait_row (Ok (fail code)) is_read = repeats_fail login code refl is_read
  wait_row (Ok (protected_fail code mac)) is_read = protected_row code mac is_read
  wait_row (Ok message) is_read = drops _

  over_row : (good : Bool) (read : Result Message Cause)
      → GpskPeerRow (over login good) octets (over_reads login good read)
  over_row good (Err cause) = drops cause
  over_row good (Ok message) = drops _

pub gpsk_peer_steps_are_rows : GpskPeerStepsAreRows
unfolding step
gpsk_peer_steps_are_rows unset octets = drops _
gpsk_peer_steps_are_rows (fresh cred nonce) octets =
    fresh_row cred nonce octets (read_of None (body_of octets)) refl
gpsk_peer_steps_are_rows (wait login) octets =
    wait_row login octets (read_of (Some (ks_of login.suite)) (body_of octets)) refl
gpsk_peer_steps_are_rows (over login good) octets =
    over_row login octets good (read_of (Some (ks_of login.suite)) (body_of octets))
