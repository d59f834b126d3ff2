-- The turns of a server of EAP-PSK, by cases.
use Rattle.std.proofs.Common.{◌≡◌, ℕ, List, [], ◌∷◌, Bool, true, false, Option, Some, None, Result}
use Rattle.std.proofs.Common.{Ok, Err, refl, ap, sym, ◌∙◌}
use Rattle.std.specs.Prelude.{not, ◌&&◌, ◌==◌}
use Rattle.std.specs.Str.{bytes_eq}
use Rattle.std.proofs.lemmas.Bool.{cond_both, and_parts, eqb-true, eq-eqb}
use Rattle.login_setup.specs.declared.users.User.{User}
use Rattle.octet_lists.specs.Among.{psk_kind}
use Rattle.login_setup.specs.Users.{user_of}
use Rattle.eap_packet.specs.declared.cause.Cause.{Cause}
use Rattle.eap_packet.specs.declared.cause.Cause.TheVariants.{FieldMismatch, BadNonce, BadTag}
use Rattle.eap_packet.specs.declared.cause.Cause.TheVariants.{BadResult, Extended}
use Rattle.psk_messages.specs.Message.{Message, psk2, psk4}
use Rattle.psk_messages.specs.Reading.{read_of}
use Rattle.eap_method.specs.declared.values.ServerSide.{ServerSide}
use Rattle.eap_method.specs.PskTags.{header_of, is_sealed, tek_record, result_of, is_extended}
use Rattle.eap_method.specs.PskTags.{done_success, rand_of}
use Rattle.eap_method.specs.Turns.{body_of, done}
use Rattle.eap_method.specs.PskServer.{Login, View, unset, begun, asked, checked, refused, over}
use Rattle.eap_method.specs.PskServer.{keys_of, rand_s_of, mac_p_of, finds, asked_reads, psk4_fault}
use Rattle.eap_method.specs.PskServer.{both_succeed, checked_reads, idle_reads, step}
use Rattle.eap_method.specs.PskServer as server
use Rattle.method_laws.specs.PskServerRows.{PskServerRow, drops, refuses, answers, ends_success}
use Rattle.method_laws.specs.PskServerRows.{ends_failure, login_from, opened_by}
use Rattle.method_laws.specs.PskServerRows.{PskServerStepsAreRows}
use Rattle.method_laws.proofs.Tests.{of_not, equal_octets, equal_tags, failure_left}

-- where one side sent DONE_SUCCESS and not both did, the other didn't
other_failed : (one other : ℕ) → ((one == done_success) && (other == done_success)) ≡ false
    → one ≡ done_success → (other == done_success) ≡ false
other_failed one other not_both is_success =
    ap (λ test. test && (other == done_success)) (sym (eq-eqb one done_success is_success))
    ∙ not_both

module _ (users : List User) (next_id : ℕ) (octets : List ℕ) where
  module _ (own : ServerSide) (nonce : List ℕ) where
    finds_row : (rand_s rand_p mac id_p : List ℕ)
        → read_of (body_of octets) ≡ Ok (psk2 rand_s rand_p mac id_p) → rand_s ≡ rand_of nonce
        → (found : Option User) → user_of users id_p psk_kind ≡ found
        → PskServerRow users next_id (asked own nonce) octets
        (finds own nonce next_id rand_p mac id_p found)
    unfolding server.answers
    finds_row rand_s rand_p mac id_p is_read setup_with_nonce None unknown =
        refuses own nonce rand_s rand_p mac id_p refl is_read setup_with_nonce unknown
    finds_row rand_s rand_p mac id_p is_read setup_with_nonce (Some user) known =
        cond_both (bytes_eq (mac_p_of (login_from own nonce id_p user rand_p)) mac) _ _
        (PskServerRow users next_id (asked own nonce) octets)
        (λ has_mac. answers own nonce rand_s rand_p mac id_p user refl is_read setup_with_nonce
        known (equal_octets _ _ has_mac)) (λ _. drops BadTag)

    asked_row : (read : Result Message Cause) → read_of (body_of octets) ≡ read
        → PskServerRow users next_id (asked own nonce) octets
        (asked_reads users own nonce next_id read)
    asked_row (Err cause) is_read = drops cause
    asked_row (Ok (psk2 rand_s rand_p mac id_p)) is_read =
        cond_both (bytes_eq rand_s (rand_of nonce)) _ _
        (PskServerRow users next_id (asked own nonce) octets)
        (λ same. finds_row rand_s rand_p mac id_p is_read (equal_octets _ _ same)
        (user_of users id_p psk_kind) refl) (λ _. drops FieldMismatch)
    asked_row (Ok message) is_read = drops _

  module _ (login : Login) where
    module _ (rand_s : List ℕ) (nonce : ℕ) (tag : List ℕ) (sealed : ℕ)
        (is_read : read_of (body_of octets) ≡ Ok (psk4 rand_s nonce tag sealed)) where
      -- by the flag that both succeeded
      flagged_row : rand_s ≡ rand_s_of login → nonce ≡ 1
          → is_sealed (keys_of login).tek 1 (header_of octets) sealed tag ≡ true
          → (result_of (opened_by login sealed) == 0) ≡ false
          → is_extended (opened_by login sealed) ≡ false
          → (good : Bool) → both_succeed login (result_of (opened_by login sealed)) ≡ good
          → PskServerRow users next_id (checked login) octets
          (done (over login good) good (tek_record login.psk 1 (header_of octets) sealed tag ∷ []))
      flagged_row setup_with_nonce is_second has_seal has_result is_plain true both =
          let sides = and_parts (login.r == done_success)
          (result_of (opened_by login sealed) == done_success) both in
          ends_success login rand_s nonce tag sealed refl is_read setup_with_nonce is_second
          has_seal (equal_tags _ _ _ _ _ has_seal) is_plain both
          (eqb-true _ _ sides.0) (eqb-true _ _ sides.1)
      flagged_row setup_with_nonce is_second has_seal has_result is_plain false not_both =
          ends_failure login rand_s nonce tag sealed refl is_read setup_with_nonce is_second
          has_seal (equal_tags _ _ _ _ _ has_seal) is_plain has_result not_both
          (λ own_success. failure_left _ has_result is_plain
          (other_failed _ _ not_both own_success))

      psk4_row : PskServerRow users next_id (checked login) octets
          (server.ends login (result_of (opened_by login sealed))
          (tek_record login.psk 1 (header_of octets) sealed tag ∷ [])
          (psk4_fault login (header_of octets) rand_s nonce tag sealed))
      unfolding server.ends
      psk4_row =
          let row : Option Cause
          → Type 0 = λ fault. PskServerRow users next_id (checked login) octets
          (server.ends login (result_of (opened_by login sealed))
          (tek_record login.psk 1 (header_of octets) sealed tag ∷ []) fault) in
          cond_both (not (bytes_eq rand_s (rand_s_of login))) _ _ row
          (λ _. drops FieldMismatch)
          (λ same. cond_both (not (nonce == 1)) _ _ row
          (λ _. drops BadNonce)
          (λ second.
          cond_both (not (is_sealed (keys_of login).tek 1 (header_of octets) sealed tag)) _ _ row
          (λ _. drops BadTag)
          (λ right. cond_both (result_of (opened_by login sealed) == 0) _ _ row
          (λ _. drops BadResult)
          (λ has_result. cond_both (is_extended (opened_by login sealed)) _ _ row
          (λ _. drops Extended)
          (λ is_plain. flagged_row (equal_octets _ _ (of_not _ same))
          (eqb-true _ _ (of_not _ second)) (of_not _ right) has_result is_plain
          (both_succeed login (result_of (opened_by login sealed))) refl)))))

    checked_row : (read : Result Message Cause) → read_of (body_of octets) ≡ read
        → PskServerRow users next_id (checked login) octets
        (checked_reads login (header_of octets) read)
    checked_row (Err cause) is_read = drops cause
    checked_row (Ok (psk4 rand_s nonce tag sealed)) is_read =
        psk4_row rand_s nonce tag sealed is_read
    checked_row (Ok message) is_read = drops _

  idle_row : (view : View) (read : Result Message Cause)
      → PskServerRow users next_id view octets (idle_reads view read)
  idle_row view (Err cause) = drops cause
  idle_row view (Ok message) = drops _

pub psk_server_steps_are_rows : PskServerStepsAreRows
unfolding step
psk_server_steps_are_rows users next_id unset octets = drops _
psk_server_steps_are_rows users next_id (begun own nonce) octets =
    idle_row users next_id octets _ (read_of (body_of octets))
psk_server_steps_are_rows users next_id (asked own nonce) octets =
    asked_row users next_id octets own nonce (read_of (body_of octets)) refl
psk_server_steps_are_rows users next_id (checked login) octets =
    checked_row users next_id octets login (read_of (body_of octets)) refl
psk_server_steps_are_rows users next_id (refused own nonce) octets =
    idle_row users next_id octets _ (read_of (body_of octets))
psk_server_steps_are_rows users next_id (over login good) octets =
    idle_row users next_id octets _ (read_of (body_of octets))
