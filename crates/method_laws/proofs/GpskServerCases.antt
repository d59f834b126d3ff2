-- The turns of a server of EAP-GPSK, by cases.
use Rattle.std.proofs.Common.{◌≡◌, ℕ, List, true, false, Option, Some, None, Result, Ok, Err, refl}
use Rattle.std.specs.Prelude.{not, ◌==◌}
use Rattle.std.specs.Str.{bytes_eq}
use Rattle.std.proofs.lemmas.Bool.{cond_both, and_parts, eqb-true}
use Rattle.octet_lists.specs.declared.suite.Suite.{Suite}
use Rattle.login_setup.specs.declared.users.User.{User}
use Rattle.octet_lists.specs.Suite.{ks_of, suite_number}
use Rattle.octet_lists.specs.Among.{gpsk_kind, is_among}
use Rattle.login_setup.specs.Users.{user_of}
use Rattle.eap_packet.specs.declared.cause.Cause.{Cause}
use Rattle.eap_packet.specs.declared.cause.Cause.TheVariants.{FieldMismatch, SuiteNotOffered}
use Rattle.eap_packet.specs.declared.cause.Cause.TheVariants.{BadTag}
use Rattle.gpsk_messages.specs.Message.{Message, gpsk2, gpsk4, fail, protected_fail}
use Rattle.gpsk_messages.specs.Reading.{read_of}
use Rattle.eap_method.specs.declared.values.ServerSide.{ServerSide}
use Rattle.eap_method.specs.GpskTags.{suite_list}
use Rattle.eap_method.specs.Turns.{body_of, fault_if}
use Rattle.eap_method.specs.GpskServer.{Login, View, unset, begun, asked, refusing, barring}
use Rattle.eap_method.specs.GpskServer.{checked, refused, over, psk_not_found}
use Rattle.eap_method.specs.GpskServer.{authorization_failure, finds, receives_gpsk2, asked_reads}
use Rattle.eap_method.specs.GpskServer.{refusing_reads, barring_reads, checked_reads, idle_reads}
use Rattle.eap_method.specs.GpskServer.{repeats, is_tagged_by, step}
use Rattle.eap_method.specs.GpskServer as server
use Rattle.method_laws.specs.GpskServerRows.{GpskServerRow, drops, refuses, bars, checks}
use Rattle.method_laws.specs.GpskServerRows.{ends_refusing, ends_barring, ends_checked, login_from}
use Rattle.method_laws.specs.GpskServerRows.{GpskServerStepsAreRows}
use Rattle.method_laws.proofs.Tests.{of_not, equal_octets}

module _ (users : List User) (next_id : ℕ) (octets : List ℕ) where
  module _ (own : ServerSide) (nonce id_p id_s rand_p rand_s list : List ℕ) (suite : Suite)
      (pd mac : List ℕ) (is_read : read_of None (body_of octets)
      ≡ Ok (gpsk2 id_p id_s rand_p rand_s list suite pd mac)) where
    known_row : repeats own nonce id_s rand_s list ≡ true → id_s ≡ own.id_s → rand_s ≡ nonce
        → list ≡ suite_list own.suites
        → is_among own.suites (suite_number suite) ≡ true
        → (user : User) → user_of users id_p gpsk_kind ≡ Some user
        → GpskServerRow users next_id (asked own nonce) octets
        (server.checks (login_from own nonce id_p user rand_p suite) user.barred next_id
        (gpsk2 id_p id_s rand_p rand_s list suite pd mac))
    unfolding server.answers
    known_row repeated own_name setup_with_nonce own_list offered user known =
        let message : Message = gpsk2 id_p id_s rand_p rand_s list suite pd mac in
        let login : Login = login_from own nonce id_p user rand_p suite in
        cond_both (is_tagged_by login message) _ _
        (GpskServerRow users next_id (asked own nonce) octets)
        (λ is_tagged. cond_both user.barred _ _
        (GpskServerRow users next_id (asked own nonce) octets)
        (λ is_barred.
        bars own nonce id_p id_s rand_p rand_s list suite pd mac user refl is_read repeated own_name
        setup_with_nonce own_list offered known is_barred
        is_tagged (equal_octets _ _ is_tagged))
        (λ not_barred.
        checks own nonce id_p id_s rand_p rand_s list suite pd mac user refl is_read repeated
        own_name setup_with_nonce own_list offered known not_barred
        is_tagged (equal_octets _ _ is_tagged)))
        (λ _. drops BadTag)

    finds_row : repeats own nonce id_s rand_s list ≡ true → id_s ≡ own.id_s → rand_s ≡ nonce
        → list ≡ suite_list own.suites
        → is_among own.suites (suite_number suite) ≡ true
        → (found : Option User) → user_of users id_p gpsk_kind ≡ found
        → GpskServerRow users next_id (asked own nonce) octets
        (finds own nonce next_id id_p rand_p suite
        (gpsk2 id_p id_s rand_p rand_s list suite pd mac) found)
    unfolding server.refuses
    finds_row repeated own_name setup_with_nonce own_list offered None unknown =
        refuses own nonce id_p id_s rand_p rand_s list suite pd mac refl is_read repeated own_name
        setup_with_nonce own_list offered unknown
    finds_row repeated own_name setup_with_nonce own_list offered (Some user) known =
        known_row repeated own_name setup_with_nonce own_list offered user known

    gpsk2_row : GpskServerRow users next_id (asked own nonce) octets
        (receives_gpsk2 users own nonce next_id id_p rand_p suite
        (gpsk2 id_p id_s rand_p rand_s list suite pd mac)
        (fault_if (not (repeats own nonce id_s rand_s list)) FieldMismatch
        (fault_if (not (is_among own.suites (suite_number suite))) SuiteNotOffered None)))
    gpsk2_row =
        let message : Message = gpsk2 id_p id_s rand_p rand_s list suite pd mac in
        cond_both (not (repeats own nonce id_s rand_s list)) _ _
        (λ fault. GpskServerRow users next_id (asked own nonce) octets
        (receives_gpsk2 users own nonce next_id id_p rand_p suite message fault))
        (λ _. drops FieldMismatch)
        (λ not_other. cond_both (not (is_among own.suites (suite_number suite))) _ _
        (λ fault. GpskServerRow users next_id (asked own nonce) octets
        (receives_gpsk2 users own nonce next_id id_p rand_p suite message fault))
        (λ _. drops SuiteNotOffered)
        (λ not_absent.
        let repeated : repeats own nonce id_s rand_s list ≡ true = of_not _ not_other in
        let names = and_parts (bytes_eq id_s own.id_s) _ repeated in
        let others =
        and_parts (bytes_eq rand_s nonce) (bytes_eq list (suite_list own.suites)) names.1 in
        finds_row repeated (equal_octets _ _ names.0) (equal_octets _ _ others.0)
        (equal_octets _ _ others.1) (of_not _ not_absent)
        (user_of users id_p gpsk_kind) refl))

  module _ (own : ServerSide) (nonce : List ℕ) where
    asked_row : (read : Result Message Cause) → read_of None (body_of octets) ≡ read
        → GpskServerRow users next_id (asked own nonce) octets
        (asked_reads users own nonce next_id read)
    asked_row (Err cause) is_read = drops cause
    asked_row (Ok (gpsk2 id_p id_s rand_p rand_s list suite pd mac)) is_read =
        gpsk2_row own nonce id_p id_s rand_p rand_s list suite pd mac is_read
    asked_row (Ok message) is_read = drops _

    refusing_row : (read : Result Message Cause) → read_of None (body_of octets) ≡ read
        → GpskServerRow users next_id (refusing own nonce) octets (refusing_reads own nonce read)
    refusing_row (Err cause) is_read = drops cause
    refusing_row (Ok (fail code)) is_read =
        cond_both (code == psk_not_found) _ _
        (GpskServerRow users next_id (refusing own nonce) octets)
        (λ is_own. ends_refusing own nonce code refl is_read (eqb-true code psk_not_found is_own))
        (λ _. drops FieldMismatch)
    refusing_row (Ok message) is_read = drops _

  module _ (login : Login) where
    protected_row : (code : ℕ) (mac : List ℕ)
        → read_of (Some (ks_of login.suite)) (body_of octets) ≡ Ok (protected_fail code mac)
        → GpskServerRow users next_id (barring login) octets
        (server.ends (barring login) login false (protected_fail code mac)
        (fault_if (not (code == authorization_failure)) FieldMismatch
        (fault_if (not (is_tagged_by login (protected_fail code mac))) BadTag None)))
    unfolding server.ends
    protected_row code mac is_read =
        let message : Message = protected_fail code mac in
        cond_both (not (code == authorization_failure)) _ _
        (λ fault. GpskServerRow users next_id (barring login) octets
        (server.ends (barring login) login false message fault))
        (λ _. drops FieldMismatch)
        (λ not_other. cond_both (not (is_tagged_by login message)) _ _
        (λ fault. GpskServerRow users next_id (barring login) octets
        (server.ends (barring login) login false message fault))
        (λ _. drops BadTag)
        (λ not_untagged.
        let is_tagged : is_tagged_by login message ≡ true = of_not _ not_untagged in
        ends_barring login code mac refl is_read (eqb-true code authorization_failure
        (of_not _ not_other)) is_tagged (equal_octets _ _ is_tagged)))

    barring_row : (read : Result Message Cause)
        → read_of (Some (ks_of login.suite)) (body_of octets) ≡ read
        → GpskServerRow users next_id (barring login) octets (barring_reads login read)
    barring_row (Err cause) is_read = drops cause
    barring_row (Ok (protected_fail code mac)) is_read = protected_row code mac is_read
    barring_row (Ok message) is_read = drops _

    gpsk4_row : (pd mac : List ℕ)
        → read_of (Some (ks_of login.suite)) (body_of octets) ≡ Ok (gpsk4 pd mac)
        → GpskServerRow users next_id (checked login) octets
        (server.ends (checked login) login true (gpsk4 pd mac)
        (fault_if (not (is_tagged_by login (gpsk4 pd mac))) BadTag None))
    unfolding server.ends
    gpsk4_row pd mac is_read =
        let message : Message = gpsk4 pd mac in
        cond_both (not (is_tagged_by login message)) _ _
        (λ fault. GpskServerRow users next_id (checked login) octets
        (server.ends (checked login) login true message fault))
        (λ _. drops BadTag)
        (λ not_untagged.
        let is_tagged : is_tagged_by login message ≡ true = of_not _ not_untagged in
        ends_checked login pd mac refl is_read is_tagged (equal_octets _ _ is_tagged))

    checked_row : (read : Result Message Cause)
        → read_of (Some (ks_of login.suite)) (body_of octets) ≡ read
        → GpskServerRow users next_id (checked login) octets (checked_reads login read)
    checked_row (Err cause) is_read = drops cause
    checked_row (Ok (gpsk4 pd mac)) is_read = gpsk4_row pd mac is_read
    checked_row (Ok message) is_read = drops _

  idle_row : (view : View) (read : Result Message Cause)
      → GpskServerRow users next_id view octets (idle_reads view read)
  idle_row view (Err cause) = drops cause
  idle_row view (Ok message) = drops _

pub gpsk_server_steps_are_rows : GpskServerStepsAreRows
unfolding step
gpsk_server_steps_are_rows users next_id unset octets = drops _
gpsk_server_steps_are_rows users next_id (begun own nonce) octets =
    idle_row users next_id octets _ (read_of None (body_of octets))
gpsk_server_steps_are_rows users next_id (asked own nonce) octets =
    asked_row users next_id octets own nonce (read_of None (body_of octets)) refl
gpsk_server_steps_are_rows users next_id (refusing own nonce) octets =
    refusing_row users next_id octets own nonce (read_of None (body_of octets)) refl
gpsk_server_steps_are_rows users next_id (barring login) octets = barring_row users next_id octets
    login (read_of (Some (ks_of login.suite)) (body_of octets)) refl
gpsk_server_steps_are_rows users next_id (checked login) octets = checked_row users next_id octets
    login (read_of (Some (ks_of login.suite)) (body_of octets)) refl
gpsk_server_steps_are_rows users next_id (refused own nonce) octets =
    idle_row users next_id octets _ (read_of None (body_of octets))
gpsk_server_steps_are_rows users next_id (over login good) octets =
    idle_row users next_id octets _ (read_of (Some (ks_of login.suite)) (body_of octets))
