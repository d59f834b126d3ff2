-- The peer of EAP-GPSK (RFC 5433 section 3): its state, and its turn for each Request.
use Rattle.std.specs.Prelude.{ℕ, List, [], ◌∷◌, Bool, true, false, ◌&&◌, not, if◌then◌else◌, Option}
use Rattle.std.specs.Prelude.{Some, None, Result, Ok, Err}
use Rattle.std.specs.Str.{bytes_eq}
use Rattle.octet_lists.specs.declared.suite.Suite.{Suite}
use Rattle.octet_lists.specs.Suite.{ks_of, suite_number}
use Rattle.octet_lists.specs.Among.{gpsk_kind}
use Rattle.login_setup.specs.Setup.{accepts_name}
use Rattle.eap_packet.specs.declared.cause.Cause.{Cause}
use Rattle.eap_packet.specs.declared.cause.Cause.TheVariants.{WrongOp, UnknownServer, NoSuite}
use Rattle.eap_packet.specs.declared.cause.Cause.TheVariants.{FieldMismatch, BadTag}
use Rattle.gpsk_messages.specs.Message.{Message, gpsk1, gpsk2, gpsk3, gpsk4, fail, protected_fail}
use Rattle.gpsk_messages.specs.Reading.{read_of}
use Rattle.login_keys.specs.Gpsk.{gpsk_keys_of}
use Rattle.login_keys.specs.declared.gpsk.GpskKeys.{GpskKeys}
use Rattle.login_policy.specs.Policy.{picked_suite}
use Rattle.eap_method.specs.declared.values.Credential.{Credential}
use Rattle.eap_method.specs.declared.values.Report.{Report}
use Rattle.eap_method.specs.declared.values.MethodState.TheVariants.{Cont, MayCont, Done}
use Rattle.eap_method.specs.declared.values.Decision.TheVariants.{Fail, CondSucc}
use Rattle.eap_method.specs.GpskTags.{gpsk_response, message_with_mac, is_tagged, sk_record}
use Rattle.eap_method.specs.GpskTags.{same_suite}
use Rattle.eap_method.specs.Turns.{PeerOutcome, id_of, body_of, fault_if, discarded, replied}

-- what a peer keeps of a login: its credential and RAND_Peer, ID_Server, RAND_Server, CSuite_Sel
pub record Login : Type 0 where
  pub cred : Credential
  pub nonce : List ℕ
  pub id_s : List ℕ
  pub rand_s : List ℕ
  pub suite : Suite

-- the state of a peer: not begun; begun; after GPSK-2; over, with success or not
pub data View : Type 0 where
  unset : View
  fresh : Credential → List ℕ → View
  wait : Login → View
  over : Login → Bool → View

-- the keys of a login
unfoldable pub keys_of : Login → GpskKeys
keys_of login =
    gpsk_keys_of login.suite login.cred.psk login.nonce login.cred.id_p login.rand_s login.id_s

-- GPSK-2, the peer's first message, without its MAC and with it
abbrev pub open_gpsk2 : Login → List ℕ → Message
open_gpsk2 login list =
    gpsk2 login.cred.id_p login.id_s login.nonce login.rand_s list login.suite [] []

abbrev pub gpsk2_of : Login → List ℕ → Message
gpsk2_of login list = message_with_mac login.suite (keys_of login).sk (open_gpsk2 login list)

-- GPSK-1 is answered by GPSK-2, and the login begins
unfoldable pub answers : Login → ℕ → List ℕ → PeerOutcome View
answers login id list =
    replied (wait login) (gpsk_response id (gpsk2_of login list)) Cont Fail []
    (sk_record login.cred.psk (gpsk2_of login list) ∷ [])

abbrev pub picks : Credential → List ℕ → ℕ → List ℕ → List ℕ → List ℕ → Option Suite
    → PeerOutcome View
picks cred nonce id id_s rand_s list None = discarded (fresh cred nonce) NoSuite
picks cred nonce id id_s rand_s list (Some suite) =
    answers (record { cred = cred; nonce = nonce; id_s = id_s; rand_s = rand_s; suite = suite })
    id list

abbrev pub receives_gpsk1 : Credential → List ℕ → ℕ → List ℕ → List ℕ → List ℕ → PeerOutcome View
receives_gpsk1 cred nonce id id_s rand_s list =
    if accepts_name cred.accepts id_s
    then picks cred nonce id id_s rand_s list (picked_suite cred.suites list)
    else discarded (fresh cred nonce) UnknownServer

-- a peer that has begun
abbrev pub fresh_receives : Credential → List ℕ → ℕ → Message → PeerOutcome View
fresh_receives cred nonce id (gpsk1 id_s rand_s list) =
    receives_gpsk1 cred nonce id id_s rand_s list
fresh_receives cred nonce id message = discarded (fresh cred nonce) WrongOp

abbrev pub fresh_reads : Credential → List ℕ → ℕ → Result Message Cause → PeerOutcome View
fresh_reads cred nonce id (Err cause) = discarded (fresh cred nonce) cause
fresh_reads cred nonce id (Ok message) = fresh_receives cred nonce id message

-- whether GPSK-3 repeats the fields of the login
abbrev pub repeats : Login → List ℕ → List ℕ → List ℕ → Suite → Bool
repeats login rand_p rand_s id_s suite =
    bytes_eq rand_p login.nonce
    && (bytes_eq rand_s login.rand_s && (bytes_eq id_s login.id_s && same_suite suite login.suite))

-- GPSK-4, with its MAC
abbrev pub gpsk4_of : Login → Message
gpsk4_of login = message_with_mac login.suite (keys_of login).sk (gpsk4 [] [])

-- GPSK-3 without a fault is answered by GPSK-4, and the login has succeeded
unfoldable pub confirms : Login → ℕ → Message → Option Cause → PeerOutcome View
confirms login id message (Some cause) = discarded (wait login) cause
confirms login id message None =
    replied (over login true) (gpsk_response id (gpsk4_of login)) Done CondSucc
    (sk_record login.cred.psk message ∷ []) (sk_record login.cred.psk (gpsk4_of login) ∷ [])

-- GPSK-Fail is answered by itself (section 10)
abbrev pub repeats_fail : Login → ℕ → ℕ → PeerOutcome View
repeats_fail login id code =
    replied (over login false) (gpsk_response id (fail code)) MayCont Fail [] []

-- GPSK-Protected-Fail, with its MAC
abbrev pub protected_fail_of : Login → ℕ → Message
protected_fail_of login code =
    message_with_mac login.suite (keys_of login).sk (protected_fail code [])

-- GPSK-Protected-Fail is answered by one with the same code
unfoldable pub repeats_protected : Login → ℕ → ℕ → Message → Option Cause → PeerOutcome View
repeats_protected login id code message (Some cause) = discarded (wait login) cause
repeats_protected login id code message None =
    replied (over login false) (gpsk_response id (protected_fail_of login code)) MayCont Fail
    (sk_record login.cred.psk message ∷ [])
    (sk_record login.cred.psk (protected_fail_of login code) ∷ [])

-- whether a message has the MAC of the login
abbrev pub is_tagged_by : Login → Message → Bool
is_tagged_by login message = is_tagged login.suite (keys_of login).sk message

-- a peer that has sent GPSK-2
abbrev pub wait_receives : Login → ℕ → Message → PeerOutcome View
wait_receives login id (gpsk3 rand_p rand_s id_s suite pd mac) =
    let message = gpsk3 rand_p rand_s id_s suite pd mac in
    confirms login id message
    (fault_if (not (repeats login rand_p rand_s id_s suite)) FieldMismatch
    (fault_if (not (is_tagged_by login message)) BadTag None))
wait_receives login id (fail code) = repeats_fail login id code
wait_receives login id (protected_fail code mac) =
    let message = protected_fail code mac in
    repeats_protected login id code message
    (fault_if (not (is_tagged_by login message)) BadTag None)
wait_receives login id message = discarded (wait login) WrongOp

abbrev pub wait_reads : Login → ℕ → Result Message Cause → PeerOutcome View
wait_reads login id (Err cause) = discarded (wait login) cause
wait_reads login id (Ok message) = wait_receives login id message

-- a peer whose login is over accepts nothing
abbrev pub over_reads : Login → Bool → Result Message Cause → PeerOutcome View
over_reads login good (Err cause) = discarded (over login good) cause
over_reads login good (Ok message) = discarded (over login good) WrongOp

-- the turn for a Request of Type 51 with nothing past its Length
unfoldable pub step : View → List ℕ → PeerOutcome View
step unset octets = discarded unset WrongOp
step (fresh cred nonce) octets =
    fresh_reads cred nonce (id_of octets) (read_of None (body_of octets))
step (wait login) octets =
    wait_reads login (id_of octets) (read_of (Some (ks_of login.suite)) (body_of octets))
step (over login good) octets =
    over_reads login good (read_of (Some (ks_of login.suite)) (body_of octets))

-- the report of a login that has succeeded
unfoldable pub report_of : Login → Report
report_of login = record {
  method = gpsk_kind;
  id_p = login.cred.id_p;
  id_s = login.id_s;
  suite = suite_number login.suite;
  msk = (keys_of login).msk;
  emsk = (keys_of login).emsk;
}

-- the report of a view
abbrev pub report : View → Option Report
report unset = None
report (fresh cred nonce) = None
report (wait login) = None
report (over login good) = if good then Some (report_of login) else None
