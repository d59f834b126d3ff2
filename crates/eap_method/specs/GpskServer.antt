-- The server of EAP-GPSK (RFC 5433 section 3): its state, and its turn for each Response.
use Rattle.std.specs.Prelude.{ℕ, List, [], ◌∷◌, Bool, true, false, ◌==◌, ◌&&◌, not, if◌then◌else◌}
use Rattle.std.specs.Prelude.{Option, Some, None, Result, Ok, Err}
use Rattle.std.specs.Str.{bytes_eq}
use Rattle.octet_lists.specs.declared.suite.Suite.{Suite}
use Rattle.login_setup.specs.declared.users.User.{User}
use Rattle.octet_lists.specs.Suite.{ks_of, suite_number}
use Rattle.octet_lists.specs.Among.{gpsk_kind, is_among}
use Rattle.login_setup.specs.Users.{user_of}
use Rattle.eap_packet.specs.declared.cause.Cause.{Cause}
use Rattle.eap_packet.specs.declared.cause.Cause.TheVariants.{WrongOp, FieldMismatch}
use Rattle.eap_packet.specs.declared.cause.Cause.TheVariants.{SuiteNotOffered, BadTag}
use Rattle.gpsk_messages.specs.Message.{Message, gpsk1, gpsk2, gpsk3, gpsk4, fail, protected_fail}
use Rattle.gpsk_messages.specs.Reading.{read_of}
use Rattle.login_keys.specs.Gpsk.{gpsk_keys_of}
use Rattle.login_keys.specs.declared.gpsk.GpskKeys.{GpskKeys}
use Rattle.eap_method.specs.declared.values.ServerSide.{ServerSide}
use Rattle.eap_method.specs.declared.values.Report.{Report}
use Rattle.eap_method.specs.GpskTags.{gpsk_request, message_with_mac, is_tagged, sk_record}
use Rattle.eap_method.specs.GpskTags.{suite_list}
use Rattle.eap_method.specs.Turns.{ServerOutcome, FirstOutcome, body_of, fault_if, dropped}
use Rattle.eap_method.specs.Turns.{requested, done}

-- what a server keeps of a login: its own side and RAND_Server, ID_Peer and the user's key,
-- RAND_Peer, CSuite_Sel
pub record Login : Type 0 where
  pub own : ServerSide
  pub nonce : List ℕ
  pub id_p : List ℕ
  pub psk : List ℕ
  pub rand_p : List ℕ
  pub suite : Suite

-- the state of a server: not begun; begun; after GPSK-1; after GPSK-Fail; after
-- GPSK-Protected-Fail; after GPSK-3; over without a user; over, with success or not
pub data View : Type 0 where
  unset : View
  begun : ServerSide → List ℕ → View
  asked : ServerSide → List ℕ → View
  refusing : ServerSide → List ℕ → View
  barring : Login → View
  checked : Login → View
  refused : ServerSide → List ℕ → View
  over : Login → Bool → View

-- Failure-Code: PSK Not Found, Authorization Failure (section 9.3)
abbrev pub psk_not_found : ℕ
psk_not_found = 1

abbrev pub authorization_failure : ℕ
authorization_failure = 3

-- GPSK-1 of a server
abbrev pub gpsk1_of : ServerSide → List ℕ → Message
gpsk1_of own nonce = gpsk1 own.id_s nonce (suite_list own.suites)

-- the first Request: GPSK-1
unfoldable pub first : ServerSide → List ℕ → ℕ → List ℕ
first own nonce id = gpsk_request id (gpsk1_of own nonce)

-- whether a server has begun and made no Request yet
abbrev pub is_initiated : View → Bool
is_initiated (begun own nonce) = true
is_initiated view = false

-- the first Request and the view after it; none if the server hasn't begun or has made one
unfoldable pub first_step : View → ℕ → FirstOutcome View
first_step (begun own nonce) id = record { packet = first own nonce id; after = asked own nonce }
first_step view id = record { packet = []; after = view }

-- the keys of a login
unfoldable pub keys_of : Login → GpskKeys
keys_of login =
    gpsk_keys_of login.suite login.psk login.rand_p login.id_p login.nonce login.own.id_s

-- whether a message has the MAC of the login
abbrev pub is_tagged_by : Login → Message → Bool
is_tagged_by login message = is_tagged login.suite (keys_of login).sk message

-- GPSK-3 and GPSK-Protected-Fail, with their MACs
abbrev pub gpsk3_of : Login → Message
gpsk3_of login = message_with_mac login.suite (keys_of login).sk
    (gpsk3 login.rand_p login.nonce login.own.id_s login.suite [] [])

abbrev pub bars_with : Login → Message
bars_with login =
    message_with_mac login.suite (keys_of login).sk (protected_fail authorization_failure [])

-- an unknown user is answered by GPSK-Fail, without a MAC
unfoldable pub refuses : ServerSide → List ℕ → ℕ → ServerOutcome View
refuses own nonce next_id =
    requested (refusing own nonce) (gpsk_request next_id (fail psk_not_found)) [] []

-- a barred user is answered by GPSK-Protected-Fail, under a MAC, any other by GPSK-3
unfoldable pub answers : Login → Bool → ℕ → Message → ServerOutcome View
answers login barred next_id message =
    if barred
    then requested (barring login) (gpsk_request next_id (bars_with login))
    (sk_record login.psk message ∷ []) (sk_record login.psk (bars_with login) ∷ [])
    else requested (checked login) (gpsk_request next_id (gpsk3_of login))
    (sk_record login.psk message ∷ []) (sk_record login.psk (gpsk3_of login) ∷ [])

-- GPSK-2 of a known user
abbrev pub checks : Login → Bool → ℕ → Message → ServerOutcome View
checks login barred next_id message =
    if is_tagged_by login message then answers login barred next_id message
    else dropped (asked login.own login.nonce) BadTag

abbrev pub finds : ServerSide → List ℕ → ℕ → List ℕ → List ℕ → Suite → Message → Option User
    → ServerOutcome View
finds own nonce next_id id_p rand_p suite message None = refuses own nonce next_id
finds own nonce next_id id_p rand_p suite message (Some user) =
    checks (record {
      own = own;
      nonce = nonce;
      id_p = id_p;
      psk = user.psk;
      rand_p = rand_p;
      suite = suite;
    }) user.barred next_id message

-- whether GPSK-2 repeats what the server sent in GPSK-1
abbrev pub repeats : ServerSide → List ℕ → List ℕ → List ℕ → List ℕ → Bool
repeats own nonce id_s rand_s list =
    bytes_eq id_s own.id_s && (bytes_eq rand_s nonce && bytes_eq list (suite_list own.suites))

abbrev pub receives_gpsk2 : List User → ServerSide → List ℕ → ℕ → List ℕ → List ℕ → Suite → Message
    → Option Cause → ServerOutcome View
receives_gpsk2 users own nonce next_id id_p rand_p suite message (Some cause) =
    dropped (asked own nonce) cause
receives_gpsk2 users own nonce next_id id_p rand_p suite message None =
    finds own nonce next_id id_p rand_p suite message (user_of users id_p gpsk_kind)

-- a server that has sent GPSK-1
abbrev pub asked_receives : List User → ServerSide → List ℕ → ℕ → Message → ServerOutcome View
asked_receives users own nonce next_id (gpsk2 id_p id_s rand_p rand_s list suite pd mac) =
    receives_gpsk2 users own nonce next_id id_p rand_p suite
    (gpsk2 id_p id_s rand_p rand_s list suite pd mac)
    (fault_if (not (repeats own nonce id_s rand_s list)) FieldMismatch
    (fault_if (not (is_among own.suites (suite_number suite))) SuiteNotOffered None))
asked_receives users own nonce next_id message = dropped (asked own nonce) WrongOp

abbrev pub asked_reads : List User → ServerSide → List ℕ → ℕ → Result Message Cause
    → ServerOutcome View
asked_reads users own nonce next_id (Err cause) = dropped (asked own nonce) cause
asked_reads users own nonce next_id (Ok message) = asked_receives users own nonce next_id message

-- a server that has sent GPSK-Fail
abbrev pub refusing_receives : ServerSide → List ℕ → Message → ServerOutcome View
refusing_receives own nonce (fail code) =
    if code == psk_not_found then done (refused own nonce) false []
    else dropped (refusing own nonce) FieldMismatch
refusing_receives own nonce message = dropped (refusing own nonce) WrongOp

abbrev pub refusing_reads : ServerSide → List ℕ → Result Message Cause → ServerOutcome View
refusing_reads own nonce (Err cause) = dropped (refusing own nonce) cause
refusing_reads own nonce (Ok message) = refusing_receives own nonce message

-- the end of a login whose last message has no fault
unfoldable pub ends : View → Login → Bool → Message → Option Cause → ServerOutcome View
ends view login success message (Some cause) = dropped view cause
ends view login success message None =
    done (over login success) success (sk_record login.psk message ∷ [])

-- a server that has sent GPSK-Protected-Fail
abbrev pub barring_receives : Login → Message → ServerOutcome View
barring_receives login (protected_fail code mac) =
    let message = protected_fail code mac in
    ends (barring login) login false message
    (fault_if (not (code == authorization_failure)) FieldMismatch
    (fault_if (not (is_tagged_by login message)) BadTag None))
barring_receives login message = dropped (barring login) WrongOp

abbrev pub barring_reads : Login → Result Message Cause → ServerOutcome View
barring_reads login (Err cause) = dropped (barring login) cause
barring_reads login (Ok message) = barring_receives login message

-- a server that has sent GPSK-3
abbrev pub checked_receives : Login → Message → ServerOutcome View
checked_receives login (gpsk4 pd mac) =
    let message = gpsk4 pd mac in
    ends (checked login) login true message
    (fault_if (not (is_tagged_by login message)) BadTag None)
checked_receives login message = dropped (checked login) WrongOp

abbrev pub checked_reads : Login → Result Message Cause → ServerOutcome View
checked_reads login (Err cause) = dropped (checked login) cause
checked_reads login (Ok message) = checked_receives login message

-- a server that awaits nothing
abbrev pub idle_reads : View → Result Message Cause → ServerOutcome View
idle_reads view (Err cause) = dropped view cause
idle_reads view (Ok message) = dropped view WrongOp

-- the turn for a Response of Type 51 with nothing past its Length
unfoldable pub step : List User → ℕ → View → List ℕ → ServerOutcome View
step users next_id unset octets = dropped unset WrongOp
step users next_id (begun own nonce) octets =
    idle_reads (begun own nonce) (read_of None (body_of octets))
step users next_id (asked own nonce) octets =
    asked_reads users own nonce next_id (read_of None (body_of octets))
step users next_id (refusing own nonce) octets =
    refusing_reads own nonce (read_of None (body_of octets))
step users next_id (barring login) octets =
    barring_reads login (read_of (Some (ks_of login.suite)) (body_of octets))
step users next_id (checked login) octets =
    checked_reads login (read_of (Some (ks_of login.suite)) (body_of octets))
step users next_id (refused own nonce) octets =
    idle_reads (refused own nonce) (read_of None (body_of octets))
step users next_id (over login good) octets =
    idle_reads (over login good) (read_of (Some (ks_of login.suite)) (body_of octets))

-- the report of a login that has succeeded
unfoldable pub report_of : Login → Report
report_of login = record {
  method = gpsk_kind;
  id_p = login.id_p;
  id_s = login.own.id_s;
  suite = suite_number login.suite;
  msk = (keys_of login).msk;
  emsk = (keys_of login).emsk;
}

-- the report of a view
abbrev pub report : View → Option Report
report (over login good) = if good then Some (report_of login) else None
report view = None
