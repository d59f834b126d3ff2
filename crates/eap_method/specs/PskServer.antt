-- The server of EAP-PSK (RFC 4764 section 4): its state, and its turn for each Response.
use Rattle.std.specs.Prelude.{ℕ, List, [], ◌∷◌, Bool, true, false, ◌==◌, ◌&&◌, not, if◌then◌else◌}
use Rattle.std.specs.Prelude.{Option, Some, None, slice_index, Result, Ok, Err}
use Rattle.std.specs.Str.{bytes_eq}
use Rattle.login_setup.specs.declared.users.User.{User}
use Rattle.octet_lists.specs.Among.{psk_kind}
use Rattle.login_setup.specs.Users.{user_of}
use Rattle.eap_packet.specs.declared.cause.Cause.{Cause}
use Rattle.eap_packet.specs.declared.cause.Cause.TheVariants.{WrongOp, FieldMismatch, BadNonce}
use Rattle.eap_packet.specs.declared.cause.Cause.TheVariants.{BadTag}
use Rattle.psk_messages.specs.Message.{Message, psk1, psk2, psk3, psk4}
use Rattle.psk_messages.specs.Reading.{read_of}
use Rattle.cmac_mac.specs.Cmac.{aes_cmac}
use Rattle.eax_mode.specs.Eax.{Sealed}
use Rattle.login_keys.specs.Psk.{psk_long_of, psk_keys_of}
use Rattle.login_keys.specs.declared.psk.PskKeys.{PskKeys}
use Rattle.eap_method.specs.declared.values.ServerSide.{ServerSide}
use Rattle.eap_method.specs.declared.tags.TagRecord.{TagRecord}
use Rattle.eap_method.specs.declared.values.Report.{Report}
use Rattle.eap_method.specs.PskTags.{psk_request, mac_p_octets, mac_s_octets, ak_record, tek_record}
use Rattle.eap_method.specs.PskTags.{header_of, sealed_result, is_sealed, hidden_octet}
use Rattle.eap_method.specs.PskTags.{result_fault, result_of, done_success, done_failure, blank_tag}
use Rattle.eap_method.specs.PskTags.{rand_of}
use Rattle.eap_method.specs.Turns.{ServerOutcome, FirstOutcome, body_of, fault_if, dropped}
use Rattle.eap_method.specs.Turns.{requested, done}

-- what a server keeps of a login: its own side and the nonce whose prefix is RAND_S, ID_P and
-- the user's key, RAND_P, and the R that it sent
pub record Login : Type 0 where
  pub own : ServerSide
  pub nonce : List ℕ
  pub id_p : List ℕ
  pub psk : List ℕ
  pub rand_p : List ℕ
  pub r : ℕ

-- the state of a server: not begun; begun; after PSK-1; after PSK-3; over without a user; over,
-- with success or not
pub data View : Type 0 where
  unset : View
  begun : ServerSide → List ℕ → View
  asked : ServerSide → List ℕ → View
  checked : Login → View
  refused : ServerSide → List ℕ → View
  over : Login → Bool → View

-- the first Request: PSK-1
unfoldable pub first : ServerSide → List ℕ → ℕ → List ℕ
first own nonce id = psk_request id (psk1 (rand_of nonce) own.id_s)

-- whether a server has begun and made no Request yet
abbrev pub is_initiated : View → Bool
is_initiated (begun own nonce) = true
is_initiated view = false

-- the first Request and the view after it; none if the server hasn't begun or has made one
unfoldable pub first_step : View → ℕ → FirstOutcome View
first_step (begun own nonce) id = record { packet = first own nonce id; after = asked own nonce }
first_step view id = record { packet = []; after = view }

abbrev pub rand_s_of : Login → List ℕ
rand_s_of login = rand_of login.nonce

-- AK, and the keys of the login
unfoldable pub ak_of : Login → List ℕ
ak_of login = (psk_long_of login.psk).ak

unfoldable pub keys_of : Login → PskKeys
keys_of login = psk_keys_of (psk_long_of login.psk).kdk login.rand_p

-- MAC_P and MAC_S, with the octets that they cover
unfoldable pub mac_p_covers : Login → List ℕ
mac_p_covers login = mac_p_octets login.id_p login.own.id_s (rand_s_of login) login.rand_p

unfoldable pub mac_p_of : Login → List ℕ
mac_p_of login = aes_cmac (ak_of login) (mac_p_covers login)

unfoldable pub mac_s_covers : Login → List ℕ
mac_s_covers login = mac_s_octets login.own.id_s login.rand_p

unfoldable pub mac_s_of : Login → List ℕ
mac_s_of login = aes_cmac (ak_of login) (mac_s_covers login)

-- PSK-3 with PCHANNEL still blank, whose first 22 octets are the header
unfoldable pub psk3_header : Login → ℕ → List ℕ
psk3_header login id =
    header_of (psk_request id (psk3 (rand_s_of login) (mac_s_of login) 0 blank_tag 0))

-- what PSK-3 carries in PCHANNEL: the R of the login
unfoldable pub psk3_sealed : Login → ℕ → Sealed
psk3_sealed login id = sealed_result (keys_of login).tek 0 (psk3_header login id) login.r

abbrev pub psk3_octet : Login → ℕ → ℕ
psk3_octet login id = slice_index (psk3_sealed login id).ciphertext 0

-- PSK-3
abbrev pub psk3_of : Login → ℕ → Message
psk3_of login id =
    psk3 (rand_s_of login) (mac_s_of login) 0 (psk3_sealed login id).tag (psk3_octet login id)

-- the records of PSK-3's tags
abbrev pub psk3_records : Login → ℕ → List TagRecord
psk3_records login id =
    ak_record login.psk (mac_s_covers login) (mac_s_of login)
    ∷ tek_record login.psk 0 (psk3_header login id) (psk3_octet login id) (psk3_sealed login id).tag
    ∷ []

-- a PSK-2 of a known user with the right MAC_P is answered by PSK-3
unfoldable pub answers : Login → ℕ → List ℕ → ServerOutcome View
answers login next_id mac =
    requested (checked login) (psk_request next_id (psk3_of login next_id))
    (ak_record login.psk (mac_p_covers login) mac ∷ []) (psk3_records login next_id)

abbrev pub checks : Login → ℕ → List ℕ → ServerOutcome View
checks login next_id mac =
    if bytes_eq (mac_p_of login) mac then answers login next_id mac
    else dropped (asked login.own login.nonce) BadTag

-- R for a user: a barred one gets a failure
abbrev pub r_for : Bool → ℕ
r_for barred = if barred then done_failure else done_success

abbrev pub finds : ServerSide → List ℕ → ℕ → List ℕ → List ℕ → List ℕ → Option User
    → ServerOutcome View
finds own nonce next_id rand_p mac id_p None = done (refused own nonce) false []
finds own nonce next_id rand_p mac id_p (Some user) =
    checks (record {
      own = own;
      nonce = nonce;
      id_p = id_p;
      psk = user.psk;
      rand_p = rand_p;
      r = r_for user.barred;
    }) next_id mac

abbrev pub receives_psk2 : List User → ServerSide → List ℕ → ℕ → List ℕ → List ℕ → List ℕ → List ℕ
    → ServerOutcome View
receives_psk2 users own nonce next_id rand_s rand_p mac id_p =
    if bytes_eq rand_s (rand_of nonce)
    then finds own nonce next_id rand_p mac id_p (user_of users id_p psk_kind)
    else dropped (asked own nonce) FieldMismatch

-- a server that has sent PSK-1
abbrev pub asked_receives : List User → ServerSide → List ℕ → ℕ → Message → ServerOutcome View
asked_receives users own nonce next_id (psk2 rand_s rand_p mac id_p) =
    receives_psk2 users own nonce next_id rand_s rand_p mac id_p
asked_receives users own nonce next_id message = dropped (asked own nonce) WrongOp

abbrev pub asked_reads : List User → ServerSide → List ℕ → ℕ → Result Message Cause
    → ServerOutcome View
asked_reads users own nonce next_id (Err cause) = dropped (asked own nonce) cause
asked_reads users own nonce next_id (Ok message) = asked_receives users own nonce next_id message

-- what is wrong with PSK-4, in the order of the causes
abbrev pub psk4_fault : Login → List ℕ → List ℕ → ℕ → List ℕ → ℕ → Option Cause
psk4_fault login header rand_s nonce tag sealed =
    fault_if (not (bytes_eq rand_s (rand_s_of login))) FieldMismatch
    (fault_if (not (nonce == 1)) BadNonce
    (fault_if (not (is_sealed (keys_of login).tek 1 header sealed tag)) BadTag
    (result_fault (hidden_octet (keys_of login).tek 1 sealed))))

-- success exactly if both sides sent DONE_SUCCESS
abbrev pub both_succeed : Login → ℕ → Bool
both_succeed login r = (login.r == done_success) && (r == done_success)

-- a PSK-4 without a fault ends the login
unfoldable pub ends : Login → ℕ → List TagRecord → Option Cause → ServerOutcome View
ends login r accepted (Some cause) = dropped (checked login) cause
ends login r accepted None =
    done (over login (both_succeed login r)) (both_succeed login r) accepted

-- a server that has sent PSK-3
abbrev pub checked_receives : Login → List ℕ → Message → ServerOutcome View
checked_receives login header (psk4 rand_s nonce tag sealed) =
    ends login (result_of (hidden_octet (keys_of login).tek 1 sealed))
    (tek_record login.psk 1 header sealed tag ∷ [])
    (psk4_fault login header rand_s nonce tag sealed)
checked_receives login header message = dropped (checked login) WrongOp

abbrev pub checked_reads : Login → List ℕ → Result Message Cause → ServerOutcome View
checked_reads login header (Err cause) = dropped (checked login) cause
checked_reads login header (Ok message) = checked_receives login header message

-- a server that awaits nothing
abbrev pub idle_reads : View → Result Message Cause → ServerOutcome View
idle_reads view (Err cause) = dropped view cause
idle_reads view (Ok message) = dropped view WrongOp

-- the turn for a Response of Type 47 with nothing past its Length
unfoldable pub step : List User → ℕ → View → List ℕ → ServerOutcome View
step users next_id unset octets = dropped unset WrongOp
step users next_id (begun own nonce) octets =
    idle_reads (begun own nonce) (read_of (body_of octets))
step users next_id (asked own nonce) octets =
    asked_reads users own nonce next_id (read_of (body_of octets))
step users next_id (checked login) octets =
    checked_reads login (header_of octets) (read_of (body_of octets))
step users next_id (refused own nonce) octets =
    idle_reads (refused own nonce) (read_of (body_of octets))
step users next_id (over login good) octets =
    idle_reads (over login good) (read_of (body_of octets))

-- the report of a login that has succeeded
unfoldable pub report_of : Login → Report
report_of login = record {
  method = psk_kind;
  id_p = login.id_p;
  id_s = login.own.id_s;
  suite = 0;
  msk = (keys_of login).msk;
  emsk = (keys_of login).emsk;
}

-- the report of a view
abbrev pub report : View → Option Report
report (over login good) = if good then Some (report_of login) else None
report view = None
