-- The peer of EAP-PSK (RFC 4764 section 4): its state, and its turn for each Request.
use Rattle.std.specs.Prelude.{ℕ, List, [], ◌∷◌, Bool, true, false, ◌==◌, ◌&&◌, not, if◌then◌else◌}
use Rattle.std.specs.Prelude.{Option, Some, None, slice_index, Result, Ok, Err}
use Rattle.std.specs.Str.{bytes_eq}
use Rattle.octet_lists.specs.Among.{psk_kind}
use Rattle.login_setup.specs.Setup.{accepts_name}
use Rattle.eap_packet.specs.declared.cause.Cause.{Cause}
use Rattle.eap_packet.specs.declared.cause.Cause.TheVariants.{WrongOp, UnknownServer, FieldMismatch}
use Rattle.eap_packet.specs.declared.cause.Cause.TheVariants.{BadNonce, BadTag}
use Rattle.psk_messages.specs.Message.{Message, psk1, psk2, psk3, psk4}
use Rattle.psk_messages.specs.Reading.{read_of}
use Rattle.cmac_mac.specs.Cmac.{aes_cmac}
use Rattle.eax_mode.specs.Eax.{Sealed}
use Rattle.login_keys.specs.Psk.{psk_long_of, psk_keys_of}
use Rattle.login_keys.specs.declared.psk.PskKeys.{PskKeys}
use Rattle.eap_method.specs.declared.values.Credential.{Credential}
use Rattle.eap_method.specs.declared.tags.TagRecord.{TagRecord}
use Rattle.eap_method.specs.declared.values.Report.{Report}
use Rattle.eap_method.specs.declared.values.MethodState.TheVariants.{Cont, MayCont, Done}
use Rattle.eap_method.specs.declared.values.Decision.TheVariants.{Fail, UncondSucc}
use Rattle.eap_method.specs.PskTags.{psk_response, mac_p_octets, mac_s_octets, ak_record}
use Rattle.eap_method.specs.PskTags.{tek_record, header_of, sealed_result, is_sealed, hidden_octet}
use Rattle.eap_method.specs.PskTags.{result_fault, result_of, done_success, done_failure, blank_tag}
use Rattle.eap_method.specs.PskTags.{rand_of}
use Rattle.eap_method.specs.Turns.{PeerOutcome, id_of, body_of, fault_if, discarded, replied}

-- what a peer keeps of a login: its credential and the nonce whose prefix is RAND_P, ID_S, RAND_S
pub record Login : Type 0 where
  pub cred : Credential
  pub nonce : List ℕ
  pub id_s : List ℕ
  pub rand_s : List ℕ

-- the state of a peer: not begun; begun; after PSK-2; over, with success or not
pub data View : Type 0 where
  unset : View
  fresh : Credential → List ℕ → View
  wait : Login → View
  over : Login → Bool → View

abbrev pub rand_p_of : Login → List ℕ
rand_p_of login = rand_of login.nonce

-- AK, and the keys of the login
unfoldable pub ak_of : Login → List ℕ
ak_of login = (psk_long_of login.cred.psk).ak

unfoldable pub keys_of : Login → PskKeys
keys_of login = psk_keys_of (psk_long_of login.cred.psk).kdk (rand_p_of login)

-- MAC_P, with the octets that it covers
unfoldable pub mac_p_covers : Login → List ℕ
mac_p_covers login = mac_p_octets login.cred.id_p login.id_s login.rand_s (rand_p_of login)

unfoldable pub mac_p_of : Login → List ℕ
mac_p_of login = aes_cmac (ak_of login) (mac_p_covers login)

-- MAC_S, with the octets that it covers
unfoldable pub mac_s_covers : Login → List ℕ
mac_s_covers login = mac_s_octets login.id_s (rand_p_of login)

unfoldable pub mac_s_of : Login → List ℕ
mac_s_of login = aes_cmac (ak_of login) (mac_s_covers login)

-- PSK-2
abbrev pub psk2_of : Login → Message
psk2_of login = psk2 login.rand_s (rand_p_of login) (mac_p_of login) login.cred.id_p

-- PSK-1 is answered by PSK-2, and the login begins
unfoldable pub answers : Login → ℕ → PeerOutcome View
answers login id =
    replied (wait login) (psk_response id (psk2_of login)) Cont Fail []
    (ak_record login.cred.psk (mac_p_covers login) (mac_p_of login) ∷ [])

abbrev pub receives_psk1 : Credential → List ℕ → ℕ → List ℕ → List ℕ → PeerOutcome View
receives_psk1 cred nonce id rand_s id_s =
    if accepts_name cred.accepts id_s
    then answers (record { cred = cred; nonce = nonce; id_s = id_s; rand_s = rand_s }) id
    else discarded (fresh cred nonce) UnknownServer

-- a peer that has begun
abbrev pub fresh_receives : Credential → List ℕ → ℕ → Message → PeerOutcome View
fresh_receives cred nonce id (psk1 rand_s id_s) = receives_psk1 cred nonce id rand_s id_s
fresh_receives cred nonce id message = discarded (fresh cred nonce) WrongOp

abbrev pub fresh_reads : Credential → List ℕ → ℕ → Result Message Cause → PeerOutcome View
fresh_reads cred nonce id (Err cause) = discarded (fresh cred nonce) cause
fresh_reads cred nonce id (Ok message) = fresh_receives cred nonce id message

-- PSK-4 with PCHANNEL still blank, whose first 22 octets are the header
unfoldable pub psk4_header : Login → ℕ → List ℕ
psk4_header login id = header_of (psk_response id (psk4 login.rand_s 1 blank_tag 0))

-- what PSK-4 carries in PCHANNEL
unfoldable pub psk4_sealed : Login → ℕ → ℕ → Sealed
psk4_sealed login id r = sealed_result (keys_of login).tek 1 (psk4_header login id) r

abbrev pub psk4_octet : Login → ℕ → ℕ → ℕ
psk4_octet login id r = slice_index (psk4_sealed login id r).ciphertext 0

-- PSK-4
abbrev pub psk4_of : Login → ℕ → ℕ → Message
psk4_of login id r = psk4 login.rand_s 1 (psk4_sealed login id r).tag (psk4_octet login id r)

-- the record of PSK-4's tag
abbrev pub psk4_record : Login → ℕ → ℕ → List TagRecord
psk4_record login id r = tek_record login.cred.psk 1 (psk4_header login id) (psk4_octet login id
    r) (psk4_sealed login id r).tag ∷ []

-- the records of PSK-3's tags
abbrev pub psk3_records : Login → List ℕ → List ℕ → List ℕ → ℕ → List TagRecord
psk3_records login header mac tag sealed =
    ak_record login.cred.psk (mac_s_covers login) mac
    ∷ tek_record login.cred.psk 0 header sealed tag ∷ []

-- a PSK-3 without a fault is answered by PSK-4 with the same result
unfoldable pub confirms : Login → ℕ → ℕ → List TagRecord → Option Cause → PeerOutcome View
confirms login id r accepted (Some cause) = discarded (wait login) cause
confirms login id r accepted None =
    if r == done_success
    then replied (over login true) (psk_response id (psk4_of login id done_success))
    Done UncondSucc accepted (psk4_record login id done_success)
    else replied (over login false) (psk_response id (psk4_of login id done_failure))
    MayCont Fail accepted (psk4_record login id done_failure)

-- whether both tags of PSK-3 are right
abbrev pub are_right : Login → List ℕ → List ℕ → List ℕ → ℕ → Bool
are_right login header mac tag sealed =
    bytes_eq (mac_s_of login) mac && is_sealed (keys_of login).tek 0 header sealed tag

-- what is wrong with PSK-3, in the order of the causes
abbrev pub psk3_fault : Login → List ℕ → List ℕ → List ℕ → ℕ → List ℕ → ℕ → Option Cause
psk3_fault login header rand_s mac nonce tag sealed =
    fault_if (not (bytes_eq rand_s login.rand_s)) FieldMismatch
    (fault_if (not (nonce == 0)) BadNonce
    (fault_if (not (are_right login header mac tag sealed)) BadTag
    (result_fault (hidden_octet (keys_of login).tek 0 sealed))))

-- a peer that has sent PSK-2
abbrev pub wait_receives : Login → ℕ → List ℕ → Message → PeerOutcome View
wait_receives login id header (psk3 rand_s mac nonce tag sealed) =
    confirms login id (result_of (hidden_octet (keys_of login).tek 0 sealed))
    (psk3_records login header mac tag sealed) (psk3_fault login header rand_s mac nonce tag sealed)
wait_receives login id header message = discarded (wait login) WrongOp

abbrev pub wait_reads : Login → ℕ → List ℕ → Result Message Cause → PeerOutcome View
wait_reads login id header (Err cause) = discarded (wait login) cause
wait_reads login id header (Ok message) = wait_receives login id header message

-- a peer whose login is over accepts nothing
abbrev pub over_reads : Login → Bool → Result Message Cause → PeerOutcome View
over_reads login good (Err cause) = discarded (over login good) cause
over_reads login good (Ok message) = discarded (over login good) WrongOp

-- the turn for a Request of Type 47 with nothing past its Length
unfoldable pub step : View → List ℕ → PeerOutcome View
step unset octets = discarded unset WrongOp
step (fresh cred nonce) octets = fresh_reads cred nonce (id_of octets) (read_of (body_of octets))
step (wait login) octets =
    wait_reads login (id_of octets) (header_of octets) (read_of (body_of octets))
step (over login good) octets = over_reads login good (read_of (body_of octets))

-- the report of a login that has succeeded
unfoldable pub report_of : Login → Report
report_of login = record {
  method = psk_kind;
  id_p = login.cred.id_p;
  id_s = login.id_s;
  suite = 0;
  msk = (keys_of login).msk;
  emsk = (keys_of login).emsk;
}

-- the report of a view
abbrev pub report : View → Option Report
report (over login good) = if good then Some (report_of login) else None
report view = None
