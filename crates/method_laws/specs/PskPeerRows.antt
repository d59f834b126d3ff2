-- The turns of a peer of EAP-PSK (RFC 4764 section 4), each with all that is then known.
use Rattle.std.specs.Prelude.{◌≡◌, ℕ, ◌<◌, List, [], ◌∷◌, true, false, ◌==◌, Ok}
use Rattle.eap_packet.specs.declared.cause.Cause.{Cause}
use Rattle.psk_messages.specs.Message.{psk1, psk3}
use Rattle.psk_messages.specs.Reading.{read_of}
use Rattle.eax_mode.specs.Eax.{eax_tag}
use Rattle.eap_method.specs.declared.values.Credential.{Credential}
use Rattle.eap_method.specs.declared.values.MethodState.TheVariants.{Cont, MayCont, Done}
use Rattle.eap_method.specs.declared.values.Decision.TheVariants.{Fail, UncondSucc}
use Rattle.login_setup.specs.Setup.{accepts_name}
use Rattle.eap_method.specs.PskTags.{psk_response, ak_record, header_of, channel_nonce, is_sealed}
use Rattle.eap_method.specs.PskTags.{hidden_octet, result_of, is_extended, done_success}
use Rattle.eap_method.specs.PskTags.{done_failure}
use Rattle.eap_method.specs.Turns.{PeerOutcome, id_of, body_of, discarded, replied}
use Rattle.eap_method.specs.PskPeer.{Login, View, fresh, wait, over, keys_of, mac_p_covers}
use Rattle.eap_method.specs.PskPeer.{mac_p_of, mac_s_of, psk2_of, psk3_records, psk4_of}
use Rattle.eap_method.specs.PskPeer.{psk4_record, are_right, step}

-- the login that begins at PSK-1
abbrev pub login_from : Credential → List ℕ → List ℕ → List ℕ → Login
login_from cred nonce id_s
    rand_s = record { cred = cred; nonce = nonce; id_s = id_s; rand_s = rand_s }

-- the octet that a PSK-3 seals
abbrev pub opened_by : Login → ℕ → ℕ
opened_by login sealed = hidden_octet (keys_of login).tek 0 sealed

-- the outcome of a turn in this view for these octets
pub data PskPeerRow (view : View) (octets : List ℕ) : PeerOutcome View → Type 0 where
  -- the octets are discarded
  drops : (cause : Cause) → PskPeerRow view octets (discarded view cause)
  -- PSK-1 is answered by PSK-2
  answers : (cred : Credential) (nonce rand_s id_s : List ℕ)
      (in_view : view ≡ fresh cred nonce)
      (is_read : read_of (body_of octets) ≡ Ok (psk1 rand_s id_s))
      (accepted : accepts_name cred.accepts id_s ≡ true)
      → PskPeerRow view octets
      (replied (wait (login_from cred nonce id_s rand_s))
      (psk_response (id_of octets) (psk2_of (login_from cred nonce id_s rand_s))) Cont Fail []
      (ak_record cred.psk (mac_p_covers (login_from cred nonce id_s rand_s)) (mac_p_of
      (login_from cred nonce id_s rand_s)) ∷ []))
  -- PSK-3 with DONE_SUCCESS is answered by PSK-4 with it
  confirms_success : (login : Login) (rand_s mac : List ℕ) (nonce : ℕ) (tag : List ℕ) (sealed : ℕ)
      (in_view : view ≡ wait login)
      (is_read : read_of (body_of octets) ≡ Ok (psk3 rand_s mac nonce tag sealed))
      (their_nonce : rand_s ≡ login.rand_s)
      (is_first : nonce ≡ 0)
      (tags_right : are_right login (header_of octets) mac tag sealed ≡ true)
      (has_mac : mac_s_of login ≡ mac)
      (has_seal : is_sealed (keys_of login).tek 0 (header_of octets) sealed tag ≡ true)
      (has_tag : eax_tag (keys_of login).tek (channel_nonce 0) (header_of octets) (sealed ∷ [])
      ≡ tag)
      (is_plain : is_extended (opened_by login sealed) ≡ false)
      (is_success : result_of (opened_by login sealed) ≡ done_success)
      → PskPeerRow view octets
      (replied (over login true)
      (psk_response (id_of octets) (psk4_of login (id_of octets) done_success)) Done UncondSucc
      (psk3_records login (header_of octets) mac tag sealed)
      (psk4_record login (id_of octets) done_success))
  -- PSK-3 with DONE_FAILURE is answered by PSK-4 with it
  confirms_failure : (login : Login) (rand_s mac : List ℕ) (nonce : ℕ) (tag : List ℕ) (sealed : ℕ)
      (in_view : view ≡ wait login)
      (is_read : read_of (body_of octets) ≡ Ok (psk3 rand_s mac nonce tag sealed))
      (their_nonce : rand_s ≡ login.rand_s)
      (is_first : nonce ≡ 0)
      (tags_right : are_right login (header_of octets) mac tag sealed ≡ true)
      (has_mac : mac_s_of login ≡ mac)
      (has_seal : is_sealed (keys_of login).tek 0 (header_of octets) sealed tag ≡ true)
      (has_tag : eax_tag (keys_of login).tek (channel_nonce 0) (header_of octets) (sealed ∷ [])
      ≡ tag)
      (is_plain : is_extended (opened_by login sealed) ≡ false)
      (has_result : (result_of (opened_by login sealed) == 0) ≡ false)
      (no_success : (result_of (opened_by login sealed) == done_success) ≡ false)
      (is_failure : opened_by login sealed < 256 → result_of (opened_by login sealed)
      ≡ done_failure)
      → PskPeerRow view octets
      (replied (over login false)
      (psk_response (id_of octets) (psk4_of login (id_of octets) done_failure)) MayCont Fail
      (psk3_records login (header_of octets) mac tag sealed)
      (psk4_record login (id_of octets) done_failure))

-- each turn is one of the rows
abbrev pub PskPeerStepsAreRows : Type 0
PskPeerStepsAreRows = (view : View) (octets : List ℕ) → PskPeerRow view octets (step view octets)
