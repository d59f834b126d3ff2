-- The turns of a server of EAP-PSK (RFC 4764 section 4), each with all that is then known.
use Rattle.std.specs.Prelude.{◌≡◌, ℕ, ◌<◌, List, [], ◌∷◌, true, false, ◌==◌, Some, None, Ok}
use Rattle.login_setup.specs.declared.users.User.{User}
use Rattle.octet_lists.specs.Among.{psk_kind}
use Rattle.login_setup.specs.Users.{user_of}
use Rattle.eap_packet.specs.declared.cause.Cause.{Cause}
use Rattle.psk_messages.specs.Message.{psk2, psk4}
use Rattle.psk_messages.specs.Reading.{read_of}
use Rattle.eax_mode.specs.Eax.{eax_tag}
use Rattle.eap_method.specs.declared.values.ServerSide.{ServerSide}
use Rattle.eap_method.specs.PskTags.{psk_request, ak_record, tek_record, header_of, channel_nonce}
use Rattle.eap_method.specs.PskTags.{is_sealed, hidden_octet, result_of, is_extended, done_success}
use Rattle.eap_method.specs.PskTags.{done_failure, rand_of}
use Rattle.eap_method.specs.Turns.{ServerOutcome, body_of, dropped, requested, done}
use Rattle.eap_method.specs.PskServer.{Login, View, asked, checked, refused, over, keys_of}
use Rattle.eap_method.specs.PskServer.{rand_s_of, mac_p_covers, mac_p_of, psk3_of, psk3_records}
use Rattle.eap_method.specs.PskServer.{r_for, both_succeed, step}

-- the login that begins at PSK-2 of a user
abbrev pub login_from : ServerSide → List ℕ → List ℕ → User → List ℕ → Login
login_from own nonce id_p user rand_p =
    record {
      own = own;
      nonce = nonce;
      id_p = id_p;
      psk = user.psk;
      rand_p = rand_p;
      r = r_for user.barred;
    }

-- the octet that a PSK-4 seals
abbrev pub opened_by : Login → ℕ → ℕ
opened_by login sealed = hidden_octet (keys_of login).tek 1 sealed

-- the outcome of a turn in this view for these octets
pub data PskServerRow (users : List User) (next_id : ℕ) (view : View)
    (octets : List ℕ) : ServerOutcome View → Type 0 where
  -- the octets are discarded
  drops : (cause : Cause) → PskServerRow users next_id view octets (dropped view cause)
  -- PSK-2 of an unknown user ends the login
  refuses : (own : ServerSide) (nonce rand_s rand_p mac id_p : List ℕ)
      (in_view : view ≡ asked own nonce)
      (is_read : read_of (body_of octets) ≡ Ok (psk2 rand_s rand_p mac id_p))
      (setup_with_nonce : rand_s ≡ rand_of nonce)
      (unknown : user_of users id_p psk_kind ≡ None)
      → PskServerRow users next_id view octets (done (refused own nonce) false [])
  -- PSK-2 of a user is answered by PSK-3
  answers : (own : ServerSide) (nonce rand_s rand_p mac id_p : List ℕ) (user : User)
      (in_view : view ≡ asked own nonce)
      (is_read : read_of (body_of octets) ≡ Ok (psk2 rand_s rand_p mac id_p))
      (setup_with_nonce : rand_s ≡ rand_of nonce)
      (known : user_of users id_p psk_kind ≡ Some user)
      (has_mac : mac_p_of (login_from own nonce id_p user rand_p) ≡ mac)
      → PskServerRow users next_id view octets
      (requested (checked (login_from own nonce id_p user rand_p))
      (psk_request next_id (psk3_of (login_from own nonce id_p user rand_p) next_id))
      (ak_record user.psk (mac_p_covers (login_from own nonce id_p user rand_p)) mac ∷ [])
      (psk3_records (login_from own nonce id_p user rand_p) next_id))
  -- PSK-4 with DONE_SUCCESS, if PSK-3 had it too
  ends_success : (login : Login) (rand_s : List ℕ) (nonce : ℕ) (tag : List ℕ) (sealed : ℕ)
      (in_view : view ≡ checked login)
      (is_read : read_of (body_of octets) ≡ Ok (psk4 rand_s nonce tag sealed))
      (setup_with_nonce : rand_s ≡ rand_s_of login)
      (is_second : nonce ≡ 1)
      (has_seal : is_sealed (keys_of login).tek 1 (header_of octets) sealed tag ≡ true)
      (has_tag : eax_tag (keys_of login).tek (channel_nonce 1) (header_of octets) (sealed ∷ [])
      ≡ tag)
      (is_plain : is_extended (opened_by login sealed) ≡ false)
      (both : both_succeed login (result_of (opened_by login sealed)) ≡ true)
      (own_success : login.r ≡ done_success)
      (their_success : result_of (opened_by login sealed) ≡ done_success)
      → PskServerRow users next_id view octets
      (done (over login true) true (tek_record login.psk 1 (header_of octets) sealed tag ∷ []))
  -- PSK-4, if it or PSK-3 has DONE_FAILURE
  ends_failure : (login : Login) (rand_s : List ℕ) (nonce : ℕ) (tag : List ℕ) (sealed : ℕ)
      (in_view : view ≡ checked login)
      (is_read : read_of (body_of octets) ≡ Ok (psk4 rand_s nonce tag sealed))
      (setup_with_nonce : rand_s ≡ rand_s_of login)
      (is_second : nonce ≡ 1)
      (has_seal : is_sealed (keys_of login).tek 1 (header_of octets) sealed tag ≡ true)
      (has_tag : eax_tag (keys_of login).tek (channel_nonce 1) (header_of octets) (sealed ∷ [])
      ≡ tag)
      (is_plain : is_extended (opened_by login sealed) ≡ false)
      (has_result : (result_of (opened_by login sealed) == 0) ≡ false)
      (not_both : both_succeed login (result_of (opened_by login sealed)) ≡ false)
      (is_failure : login.r ≡ done_success → opened_by login sealed < 256
      → result_of (opened_by login sealed) ≡ done_failure)
      → PskServerRow users next_id view octets
      (done (over login false) false (tek_record login.psk 1 (header_of octets) sealed tag ∷ []))

-- each turn is one of the rows
abbrev pub PskServerStepsAreRows : Type 0
PskServerStepsAreRows =
    (users : List User) (next_id : ℕ) (view : View) (octets : List ℕ)
    → PskServerRow users next_id view octets (step users next_id view octets)
