-- The turns of a server of EAP-GPSK (RFC 5433 section 3), each with all that is then known.
use Rattle.std.specs.Prelude.{◌≡◌, ℕ, List, [], ◌∷◌, true, false, Some, None, Ok}
use Rattle.octet_lists.specs.declared.suite.Suite.{Suite}
use Rattle.login_setup.specs.declared.users.User.{User}
use Rattle.octet_lists.specs.Suite.{ks_of, suite_number}
use Rattle.octet_lists.specs.Among.{gpsk_kind, is_among}
use Rattle.login_setup.specs.Users.{user_of}
use Rattle.eap_packet.specs.declared.cause.Cause.{Cause}
use Rattle.gpsk_messages.specs.Message.{gpsk2, gpsk4, fail, protected_fail, covered_of}
use Rattle.gpsk_messages.specs.Reading.{read_of}
use Rattle.login_keys.specs.Gpsk.{gpsk_tag_of}
use Rattle.eap_method.specs.declared.values.ServerSide.{ServerSide}
use Rattle.eap_method.specs.GpskTags.{gpsk_request, sk_record, suite_list}
use Rattle.eap_method.specs.Turns.{ServerOutcome, body_of, dropped, requested, done}
use Rattle.eap_method.specs.GpskServer.{Login, View, asked, refusing, barring, checked, refused}
use Rattle.eap_method.specs.GpskServer.{over, psk_not_found, authorization_failure, keys_of}
use Rattle.eap_method.specs.GpskServer.{gpsk3_of, bars_with, repeats, is_tagged_by, step}

-- the login that begins at GPSK-2 of a user
abbrev pub login_from : ServerSide → List ℕ → List ℕ → User → List ℕ → Suite → Login
login_from own nonce id_p user rand_p suite =
    record { own = own; nonce = nonce; id_p = id_p; psk = user.psk; rand_p = rand_p; suite = suite }

-- the outcome of a turn in this view for these octets
pub data GpskServerRow (users : List User) (next_id : ℕ) (view : View)
    (octets : List ℕ) : ServerOutcome View → Type 0 where
  -- the octets are discarded
  drops : (cause : Cause) → GpskServerRow users next_id view octets (dropped view cause)
  -- GPSK-2 of an unknown user is answered by GPSK-Fail
  refuses : (own : ServerSide) (nonce id_p id_s rand_p rand_s list : List ℕ) (suite : Suite)
      (pd mac : List ℕ) (in_view : view ≡ asked own nonce)
      (is_read : read_of None (body_of octets)
      ≡ Ok (gpsk2 id_p id_s rand_p rand_s list suite pd mac))
      (repeated : repeats own nonce id_s rand_s list ≡ true)
      (own_name : id_s ≡ own.id_s)
      (setup_with_nonce : rand_s ≡ nonce)
      (own_list : list ≡ suite_list own.suites)
      (offered : is_among own.suites (suite_number suite) ≡ true)
      (unknown : user_of users id_p gpsk_kind ≡ None)
      → GpskServerRow users next_id view octets
      (requested (refusing own nonce) (gpsk_request next_id (fail psk_not_found)) [] [])
  -- GPSK-2 of a barred user is answered by GPSK-Protected-Fail
  bars : (own : ServerSide) (nonce id_p id_s rand_p rand_s list : List ℕ) (suite : Suite)
      (pd mac : List ℕ) (user : User) (in_view : view ≡ asked own nonce)
      (is_read : read_of None (body_of octets)
      ≡ Ok (gpsk2 id_p id_s rand_p rand_s list suite pd mac))
      (repeated : repeats own nonce id_s rand_s list ≡ true)
      (own_name : id_s ≡ own.id_s)
      (setup_with_nonce : rand_s ≡ nonce)
      (own_list : list ≡ suite_list own.suites)
      (offered : is_among own.suites (suite_number suite) ≡ true)
      (known : user_of users id_p gpsk_kind ≡ Some user)
      (is_barred : user.barred ≡ true)
      (is_tagged : is_tagged_by (login_from own nonce id_p user rand_p suite) (gpsk2 id_p id_s
      rand_p rand_s list suite pd mac) ≡ true)
      (has_mac : gpsk_tag_of suite (keys_of (login_from own nonce id_p user rand_p suite)).sk
      (covered_of (gpsk2 id_p id_s rand_p rand_s list suite pd mac)) ≡ mac)
      → GpskServerRow users next_id view octets
      (requested (barring (login_from own nonce id_p user rand_p suite))
      (gpsk_request next_id (bars_with (login_from own nonce id_p user rand_p suite)))
      (sk_record user.psk (gpsk2 id_p id_s rand_p rand_s list suite pd mac) ∷ [])
      (sk_record user.psk (bars_with (login_from own nonce id_p user rand_p suite)) ∷ []))
  -- GPSK-2 of any other user is answered by GPSK-3
  checks : (own : ServerSide) (nonce id_p id_s rand_p rand_s list : List ℕ) (suite : Suite)
      (pd mac : List ℕ) (user : User) (in_view : view ≡ asked own nonce)
      (is_read : read_of None (body_of octets)
      ≡ Ok (gpsk2 id_p id_s rand_p rand_s list suite pd mac))
      (repeated : repeats own nonce id_s rand_s list ≡ true)
      (own_name : id_s ≡ own.id_s)
      (setup_with_nonce : rand_s ≡ nonce)
      (own_list : list ≡ suite_list own.suites)
      (offered : is_among own.suites (suite_number suite) ≡ true)
      (known : user_of users id_p gpsk_kind ≡ Some user)
      (not_barred : user.barred ≡ false)
      (is_tagged : is_tagged_by (login_from own nonce id_p user rand_p suite) (gpsk2 id_p id_s
      rand_p rand_s list suite pd mac) ≡ true)
      (has_mac : gpsk_tag_of suite (keys_of (login_from own nonce id_p user rand_p suite)).sk
      (covered_of (gpsk2 id_p id_s rand_p rand_s list suite pd mac)) ≡ mac)
      → GpskServerRow users next_id view octets
      (requested (checked (login_from own nonce id_p user rand_p suite))
      (gpsk_request next_id (gpsk3_of (login_from own nonce id_p user rand_p suite)))
      (sk_record user.psk (gpsk2 id_p id_s rand_p rand_s list suite pd mac) ∷ [])
      (sk_record user.psk (gpsk3_of (login_from own nonce id_p user rand_p suite)) ∷ []))
  -- GPSK-Fail comes back
  ends_refusing : (own : ServerSide) (nonce : List ℕ) (code : ℕ)
      (in_view : view ≡ refusing own nonce)
      (is_read : read_of None (body_of octets) ≡ Ok (fail code))
      (own_code : code ≡ psk_not_found)
      → GpskServerRow users next_id view octets (done (refused own nonce) false [])
  -- GPSK-Protected-Fail comes back
  ends_barring : (login : Login) (code : ℕ) (mac : List ℕ)
      (in_view : view ≡ barring login)
      (is_read : read_of (Some (ks_of login.suite)) (body_of octets) ≡ Ok (protected_fail code mac))
      (own_code : code ≡ authorization_failure)
      (is_tagged : is_tagged_by login (protected_fail code mac) ≡ true)
      (has_mac : gpsk_tag_of login.suite (keys_of login).sk (covered_of (protected_fail code mac))
      ≡ mac)
      → GpskServerRow users next_id view octets
      (done (over login false) false (sk_record login.psk (protected_fail code mac) ∷ []))
  -- GPSK-4 comes
  ends_checked : (login : Login) (pd mac : List ℕ)
      (in_view : view ≡ checked login)
      (is_read : read_of (Some (ks_of login.suite)) (body_of octets) ≡ Ok (gpsk4 pd mac))
      (is_tagged : is_tagged_by login (gpsk4 pd mac) ≡ true)
      (has_mac : gpsk_tag_of login.suite (keys_of login).sk (covered_of (gpsk4 pd mac)) ≡ mac)
      → GpskServerRow users next_id view octets
      (done (over login true) true (sk_record login.psk (gpsk4 pd mac) ∷ []))

-- each turn is one of the rows
abbrev pub GpskServerStepsAreRows : Type 0
GpskServerStepsAreRows =
    (users : List User) (next_id : ℕ) (view : View) (octets : List ℕ)
    → GpskServerRow users next_id view octets (step users next_id view octets)
