-- The turns of a peer of EAP-GPSK (RFC 5433 section 3), each with all that is then known.
use Rattle.std.specs.Prelude.{◌≡◌, ℕ, List, [], ◌∷◌, true, false, Some, None, Ok}
use Rattle.octet_lists.specs.declared.suite.Suite.{Suite}
use Rattle.octet_lists.specs.Suite.{ks_of}
use Rattle.eap_packet.specs.declared.cause.Cause.{Cause}
use Rattle.gpsk_messages.specs.Message.{gpsk1, gpsk3, fail, protected_fail, covered_of}
use Rattle.gpsk_messages.specs.Reading.{read_of}
use Rattle.login_keys.specs.Gpsk.{gpsk_tag_of}
use Rattle.login_policy.specs.Policy.{picked_suite}
use Rattle.eap_method.specs.declared.values.Credential.{Credential}
use Rattle.eap_method.specs.declared.values.MethodState.TheVariants.{Cont, MayCont, Done}
use Rattle.eap_method.specs.declared.values.Decision.TheVariants.{Fail, CondSucc}
use Rattle.eap_method.specs.GpskTags.{gpsk_response, sk_record}
use Rattle.login_setup.specs.Setup.{accepts_name}
use Rattle.eap_method.specs.Turns.{PeerOutcome, id_of, body_of, discarded, replied}
use Rattle.eap_method.specs.GpskPeer.{Login, View, fresh, wait, over, keys_of, gpsk2_of, gpsk4_of}
use Rattle.eap_method.specs.GpskPeer.{protected_fail_of, repeats, is_tagged_by, step}

-- the login that begins at GPSK-1
abbrev pub login_from : Credential → List ℕ → List ℕ → List ℕ → Suite → Login
login_from cred nonce id_s rand_s
    suite = record { cred = cred; nonce = nonce; id_s = id_s; rand_s = rand_s; suite = suite }

-- the outcome of a turn in this view for these octets
pub data GpskPeerRow (view : View) (octets : List ℕ) : PeerOutcome View → Type 0 where
  -- the octets are discarded
  drops : (cause : Cause) → GpskPeerRow view octets (discarded view cause)
  -- GPSK-1 is answered by GPSK-2
  answers : (cred : Credential) (nonce id_s rand_s list : List ℕ) (suite : Suite)
      (in_view : view ≡ fresh cred nonce)
      (is_read : read_of None (body_of octets) ≡ Ok (gpsk1 id_s rand_s list))
      (accepted : accepts_name cred.accepts id_s ≡ true)
      (picked : picked_suite cred.suites list ≡ Some suite)
      → GpskPeerRow view octets
      (replied (wait (login_from cred nonce id_s rand_s suite))
      (gpsk_response (id_of octets) (gpsk2_of (login_from cred nonce id_s rand_s suite) list))
      Cont Fail []
      (sk_record cred.psk (gpsk2_of (login_from cred nonce id_s rand_s suite) list) ∷ []))
  -- GPSK-3 is answered by GPSK-4
  confirms : (login : Login) (rand_p rand_s id_s : List ℕ) (suite : Suite) (pd mac : List ℕ)
      (in_view : view ≡ wait login)
      (is_read : read_of (Some (ks_of login.suite)) (body_of octets)
      ≡ Ok (gpsk3 rand_p rand_s id_s suite pd mac))
      (repeated : repeats login rand_p rand_s id_s suite ≡ true)
      (setup_with_nonce : rand_p ≡ login.nonce)
      (their_nonce : rand_s ≡ login.rand_s)
      (their_name : id_s ≡ login.id_s)
      (one_suite : suite ≡ login.suite)
      (is_tagged : is_tagged_by login (gpsk3 rand_p rand_s id_s suite pd mac) ≡ true)
      (has_mac : gpsk_tag_of login.suite (keys_of login).sk (covered_of
      (gpsk3 rand_p rand_s id_s suite pd mac)) ≡ mac)
      → GpskPeerRow view octets
      (replied (over login true) (gpsk_response (id_of octets) (gpsk4_of login)) Done CondSucc
      (sk_record login.cred.psk (gpsk3 rand_p rand_s id_s suite pd mac) ∷ [])
      (sk_record login.cred.psk (gpsk4_of login) ∷ []))
  -- GPSK-Fail is answered by itself
  repeats_fail : (login : Login) (code : ℕ)
      (in_view : view ≡ wait login)
      (is_read : read_of (Some (ks_of login.suite)) (body_of octets) ≡ Ok (fail code))
      → GpskPeerRow view octets
      (replied (over login false) (gpsk_response (id_of octets) (fail code)) MayCont Fail [] [])
  -- GPSK-Protected-Fail is answered by one with the same code
  repeats_protected : (login : Login) (code : ℕ) (mac : List ℕ)
      (in_view : view ≡ wait login)
      (is_read : read_of (Some (ks_of login.suite)) (body_of octets) ≡ Ok (protected_fail code mac))
      (is_tagged : is_tagged_by login (protected_fail code mac) ≡ true)
      (has_mac : gpsk_tag_of login.suite (keys_of login).sk (covered_of (protected_fail code mac))
      ≡ mac)
      → GpskPeerRow view octets
      (replied (over login false) (gpsk_response (id_of octets) (protected_fail_of login code))
      MayCont Fail (sk_record login.cred.psk (protected_fail code mac) ∷ [])
      (sk_record login.cred.psk (protected_fail_of login code) ∷ []))

-- each turn is one of the rows
abbrev pub GpskPeerStepsAreRows : Type 0
GpskPeerStepsAreRows = (view : View) (octets : List ℕ) → GpskPeerRow view octets (step view octets)
