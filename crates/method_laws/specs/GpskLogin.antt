-- A whole login by EAP-GPSK (RFC 5433 section 3), turn by turn, between two ends that fit.
use Rattle.std.specs.Prelude.{◌≡◌, ℕ, ◌<◌, ◌≤◌, List, [], ◌∷◌, length, true, false, Some}
use Rattle.octet_lists.specs.declared.suite.Suite.{Suite}
use Rattle.login_setup.specs.declared.users.User.{User}
use Rattle.octet_lists.specs.Among.{gpsk_kind}
use Rattle.octet_lists.specs.Sizes.{max_name}
use Rattle.login_setup.specs.Setup.{accepts_name}
use Rattle.login_setup.specs.Users.{user_of}
use Rattle.login_policy.specs.Policy.{picked_suite}
use Rattle.eap_method.specs.declared.values.Credential.{Credential}
use Rattle.eap_method.specs.declared.values.ServerSide.{ServerSide}
use Rattle.eap_method.specs.declared.values.MethodState.TheVariants.{Cont, Done}
use Rattle.eap_method.specs.declared.values.Decision.TheVariants.{Fail, CondSucc}
use Rattle.eap_method.specs.GpskTags.{gpsk_request, gpsk_response, sk_record, suite_list}
use Rattle.eap_method.specs.Turns.{replied, requested, done}
use Rattle.eap_method.specs.GpskPeer as peer
use Rattle.eap_method.specs.GpskServer as server
use Rattle.method_laws.specs.GpskPeerRows as peer_rows
use Rattle.method_laws.specs.GpskServerRows as server_rows

-- the two ends of a login: each one's own values and nonce, the server's users, the user that it
-- finds, and the suite that the peer picks
pub record Ends : Type 0 where
  pub cred : Credential
  pub nonce : List ℕ
  pub own : ServerSide
  pub setup_with_nonce : List ℕ
  pub users : List User
  pub user : User
  pub suite : Suite

-- the ends fit: they share a key, and each accepts the other
pub record Compatible (ends : Ends) : Type 0 where
  pub accepted : accepts_name ends.cred.accepts ends.own.id_s ≡ true
  pub picked : picked_suite ends.cred.suites (suite_list ends.own.suites) ≡ Some ends.suite
  pub known : user_of ends.users ends.cred.id_p gpsk_kind ≡ Some ends.user
  pub not_barred : ends.user.barred ≡ false
  pub one_key : ends.user.psk ≡ ends.cred.psk
  pub peer_name : length ends.cred.id_p ≤ max_name
  pub server_name : length ends.own.id_s ≤ max_name
  pub peer_nonce : length ends.nonce ≡ 32
  pub server_nonce : length ends.setup_with_nonce ≡ 32
  pub some_suites : 0 < length ends.own.suites
  pub few_suites : length ends.own.suites ≤ 20

-- the login as each end keeps it
abbrev pub peer_login : Ends → peer.Login
peer_login ends =
    peer_rows.login_from ends.cred ends.nonce ends.own.id_s ends.setup_with_nonce ends.suite

abbrev pub server_login : Ends → server.Login
server_login ends = server_rows.login_from ends.own ends.setup_with_nonce ends.cred.id_p ends.user
    ends.nonce ends.suite

-- each turn accepts what the other end has sent, and both ends end in success with the same keys
pub record IsSuccessful (ends : Ends) (id next_id last_id : ℕ) : Type 0 where
  pub begins : server.first_step (server.begun ends.own ends.setup_with_nonce) id
      ≡ record {
        packet = gpsk_request id (server.gpsk1_of ends.own ends.setup_with_nonce);
        after = server.asked ends.own ends.setup_with_nonce;
      }
  pub answers : peer.step (peer.fresh ends.cred ends.nonce)
      (gpsk_request id (server.gpsk1_of ends.own ends.setup_with_nonce))
      ≡ replied (peer.wait (peer_login ends))
      (gpsk_response id (peer.gpsk2_of (peer_login ends) (suite_list ends.own.suites))) Cont Fail []
      (sk_record ends.cred.psk (peer.gpsk2_of (peer_login ends) (suite_list ends.own.suites)) ∷ [])
  pub checks : server.step ends.users next_id (server.asked ends.own ends.setup_with_nonce)
      (gpsk_response id (peer.gpsk2_of (peer_login ends) (suite_list ends.own.suites)))
      ≡ requested (server.checked (server_login ends))
      (gpsk_request next_id (server.gpsk3_of (server_login ends)))
      (sk_record ends.user.psk (peer.gpsk2_of (peer_login ends) (suite_list ends.own.suites)) ∷ [])
      (sk_record ends.user.psk (server.gpsk3_of (server_login ends)) ∷ [])
  pub confirms : peer.step (peer.wait (peer_login ends))
      (gpsk_request next_id (server.gpsk3_of (server_login ends)))
      ≡ replied (peer.over (peer_login ends) true)
      (gpsk_response next_id (peer.gpsk4_of (peer_login ends))) Done CondSucc
      (sk_record ends.cred.psk (server.gpsk3_of (server_login ends)) ∷ [])
      (sk_record ends.cred.psk (peer.gpsk4_of (peer_login ends)) ∷ [])
  pub finishes : server.step ends.users last_id (server.checked (server_login ends))
      (gpsk_response next_id (peer.gpsk4_of (peer_login ends)))
      ≡ done (server.over (server_login ends) true) true
      (sk_record ends.user.psk (peer.gpsk4_of (peer_login ends)) ∷ [])
  pub same_keys : peer.keys_of (peer_login ends) ≡ server.keys_of (server_login ends)

-- a login between ends that fit goes through
abbrev pub GpskLoginsGoThrough : Type 0
GpskLoginsGoThrough =
    (ends : Ends) (id next_id last_id : ℕ) → Compatible ends → IsSuccessful ends id next_id last_id
