-- A whole login by EAP-PSK (RFC 4764 section 4), turn by turn, between two ends that fit.
use Rattle.std.specs.Prelude.{◌≡◌, ℕ, ◌≤◌, List, [], ◌∷◌, length, true, false, Some}
use Rattle.login_setup.specs.declared.users.User.{User}
use Rattle.octet_lists.specs.Among.{psk_kind}
use Rattle.octet_lists.specs.Sizes.{max_name}
use Rattle.login_setup.specs.Setup.{accepts_name}
use Rattle.login_setup.specs.Users.{user_of}
use Rattle.psk_messages.specs.Message.{Message, psk1}
use Rattle.eap_method.specs.declared.values.Credential.{Credential}
use Rattle.eap_method.specs.declared.values.ServerSide.{ServerSide}
use Rattle.eap_method.specs.declared.values.MethodState.TheVariants.{Cont, Done}
use Rattle.eap_method.specs.declared.values.Decision.TheVariants.{Fail, UncondSucc}
use Rattle.eap_method.specs.declared.tags.TagRecord.{TagRecord}
use Rattle.eap_method.specs.PskTags.{psk_request, psk_response, ak_record, done_success, rand_of}
use Rattle.eap_method.specs.Turns.{replied, requested, done}
use Rattle.eap_method.specs.PskPeer as peer
use Rattle.eap_method.specs.PskServer as server
use Rattle.method_laws.specs.PskPeerRows as peer_rows
use Rattle.method_laws.specs.PskServerRows as server_rows

-- the two ends of a login: each one's own values and nonce, the server's users, and the user that
-- it finds
pub record Ends : Type 0 where
  pub cred : Credential
  pub nonce : List ℕ
  pub own : ServerSide
  pub setup_with_nonce : List ℕ
  pub users : List User
  pub user : User

-- the ends fit: they share a key, and each accepts the other
pub record Compatible (ends : Ends) : Type 0 where
  pub accepted : accepts_name ends.cred.accepts ends.own.id_s ≡ true
  pub known : user_of ends.users ends.cred.id_p psk_kind ≡ Some ends.user
  pub not_barred : ends.user.barred ≡ false
  pub one_key : ends.user.psk ≡ ends.cred.psk
  pub peer_name : length ends.cred.id_p ≤ max_name
  pub server_name : length ends.own.id_s ≤ max_name
  pub peer_nonce : length ends.nonce ≡ 32
  pub server_nonce : length ends.setup_with_nonce ≡ 32

-- the login as each end keeps it
abbrev pub peer_login : Ends → peer.Login
peer_login ends =
    peer_rows.login_from ends.cred ends.nonce ends.own.id_s (rand_of ends.setup_with_nonce)

abbrev pub server_login : Ends → server.Login
server_login ends = server_rows.login_from ends.own ends.setup_with_nonce ends.cred.id_p ends.user
    (rand_of ends.nonce)

-- PSK-1 of the server
abbrev pub psk1_of : Ends → Message
psk1_of ends = psk1 (rand_of ends.setup_with_nonce) ends.own.id_s

-- the record of the tag that the peer makes in PSK-2
abbrev pub psk2_records : Ends → List TagRecord
psk2_records ends = ak_record ends.cred.psk (peer.mac_p_covers (peer_login ends)) (peer.mac_p_of
    (peer_login ends)) ∷ []

-- each turn reads what the other end has sent and accepts the very tags that it made, and both ends
-- end in success with the same keys
pub record IsSuccessful (ends : Ends) (id next_id last_id : ℕ) : Type 0 where
  pub begins : server.first_step (server.begun ends.own ends.setup_with_nonce) id
      ≡ record {
        packet = psk_request id (psk1_of ends);
        after = server.asked ends.own ends.setup_with_nonce;
      }
  pub answers : peer.step (peer.fresh ends.cred ends.nonce) (psk_request id (psk1_of ends))
      ≡ replied (peer.wait (peer_login ends)) (psk_response id (peer.psk2_of (peer_login ends)))
      Cont Fail [] (psk2_records ends)
  pub checks : server.step ends.users next_id (server.asked ends.own ends.setup_with_nonce)
      (psk_response id (peer.psk2_of (peer_login ends)))
      ≡ requested (server.checked (server_login ends))
      (psk_request next_id (server.psk3_of (server_login ends) next_id))
      (psk2_records ends) (server.psk3_records (server_login ends) next_id)
  pub confirms : peer.step (peer.wait (peer_login ends))
      (psk_request next_id (server.psk3_of (server_login ends) next_id))
      ≡ replied (peer.over (peer_login ends) true)
      (psk_response next_id (peer.psk4_of (peer_login ends) next_id done_success)) Done UncondSucc
      (server.psk3_records (server_login ends) next_id)
      (peer.psk4_record (peer_login ends) next_id done_success)
  pub finishes : server.step ends.users last_id (server.checked (server_login ends))
      (psk_response next_id (peer.psk4_of (peer_login ends) next_id done_success))
      ≡ done (server.over (server_login ends) true) true
      (peer.psk4_record (peer_login ends) next_id done_success)
  pub same_keys : peer.keys_of (peer_login ends) ≡ server.keys_of (server_login ends)

-- a login between ends that fit goes through
abbrev pub PskLoginsGoThrough : Type 0
PskLoginsGoThrough =
    (ends : Ends) (id next_id last_id : ℕ) → Compatible ends → IsSuccessful ends id next_id last_id
