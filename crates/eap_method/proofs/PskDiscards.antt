-- A discard leaves the view of EAP-PSK as it is.
use Rattle.std.proofs.Common.{ℕ, List, Bool, Option, Some, None, Result, Ok, Err}
use Rattle.std.specs.Prelude.{◌==◌}
use Rattle.std.specs.Str.{bytes_eq}
use Rattle.login_setup.specs.declared.users.User.{User}
use Rattle.octet_lists.specs.Among.{psk_kind}
use Rattle.login_setup.specs.Setup.{accepts_name}
use Rattle.login_setup.specs.Users.{user_of}
use Rattle.eap_packet.specs.declared.cause.Cause.{Cause}
use Rattle.psk_messages.specs.Message as psk_message
use Rattle.psk_messages.specs.Reading as psk_reading
use Rattle.eap_method.specs.declared.tags.TagRecord.{TagRecord}
use Rattle.eap_method.specs.declared.values.Credential.{Credential}
use Rattle.eap_method.specs.declared.values.ServerSide.{ServerSide}
use Rattle.eap_method.specs.PskPeer as psk_peer
use Rattle.eap_method.specs.PskServer as psk_server
use Rattle.eap_method.specs.PskTags.{header_of, done_success, rand_of}
use Rattle.eap_method.specs.Turns.{id_of, body_of}
use Rattle.eap_method.proofs.Discards.{PeerPreserves, ServerPreserves, by_test, discard_keeps}
use Rattle.eap_method.proofs.Discards.{reply_keeps, drop_keeps, request_keeps, done_keeps}

-- the peer
confirms_preserves : (login : psk_peer.Login) (id r : ℕ) (accepted : List TagRecord)
    (fault : Option Cause)
    → PeerPreserves (psk_peer.wait login) (psk_peer.confirms login id r accepted fault)
unfolding psk_peer.confirms
confirms_preserves login id r accepted (Some cause) = discard_keeps _ _
confirms_preserves login id r accepted None =
    by_test (PeerPreserves (psk_peer.wait login)) (r == done_success) _ _
    (reply_keeps _ _ _ _ _ _ _) (reply_keeps _ _ _ _ _ _ _)

answers_preserves : (view : psk_peer.View) (login : psk_peer.Login) (id : ℕ)
    → PeerPreserves view (psk_peer.answers login id)
unfolding psk_peer.answers
answers_preserves view login id = reply_keeps _ _ _ _ _ _ _

fresh_preserves : (cred : Credential) (nonce : List ℕ) (id : ℕ)
    (read : Result psk_message.Message Cause)
    → PeerPreserves (psk_peer.fresh cred nonce) (psk_peer.fresh_reads cred nonce id read)
fresh_preserves cred nonce id (Err cause) = discard_keeps _ _
fresh_preserves cred nonce id (Ok (psk_message.psk1 rand_s id_s)) =
    by_test (PeerPreserves (psk_peer.fresh cred nonce)) (accepts_name cred.accepts id_s) _ _
    (answers_preserves _ _ _) (discard_keeps _ _)
fresh_preserves cred nonce id (Ok message) = discard_keeps _ _

wait_preserves : (login : psk_peer.Login) (id : ℕ) (header : List ℕ)
    (read : Result psk_message.Message Cause)
    → PeerPreserves (psk_peer.wait login) (psk_peer.wait_reads login id header read)
wait_preserves login id header (Err cause) = discard_keeps _ _
wait_preserves login id header (Ok (psk_message.psk3 rand_s mac nonce tag sealed)) =
    confirms_preserves login id _ _ _
wait_preserves login id header (Ok message) = discard_keeps _ _

over_preserves : (login : psk_peer.Login) (good : Bool) (read : Result psk_message.Message Cause)
    → PeerPreserves (psk_peer.over login good) (psk_peer.over_reads login good read)
over_preserves login good (Err cause) = discard_keeps _ _
over_preserves login good (Ok message) = discard_keeps _ _

pub peer_preserves : (view : psk_peer.View) (octets : List ℕ)
    → PeerPreserves view (psk_peer.step view octets)
unfolding psk_peer.step
peer_preserves psk_peer.unset octets = discard_keeps _ _
peer_preserves (psk_peer.fresh cred nonce) octets =
    fresh_preserves cred nonce (id_of octets) (psk_reading.read_of (body_of octets))
peer_preserves (psk_peer.wait login) octets =
    wait_preserves login (id_of octets) (header_of octets) (psk_reading.read_of (body_of octets))
peer_preserves (psk_peer.over login good) octets =
    over_preserves login good (psk_reading.read_of (body_of octets))

-- the server
answers_asks : (view : psk_server.View) (login : psk_server.Login) (next_id : ℕ) (mac : List ℕ)
    → ServerPreserves view (psk_server.answers login next_id mac)
unfolding psk_server.answers
answers_asks view login next_id mac = request_keeps _ _ _ _ _

finds_preserves : (own : ServerSide) (nonce : List ℕ) (next_id : ℕ) (rand_p mac id_p : List ℕ)
    (found : Option User)
    → ServerPreserves (psk_server.asked own nonce)
    (psk_server.finds own nonce next_id rand_p mac id_p found)
finds_preserves own nonce next_id rand_p mac id_p None = done_keeps _ _ _ _
finds_preserves own nonce next_id rand_p mac id_p (Some user) =
    by_test (ServerPreserves (psk_server.asked own nonce)) (bytes_eq _ mac) _ _
    (answers_asks _ _ _ _) (drop_keeps _ _)

asked_preserves : (users : List User) (own : ServerSide) (nonce : List ℕ) (next_id : ℕ)
    (read : Result psk_message.Message Cause)
    → ServerPreserves (psk_server.asked own nonce)
    (psk_server.asked_reads users own nonce next_id read)
asked_preserves users own nonce next_id (Err cause) = drop_keeps _ _
asked_preserves users own nonce next_id (Ok (psk_message.psk2 rand_s rand_p mac id_p)) =
    by_test (ServerPreserves (psk_server.asked own nonce)) (bytes_eq rand_s (rand_of nonce)) _ _
    (finds_preserves own nonce next_id rand_p mac id_p (user_of users id_p psk_kind))
    (drop_keeps _ _)
asked_preserves users own nonce next_id (Ok message) = drop_keeps _ _

ends_preserves : (login : psk_server.Login) (r : ℕ) (accepted : List TagRecord)
    (fault : Option Cause)
    → ServerPreserves (psk_server.checked login) (psk_server.ends login r accepted fault)
unfolding psk_server.ends
ends_preserves login r accepted (Some cause) = drop_keeps _ _
ends_preserves login r accepted None = done_keeps _ _ _ _

checked_preserves : (login : psk_server.Login) (header : List ℕ)
    (read : Result psk_message.Message Cause)
    → ServerPreserves (psk_server.checked login) (psk_server.checked_reads login header read)
checked_preserves login header (Err cause) = drop_keeps _ _
checked_preserves login header (Ok (psk_message.psk4 rand_s nonce tag sealed)) =
    ends_preserves login _ _ _
checked_preserves login header (Ok message) = drop_keeps _ _

idle_preserves : (view : psk_server.View) (read : Result psk_message.Message Cause)
    → ServerPreserves view (psk_server.idle_reads view read)
idle_preserves view (Err cause) = drop_keeps _ _
idle_preserves view (Ok message) = drop_keeps _ _

pub server_preserves : (users : List User) (next_id : ℕ) (view : psk_server.View) (octets : List ℕ)
    → ServerPreserves view (psk_server.step users next_id view octets)
unfolding psk_server.step
server_preserves users next_id psk_server.unset octets = drop_keeps _ _
server_preserves users next_id (psk_server.begun own nonce) octets =
    idle_preserves _ (psk_reading.read_of (body_of octets))
server_preserves users next_id (psk_server.asked own nonce) octets =
    asked_preserves users own nonce next_id (psk_reading.read_of (body_of octets))
server_preserves users next_id (psk_server.checked login) octets =
    checked_preserves login (header_of octets) (psk_reading.read_of (body_of octets))
server_preserves users next_id (psk_server.refused own nonce) octets =
    idle_preserves _ (psk_reading.read_of (body_of octets))
server_preserves users next_id (psk_server.over login good) octets =
    idle_preserves _ (psk_reading.read_of (body_of octets))
