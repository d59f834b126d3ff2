-- A discard leaves the view of EAP-GPSK as it is.
use Rattle.std.proofs.Common.{ℕ, List, Bool, true, false, Option, Some, None, Result, Ok, Err}
use Rattle.std.specs.Prelude.{◌==◌}
use Rattle.octet_lists.specs.declared.suite.Suite.{Suite}
use Rattle.login_setup.specs.declared.users.User.{User}
use Rattle.octet_lists.specs.Suite.{ks_of}
use Rattle.octet_lists.specs.Among.{gpsk_kind}
use Rattle.login_setup.specs.Setup.{accepts_name}
use Rattle.login_setup.specs.Users.{user_of}
use Rattle.eap_packet.specs.declared.cause.Cause.{Cause}
use Rattle.gpsk_messages.specs.Message as gpsk_message
use Rattle.gpsk_messages.specs.Reading as gpsk_reading
use Rattle.login_policy.specs.Policy.{picked_suite}
use Rattle.eap_method.specs.declared.values.Credential.{Credential}
use Rattle.eap_method.specs.declared.values.ServerSide.{ServerSide}
use Rattle.eap_method.specs.GpskPeer as gpsk_peer
use Rattle.eap_method.specs.GpskServer as gpsk_server
use Rattle.eap_method.specs.Turns.{id_of, body_of}
use Rattle.eap_method.proofs.Discards.{PeerPreserves, ServerPreserves, by_test, discard_keeps}
use Rattle.eap_method.proofs.Discards.{reply_keeps, drop_keeps, request_keeps, done_keeps}

-- the peer
answers_preserves : (view : gpsk_peer.View) (login : gpsk_peer.Login) (id : ℕ) (list : List ℕ)
    → PeerPreserves view (gpsk_peer.answers login id list)
unfolding gpsk_peer.answers
answers_preserves view login id list = reply_keeps _ _ _ _ _ _ _

picks_preserves : (cred : Credential) (nonce : List ℕ) (id : ℕ) (id_s rand_s list : List ℕ)
    (picked : Option Suite)
    → PeerPreserves (gpsk_peer.fresh cred nonce)
    (gpsk_peer.picks cred nonce id id_s rand_s list picked)
picks_preserves cred nonce id id_s rand_s list None = discard_keeps _ _
picks_preserves cred nonce id id_s rand_s list (Some suite) = answers_preserves _ _ _ _

fresh_preserves : (cred : Credential) (nonce : List ℕ) (id : ℕ)
    (read : Result gpsk_message.Message Cause)
    → PeerPreserves (gpsk_peer.fresh cred nonce) (gpsk_peer.fresh_reads cred nonce id read)
fresh_preserves cred nonce id (Err cause) = discard_keeps _ _
fresh_preserves cred nonce id (Ok (gpsk_message.gpsk1 id_s rand_s list)) =
    by_test (PeerPreserves (gpsk_peer.fresh cred nonce)) (accepts_name cred.accepts id_s) _ _
    (picks_preserves cred nonce id id_s rand_s list (picked_suite cred.suites list))
    (discard_keeps _ _)
fresh_preserves cred nonce id (Ok message) = discard_keeps _ _

confirms_preserves : (login : gpsk_peer.Login) (id : ℕ) (message : gpsk_message.Message)
    (fault : Option Cause)
    → PeerPreserves (gpsk_peer.wait login) (gpsk_peer.confirms login id message fault)
unfolding gpsk_peer.confirms
confirms_preserves login id message (Some cause) = discard_keeps _ _
confirms_preserves login id message None = reply_keeps _ _ _ _ _ _ _

protected_preserves : (login : gpsk_peer.Login) (id code : ℕ) (message : gpsk_message.Message)
    (fault : Option Cause)
    → PeerPreserves (gpsk_peer.wait login) (gpsk_peer.repeats_protected login id code message fault)
unfolding gpsk_peer.repeats_protected
protected_preserves login id code message (Some cause) = discard_keeps _ _
protected_preserves login id code message None = reply_keeps _ _ _ _ _ _ _

wait_preserves : (login : gpsk_peer.Login) (id : ℕ) (read : Result gpsk_message.Message Cause)
    → PeerPreserves (gpsk_peer.wait login) (gpsk_peer.wait_reads login id read)
wait_preserves login id (Err cause) = discard_keeps _ _
wait_preserves login id (Ok (gpsk_message.gpsk3 rand_p rand_s id_s suite pd mac)) =
    confirms_preserves login id _ _
wait_preserves login id (Ok (gpsk_message.fail code)) = reply_keeps _ _ _ _ _ _ _
wait_preserves login id (Ok (gpsk_message.protected_fail code mac)) =
    protected_preserves login id code _ _
wait_preserves login id (Ok message) = discard_keeps _ _

over_preserves : (login : gpsk_peer.Login) (good : Bool) (read : Result gpsk_message.Message Cause)
    → PeerPreserves (gpsk_peer.over login good) (gpsk_peer.over_reads login good read)
over_preserves login good (Err cause) = discard_keeps _ _
over_preserves login good (Ok message) = discard_keeps _ _

pub peer_preserves : (view : gpsk_peer.View) (octets : List ℕ)
    → PeerPreserves view (gpsk_peer.step view octets)
unfolding gpsk_peer.step
peer_preserves gpsk_peer.unset octets = discard_keeps _ _
peer_preserves (gpsk_peer.fresh cred nonce) octets =
    fresh_preserves cred nonce (id_of octets) (gpsk_reading.read_of None (body_of octets))
peer_preserves (gpsk_peer.wait login) octets = wait_preserves login (id_of octets)
    (gpsk_reading.read_of (Some (ks_of login.suite)) (body_of octets))
peer_preserves (gpsk_peer.over login good) octets =
    over_preserves login good (gpsk_reading.read_of (Some (ks_of login.suite)) (body_of octets))

-- the server
refuses_asks : (view : gpsk_server.View) (own : ServerSide) (nonce : List ℕ) (next_id : ℕ)
    → ServerPreserves view (gpsk_server.refuses own nonce next_id)
unfolding gpsk_server.refuses
refuses_asks view own nonce next_id = request_keeps _ _ _ _ _

answers_asks : (view : gpsk_server.View) (login : gpsk_server.Login) (barred : Bool) (next_id : ℕ)
    (message : gpsk_message.Message)
    → ServerPreserves view (gpsk_server.answers login barred next_id message)
unfolding gpsk_server.answers
answers_asks view login barred next_id message =
    by_test (ServerPreserves view) barred _ _ (request_keeps _ _ _ _ _) (request_keeps _ _ _ _ _)

finds_preserves : (own : ServerSide) (nonce : List ℕ) (next_id : ℕ) (id_p rand_p : List ℕ)
    (suite : Suite) (message : gpsk_message.Message) (found : Option User)
    → ServerPreserves (gpsk_server.asked own nonce)
    (gpsk_server.finds own nonce next_id id_p rand_p suite message found)
finds_preserves own nonce next_id id_p rand_p suite message None = refuses_asks _ own nonce next_id
finds_preserves own nonce next_id id_p rand_p suite message (Some user) =
    by_test (ServerPreserves (gpsk_server.asked own nonce)) (gpsk_server.is_tagged_by _ message) _ _
    (answers_asks _ _ _ _ _) (drop_keeps _ _)

gpsk2_preserves : (users : List User) (own : ServerSide) (nonce : List ℕ) (next_id : ℕ)
    (id_p rand_p : List ℕ) (suite : Suite) (message : gpsk_message.Message) (fault : Option Cause)
    → ServerPreserves (gpsk_server.asked own nonce)
    (gpsk_server.receives_gpsk2 users own nonce next_id id_p rand_p suite message fault)
gpsk2_preserves users own nonce next_id id_p rand_p suite message (Some cause) = drop_keeps _ _
gpsk2_preserves users own nonce next_id id_p rand_p suite message None =
    finds_preserves own nonce next_id id_p rand_p suite message (user_of users id_p gpsk_kind)

asked_preserves : (users : List User) (own : ServerSide) (nonce : List ℕ) (next_id : ℕ)
    (read : Result gpsk_message.Message Cause)
    → ServerPreserves (gpsk_server.asked own nonce)
    (gpsk_server.asked_reads users own nonce next_id read)
asked_preserves users own nonce next_id (Err cause) = drop_keeps _ _
asked_preserves users own nonce next_id
    (Ok (gpsk_message.gpsk2 id_p id_s rand_p rand_s list suite pd mac)) =
    gpsk2_preserves users own nonce next_id id_p rand_p suite _ _
asked_preserves users own nonce next_id (Ok message) = drop_keeps _ _

refusing_preserves : (own : ServerSide) (nonce : List ℕ) (read : Result gpsk_message.Message Cause)
    → ServerPreserves (gpsk_server.refusing own nonce) (gpsk_server.refusing_reads own nonce read)
refusing_preserves own nonce (Err cause) = drop_keeps _ _
refusing_preserves own nonce (Ok (gpsk_message.fail code)) =
    by_test (ServerPreserves (gpsk_server.refusing own nonce)) (code == gpsk_server.psk_not_found)
    _ _ (done_keeps _ _ _ _) (drop_keeps _ _)
refusing_preserves own nonce (Ok message) = drop_keeps _ _

ends_preserves : (view : gpsk_server.View) (login : gpsk_server.Login) (success : Bool)
    (message : gpsk_message.Message) (fault : Option Cause)
    → ServerPreserves view (gpsk_server.ends view login success message fault)
unfolding gpsk_server.ends
ends_preserves view login success message (Some cause) = drop_keeps _ _
ends_preserves view login success message None = done_keeps _ _ _ _

barring_preserves : (login : gpsk_server.Login) (read : Result gpsk_message.Message Cause)
    → ServerPreserves (gpsk_server.barring login) (gpsk_server.barring_reads login read)
barring_preserves login (Err cause) = drop_keeps _ _
barring_preserves login (Ok (gpsk_message.protected_fail code mac)) =
    ends_preserves _ login false _ _
barring_preserves login (Ok message) = drop_keeps _ _

checked_preserves : (login : gpsk_server.Login) (read : Result gpsk_message.Message Cause)
    → ServerPreserves (gpsk_server.checked login) (gpsk_server.checked_reads login read)
checked_preserves login (Err cause) = drop_keeps _ _
checked_preserves login (Ok (gpsk_message.gpsk4 pd mac)) = ends_preserves _ login true _ _
checked_preserves login (Ok message) = drop_keeps _ _

idle_preserves : (view : gpsk_server.View) (read : Result gpsk_message.Message Cause)
    → ServerPreserves view (gpsk_server.idle_reads view read)
idle_preserves view (Err cause) = drop_keeps _ _
idle_preserves view (Ok message) = drop_keeps _ _

pub server_preserves : (users : List User) (next_id : ℕ) (view : gpsk_server.View) (octets : List ℕ)
    → ServerPreserves view (gpsk_server.step users next_id view octets)
unfolding gpsk_server.step
server_preserves users next_id gpsk_server.unset octets = drop_keeps _ _
server_preserves users next_id (gpsk_server.begun own nonce) octets =
    idle_preserves _ (gpsk_reading.read_of None (body_of octets))
server_preserves users next_id (gpsk_server.asked own nonce) octets =
    asked_preserves users own nonce next_id (gpsk_reading.read_of None (body_of octets))
server_preserves users next_id (gpsk_server.refusing own nonce) octets =
    refusing_preserves own nonce (gpsk_reading.read_of None (body_of octets))
server_preserves users next_id (gpsk_server.barring login) octets =
    barring_preserves login (gpsk_reading.read_of (Some (ks_of login.suite)) (body_of octets))
server_preserves users next_id (gpsk_server.checked login) octets =
    checked_preserves login (gpsk_reading.read_of (Some (ks_of login.suite)) (body_of octets))
server_preserves users next_id (gpsk_server.refused own nonce) octets =
    idle_preserves _ (gpsk_reading.read_of None (body_of octets))
server_preserves users next_id (gpsk_server.over login good) octets =
    idle_preserves _ (gpsk_reading.read_of (Some (ks_of login.suite)) (body_of octets))
