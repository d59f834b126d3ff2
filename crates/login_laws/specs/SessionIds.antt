-- The Session-Id of a login (RFC 5247 section 1.4): both ends make the same, and no other login of
-- the peer with fresh nonces makes it.
use Rattle.std.specs.Prelude.{◌≡◌, ℕ, List, Bool, true, ◌==◌, if◌then◌else◌, Option, None, Some}
use Rattle.login_setup.specs.declared.event.Event.{Event}
use Rattle.login_setup.specs.declared.setup.Setup.{Setup}
use Rattle.octet_lists.specs.Among.{gpsk_kind, psk_kind}
use Rattle.octet_lists.specs.Suite.{suite_numbered}
use Rattle.octet_lists.specs.declared.suite.Suite.{Suite}
use Rattle.login_keys.specs.Gpsk.{input_string}
use Rattle.login_keys.specs.SessionId.{gpsk_id, method_id_input, psk_id}
use Rattle.eap_method.specs.BothServers.{gpsk_at, psk_at}
use Rattle.eap_method.specs.declared.values.Report.{Report}
use Rattle.eap_method.specs.GpskPeer as gpsk_peer
use Rattle.eap_method.specs.GpskServer as gpsk_server
use Rattle.eap_method.specs.PskPeer as psk_peer
use Rattle.eap_method.specs.PskServer as psk_server
use Rattle.eap_method.specs.PskTags.{rand_of}
use Rattle.peer_machine.specs.PeerTable.{PeerNow}
use Rattle.server_machine.specs.ServerTable.{ServerNow}
use Rattle.eap_world.specs.Judgement.{is_success}
use Rattle.eap_world.specs.World.{WorldNow}
use Rattle.world_laws.specs.Whole.{IsWhole}
use Rattle.method_laws.specs.ByMethod.{by_kind}
use Rattle.world_laws.specs.EachConversation.{AreTwoOf, IsOneOf, OfPeer, OfServer}
use Rattle.world_laws.specs.EachConversation.{peer_conversations, server_conversations}
use Rattle.login_laws.specs.Matching.{RestsOn}
use Rattle.world_laws.specs.Runs.{run_of}
use Rattle.eap_method.specs.BothPeers.{psk_in}
use Rattle.eap_method.specs.BothPeers.{gpsk_in}

-- what the Session-Id of a login is made from: its report, and the nonces, of which EAP-PSK has 16
-- octets each
pub record SessionOf : Type 0 where
  pub report : Report
  pub rand_p : List ℕ
  pub rand_s : List ℕ

abbrev pub psk_session_id : SessionOf → List ℕ
psk_session_id x = psk_id x.rand_p x.rand_s

abbrev pub input_of : SessionOf → List ℕ
input_of x = input_string x.rand_p x.report.id_p x.rand_s x.report.id_s

abbrev pub gpsk_session_id : (Suite → List ℕ) → SessionOf → Option Suite → Option (List ℕ)
gpsk_session_id key x None = None
gpsk_session_id key x (Some suite) = Some (gpsk_id suite (key suite) (input_of x))

abbrev pub session_id : (Suite → List ℕ) → SessionOf → Option (List ℕ)
session_id key x = if x.report.method == psk_kind then Some (psk_session_id x)
    else gpsk_session_id key x (suite_numbered x.report.suite)

-- ---- what an end has of it, if its method has succeeded

abbrev pub if_won : Bool → SessionOf → Option SessionOf
if_won good x = if good then Some x else None

abbrev pub psk_peer_session : psk_peer.View → Option SessionOf
psk_peer_session psk_peer.unset = None
psk_peer_session (psk_peer.fresh cred nonce) = None
psk_peer_session (psk_peer.wait login) = None
psk_peer_session (psk_peer.over login good) = if_won good (record {
  report = psk_peer.report_of login;
  rand_p = rand_of login.nonce;
  rand_s = login.rand_s;
})

abbrev pub gpsk_peer_session : gpsk_peer.View → Option SessionOf
gpsk_peer_session gpsk_peer.unset = None
gpsk_peer_session (gpsk_peer.fresh cred nonce) = None
gpsk_peer_session (gpsk_peer.wait login) = None
gpsk_peer_session (gpsk_peer.over login good) = if_won good
    (record { report = gpsk_peer.report_of login; rand_p = login.nonce; rand_s = login.rand_s })

abbrev pub peer_session_of : PeerNow → Option ℕ → Option SessionOf
peer_session_of now None = None
peer_session_of now (Some kind) = by_kind (kind == psk_kind) (kind == gpsk_kind)
    (psk_peer_session (psk_in now.views)) (gpsk_peer_session (gpsk_in now.views))

abbrev pub peer_session : PeerNow → Option SessionOf
peer_session now = peer_session_of now now.vars.selected

abbrev pub psk_server_session : Option psk_server.View → Option SessionOf
psk_server_session (Some (psk_server.over login good)) = if_won good (record {
  report = psk_server.report_of login;
  rand_p = login.rand_p;
  rand_s = rand_of login.nonce;
})
psk_server_session view = None

abbrev pub gpsk_server_session : Option gpsk_server.View → Option SessionOf
gpsk_server_session (Some (gpsk_server.over login good)) = if_won good
    (record { report = gpsk_server.report_of login; rand_p = login.rand_p; rand_s = login.nonce })
gpsk_server_session view = None

abbrev pub server_session_of : ServerNow → Option ℕ → Option SessionOf
server_session_of now None = None
server_session_of now (Some kind) = by_kind (kind == psk_kind) (kind == gpsk_kind)
    (psk_server_session (psk_at now.views)) (gpsk_server_session (gpsk_at now.views))

abbrev pub server_session : ServerNow → Option SessionOf
server_session now = server_session_of now now.vars.current

-- two ends make the Session-Id from the same
pub record HaveOneSession (p : OfPeer) (s : OfServer) : Type 0 where
  pub session : SessionOf
  pub at_peer : peer_session p.now ≡ Some session
  pub at_server : server_session s.now ≡ Some session
  pub same : (key : Suite → List ℕ) (one other : SessionOf) → peer_session p.now ≡ Some one
      → server_session s.now ≡ Some other
      → session_id key one ≡ session_id key other

-- two Session-Ids differ: by EAP-PSK in their octets, by EAP-GPSK in what the KDF derives them from
pub record AreOfTwo (one other : SessionOf) : Type 0 where
  pub by_psk : one.report.method ≡ psk_kind → other.report.method ≡ psk_kind
      → psk_session_id one ≡ psk_session_id other → ⊥
  pub by_gpsk : one.report.method ≡ gpsk_kind → other.report.method ≡ gpsk_kind
      → (suite its : Suite)
      → method_id_input suite (input_of one) ≡ method_id_input its (input_of other) → ⊥

pub record HaveSessions (w : WorldNow) (peers : List OfPeer)
    (servers : List OfServer) : Type 0 where
  -- of two conversations in SUCCESS that rest on each other
  pub same : (p : OfPeer) → IsOneOf p peers → is_success p.now.vars.state ≡ true → (s : OfServer)
      → IsOneOf s servers → is_success s.now.vars.state ≡ true
      → RestsOn p.accepted s.made → RestsOn s.accepted p.made → HaveOneSession p s
  -- of two conversations of the peer, if nonces are fresh
  pub apart : w.conversations.fresh ≡ true → (p q : OfPeer) → AreTwoOf p q peers
      → (one other : SessionOf) → peer_session p.now ≡ Some one → peer_session q.now ≡ Some other
      → AreOfTwo one other

abbrev pub SessionIdsMatch : Type 0
SessionIdsMatch =
    (setup : Setup) (events : List Event) → IsWhole setup
    → HaveSessions (run_of setup events) (peer_conversations setup events)
    (server_conversations setup events)
