-- Any number of ends: the conversations of any number of runs match as those of one run do. The
-- settings of these runs differ in nonces, and in what is at the other side. Nothing is asked of
-- the order in which anything happened.
use Rattle.std.specs.Prelude.{◌≡◌, ℕ, List, true, Some}
use Rattle.login_setup.specs.declared.event.Event.{Event}
use Rattle.login_setup.specs.declared.setup.Setup.{Setup}
use Rattle.eap_method.specs.Peer.{key_for}
use Rattle.eap_method.specs.declared.tags.TagRecord.{TagRecord}
use Rattle.eap_world.specs.Conversations.{front}
use Rattle.eap_world.specs.Judgement.{is_success}
use Rattle.login_laws.specs.Matching.{HasSameKeys, PeerMatches, ReportsAgree, RestsOn}
use Rattle.login_laws.specs.Matching.{ServerMatches}
use Rattle.login_laws.specs.UnderKey.{IsOfKey}
use Rattle.method_laws.specs.ByMethod.{server_login}
use Rattle.method_laws.specs.Records.{IsIn}
use Rattle.peer_machine.specs.PeerTable as peers
use Rattle.peer_machine.specs.PeerTable.{peer_reports}
use Rattle.server_machine.specs.ServerTable as servers
use Rattle.world_laws.specs.EachConversation.{AreTwoOf, IsOneOf, OfPeer, OfServer, all_produced}
use Rattle.world_laws.specs.EachConversation.{peer_conversations, peer_nonce}
use Rattle.world_laws.specs.EachConversation.{server_conversations, server_nonce}
use Rattle.world_laws.specs.Whole.{IsWhole}

-- a conversation of a peer of these settings, with a nonce of its own, in some run
pub record IsOfSomePeer (setup : Setup) (p : OfPeer) : Type 0 where
  pub run : Setup
  pub events : List Event
  pub whole : IsWhole run
  pub own : run.peer ≡ peers.setup_with_nonce setup.peer run.peer.nonce
  pub is_one : IsOneOf p (peer_conversations run events)

-- and one of a server of these
pub record IsOfSomeServer (setup : Setup) (s : OfServer) : Type 0 where
  pub run : Setup
  pub events : List Event
  pub whole : IsWhole run
  pub own : run.server ≡ servers.setup_with_nonce setup.server run.server.nonce
  pub is_one : IsOneOf s (server_conversations run events)

pub record AreOfSomeRuns (setup : Setup) (ps : List OfPeer) (ss : List OfServer) : Type 0 where
  pub peers : (p : OfPeer) → IsOneOf p ps → IsOfSomePeer setup p
  pub servers : (s : OfServer) → IsOneOf s ss → IsOfSomeServer setup s

-- no two of one role have nonces whose first 16 octets are the same
pub record NoncesDiffer (ps : List OfPeer) (ss : List OfServer) : Type 0 where
  pub peers : (p q : OfPeer) → AreTwoOf p q ps → front (peer_nonce p) ≡ front (peer_nonce q) → ⊥
  pub servers : (s t : OfServer) → AreTwoOf s t ss
      → front (server_nonce s) ≡ front (server_nonce t) → ⊥

-- each tag under a key that an end accepted is among these
pub record AreMade (key : List ℕ) (accepted made : List TagRecord) : Type 0 where
  pub each : (t : TagRecord) → IsIn t accepted → t.psk ≡ key → IsIn t made

-- each tag under a key that one of them accepted is among those that one of the other role made
pub record HonestAmong (key : List ℕ) (ps : List OfPeer) (ss : List OfServer) : Type 0 where
  pub of_peers : (p : OfPeer) → IsOneOf p ps → AreMade key p.accepted (all_produced ss)
  pub of_servers : (s : OfServer) → IsOneOf s ss → AreMade key s.accepted (all_produced ps)

-- what holds of those of the peer's by a method, and of those of the server's with a user of the
-- same key
pub record MatchAmong (setup : Setup) (kind : ℕ) (ps : List OfPeer) (ss : List OfServer)
    : Type 0 where
  pub peers_match : (p : OfPeer) → IsOneOf p ps → is_success p.now.vars.state ≡ true
      → p.now.vars.selected ≡ Some kind → PeerMatches ps ss p
  pub servers_match : (s : OfServer) → IsOneOf s ss → is_success s.now.vars.state ≡ true
      → IsOfKey setup (key_for setup.peer kind) s.now → ServerMatches ps ss s
  -- the login of the one on which one of the server rests has the keys that this reports
  pub same_keys : (s : OfServer) → IsOneOf s ss → is_success s.now.vars.state ≡ true
      → (p : OfPeer) → IsOneOf p ps → RestsOn s.accepted p.made → HasSameKeys p s
  -- that of the one on which one of the peer rests leads to what this reports
  pub servers_agree : (p : OfPeer) → IsOneOf p ps → is_success p.now.vars.state ≡ true
      → (s : OfServer) → IsOneOf s ss → RestsOn p.accepted s.made → RestsOn s.accepted p.made
      → server_login s.now.vars.current s.now.views ≡ peer_reports p.now
  pub both_agree : (p : OfPeer) → IsOneOf p ps → is_success p.now.vars.state ≡ true
      → p.now.vars.selected ≡ Some kind
      → (s : OfServer) → IsOneOf s ss → is_success s.now.vars.state ≡ true
      → RestsOn s.accepted p.made → RestsOn p.accepted s.made × ReportsAgree p s

abbrev pub AnyEndsMatch : Type 0
AnyEndsMatch =
    (setup : Setup) (kind : ℕ) (ps : List OfPeer) (ss : List OfServer)
    → AreOfSomeRuns setup ps ss → NoncesDiffer ps ss
    → HonestAmong (key_for setup.peer kind) ps ss → MatchAmong setup kind ps ss

-- one of the server's rests on one of the peer's, which has the keys that it reports
pub record MatchesOne (ps : List OfPeer) (ss : List OfServer) (s : OfServer) : Type 0 where
  pub matches : ServerMatches ps ss s
  pub same_keys : (p : OfPeer) → IsOneOf p ps → RestsOn s.accepted p.made → HasSameKeys p s

-- of one server, whatever the peers and the other servers accepted: if one of the peers made each
-- tag that it accepted itself
abbrev pub AnyServerMatches : Type 0
AnyServerMatches =
    (setup : Setup) (kind : ℕ) (ps : List OfPeer) (ss : List OfServer)
    → AreOfSomeRuns setup ps ss → NoncesDiffer ps ss → (s : OfServer) → IsOneOf s ss
    → is_success s.now.vars.state ≡ true → IsOfKey setup (key_for setup.peer kind) s.now
    → AreMade (key_for setup.peer kind) s.accepted (all_produced ps) → MatchesOne ps ss s
