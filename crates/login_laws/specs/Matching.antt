-- Matching conversations: each one in SUCCESS, present or past, rests on one of the other end, and
-- no two of an end on the same.
use Rattle.std.specs.Prelude.{◌≡◌, List, ◌∷◌, map, true, None, Some}
use Rattle.octet_lists.specs.Among.{psk_kind}
use Rattle.login_setup.specs.declared.event.Event.{Event}
use Rattle.login_setup.specs.declared.setup.Setup.{Setup}
use Rattle.eap_method.specs.declared.tags.TagRecord.{TagRecord}
use Rattle.eap_method.specs.declared.values.Report.{Report}
use Rattle.peer_machine.specs.PeerTable as peer_table
use Rattle.peer_machine.specs.PeerTable.{peer_reports}
use Rattle.server_machine.specs.ServerTable as server_table
use Rattle.server_machine.specs.ServerTable.{server_reports}
use Rattle.world_laws.specs.Whole.{IsWhole}
use Rattle.login_laws.specs.Alone.{SameKeys}
use Rattle.tag_book.specs.Book.{tags_verdict, tags_verdict_either}
use Rattle.eap_world.specs.Conversations.{front}
use Rattle.world_laws.specs.EachConversation.{AreTwoOf, IsOneOf, OfPeer, OfServer, all_accepted}
use Rattle.world_laws.specs.EachConversation.{all_produced, last_now, nonces_of, peer_conversations}
use Rattle.world_laws.specs.EachConversation.{peer_knows_nonce, peer_nonce, server_conversations}
use Rattle.world_laws.specs.EachConversation.{server_knows_nonce, server_nonce}
use Rattle.eap_world.specs.Judgement.{is_success, agreement_of}
use Rattle.method_laws.specs.ByMethod.{peer_login, server_login}
use Rattle.method_laws.specs.GpskLogins.{HaveAllOctets}
use Rattle.world_laws.specs.PeerInvariant.{PeerInvariant}
use Rattle.method_laws.specs.Records.{AreFew, IsIn, tags_by}
use Rattle.world_laws.specs.ServerInvariant.{ServerInvariant}
use Rattle.eap_world.specs.World.{WorldNow}
use Rattle.tag_book.specs.declared.book.End.TheVariants as end
use Rattle.tag_book.specs.declared.book.TagsVerdict.TheVariants.{Honest}
use Rattle.tag_book.specs.declared.book.Use.TheVariants.{Accepted, Made}
use Rattle.world_laws.specs.Runs.{run_of}

-- a conversation that accepted these tags rests on one of the other end, which made those: the
-- first tag that it accepted is among them. At the server the first one is MAC_P of PSK-2 (RFC 4764
-- section 5.2) or the MAC of GPSK-2 (RFC 5433 section 9.2), which cover both nonces; at the peer
-- MAC_S of PSK-3, which covers the peer's, or the MAC of GPSK-3, which covers both
pub record RestsOn (accepted made : List TagRecord) : Type 0 where
  pub tag : TagRecord
  pub more : List TagRecord
  pub first : accepted ≡ tag ∷ more
  pub is_made : IsIn tag made

-- a peer's and a server's conversation have one method; by EAP-GPSK they have all 32 octets of each
-- other's nonces
pub record AreOfOne (p : OfPeer) (s : OfServer) : Type 0 where
  pub method : p.now.vars.selected ≡ s.now.vars.current
  pub whole : HaveAllOctets p.now.vars.selected p.now.views (peer_nonce p) s.now.views
      (server_nonce s)

-- they have each other's nonces, whose prefixes are all that EAP-PSK has of them (RFC 4764 section
-- 3.2)
pub record HaveNonces (p : OfPeer) (s : OfServer) : Type 0 where
  pub rand_s : peer_knows_nonce p ≡ Some (front (server_nonce s))
  pub rand_p : server_knows_nonce s ≡ Some (front (peer_nonce p))
  pub one : AreOfOne p s

-- both report the same, keys included, and both policies allow it
abbrev pub ReportsAgree : OfPeer → OfServer → Type 0
ReportsAgree p s = agreement_of p.now.vars.setup s.now.vars.setup (peer_reports
    p.now) (server_reports s.now) ≡ true

-- the login of a conversation of the peer has the method, the suite, the MSK and the EMSK that one
-- of the server reports
pub record HasSameKeys (p : OfPeer) (s : OfServer) : Type 0 where
  pub report : Report
  pub holds : server_reports s.now ≡ Some report
  pub theirs : Report
  pub leads : peer_login p.now.vars.selected p.now.views ≡ Some theirs
  pub same : SameKeys report theirs

-- no two conversations of an end have nonces of the same prefix, no two in SUCCESS rest on the same
-- one of the other end, and one of the server in SUCCESS rests on no two of the peer
pub record NoTwoAlike (peers : List OfPeer) (servers : List OfServer) : Type 0 where
  pub peer_nonces : (p q : OfPeer) → AreTwoOf p q peers
      → front (peer_nonce p) ≡ front (peer_nonce q) → ⊥
  pub server_nonces : (s t : OfServer) → AreTwoOf s t servers
      → front (server_nonce s) ≡ front (server_nonce t) → ⊥
  pub peers_apart : (p q : OfPeer) → AreTwoOf p q peers → is_success p.now.vars.state ≡ true
      → is_success q.now.vars.state ≡ true
      → (s : OfServer) → IsOneOf s servers → RestsOn p.accepted s.made
      → RestsOn q.accepted s.made → ⊥
  pub servers_apart : (s t : OfServer) → AreTwoOf s t servers → is_success s.now.vars.state ≡ true
      → is_success t.now.vars.state ≡ true
      → (p : OfPeer) → IsOneOf p peers → RestsOn s.accepted p.made → RestsOn t.accepted p.made → ⊥
  pub server_on_one : (s : OfServer) → IsOneOf s servers → is_success s.now.vars.state ≡ true
      → (p q : OfPeer) → AreTwoOf p q peers → RestsOn s.accepted p.made
      → RestsOn s.accepted q.made → ⊥

-- a conversation of the server rests on one of the peer, and they have each other's nonces
pub record ServerRests (peers : List OfPeer) (s : OfServer) : Type 0 where
  pub on : OfPeer
  pub is_one : IsOneOf on peers
  pub rests : RestsOn s.accepted on.made
  pub hold : HaveNonces on s

-- a conversation of the peer rests on one of the server, which has its nonce; by EAP-GPSK they have
-- each other's
pub record PeerRests (servers : List OfServer) (p : OfPeer) : Type 0 where
  pub on : OfServer
  pub is_one : IsOneOf on servers
  pub rests : RestsOn p.accepted on.made
  pub rand_p : server_knows_nonce on ≡ Some (front (peer_nonce p))
  pub one : AreOfOne p on

-- a conversation of the server rests on one of the peer and on no other, no other one in SUCCESS
-- rests on that, and they have each other's nonces
pub record ServerMatches (peers : List OfPeer) (servers : List OfServer)
    (s : OfServer) : Type 0 where
  pub on : OfPeer
  pub is_one : IsOneOf on peers
  pub rests : RestsOn s.accepted on.made
  pub hold : HaveNonces on s
  pub no_other : (p : OfPeer) → IsOneOf p peers → RestsOn s.accepted p.made → p ≡ on
  pub by_no_other : (t : OfServer) → IsOneOf t servers → is_success t.now.vars.state ≡ true
      → RestsOn t.accepted on.made → t ≡ s

-- a conversation of the peer rests on one of the server and on no other, and that rests on it; no
-- other one in SUCCESS of either end rests on either of them, and they have each other's nonces. If
-- that is in SUCCESS too, what both report agrees
pub record PeerMatches (peers : List OfPeer) (servers : List OfServer) (p : OfPeer) : Type 0 where
  pub on : OfServer
  pub is_one : IsOneOf on servers
  pub rests : RestsOn p.accepted on.made
  pub back : RestsOn on.accepted p.made
  pub hold : HaveNonces p on
  pub no_other : (s : OfServer) → IsOneOf s servers → RestsOn p.accepted s.made → s ≡ on
  pub by_no_other : (q : OfPeer) → IsOneOf q peers → is_success q.now.vars.state ≡ true
      → RestsOn q.accepted on.made → q ≡ p
  pub back_by_no_other : (s : OfServer) → IsOneOf s servers → is_success s.now.vars.state ≡ true
      → RestsOn s.accepted p.made → s ≡ on
  pub agree : is_success on.now.vars.state ≡ true → ReportsAgree p on

-- what holds of all conversations, past and present, at each moment of a run
pub record Match (w : WorldNow) (peers : List OfPeer) (servers : List OfServer) : Type 0 where
  -- if nonces are fresh
  pub apart : w.conversations.fresh ≡ true → NoTwoAlike peers servers
  -- if each accepted tag was made earlier by either end, in whichever conversation
  pub servers_rest : tags_verdict_either w.book ≡ Honest → (s : OfServer) → IsOneOf s servers
      → is_success s.now.vars.state ≡ true → ServerRests peers s
  -- and nonces are fresh besides
  pub servers_match : tags_verdict_either w.book ≡ Honest → w.conversations.fresh ≡ true
      → (s : OfServer) → IsOneOf s servers → is_success s.now.vars.state ≡ true
      → ServerMatches peers servers s
  -- if each accepted tag was made earlier by the other end
  pub peers_rest : tags_verdict w.book ≡ Honest → (p : OfPeer) → IsOneOf p peers
      → is_success p.now.vars.state ≡ true → PeerRests servers p
  -- and nonces are fresh besides
  pub peers_match : tags_verdict w.book ≡ Honest → w.conversations.fresh ≡ true
      → (p : OfPeer) → IsOneOf p peers → is_success p.now.vars.state ≡ true
      → PeerMatches peers servers p
  -- by EAP-PSK also if each was made by either end
  pub psk_peers_match : tags_verdict_either w.book ≡ Honest → w.conversations.fresh ≡ true
      → (p : OfPeer) → IsOneOf p peers → is_success p.now.vars.state ≡ true
      → p.now.vars.selected ≡ Some psk_kind → PeerMatches peers servers p
  -- by EAP-PSK the one of the peer on which one of the server in SUCCESS rests has accepted in its
  -- turn, and rests on that
  pub psk_servers_back : tags_verdict w.book ≡ Honest → w.conversations.fresh ≡ true
      → (s : OfServer) → IsOneOf s servers → is_success s.now.vars.state ≡ true
      → s.now.vars.current ≡ Some psk_kind
      → (p : OfPeer) → IsOneOf p peers → RestsOn s.accepted p.made → RestsOn p.accepted s.made
  -- and its login has succeeded, with just what that reports: PSK-4 says DONE_SUCCESS under a key
  -- that both derive
  pub psk_servers_confirm : tags_verdict w.book ≡ Honest → w.conversations.fresh ≡ true
      → (s : OfServer) → IsOneOf s servers → is_success s.now.vars.state ≡ true
      → s.now.vars.current ≡ Some psk_kind
      → (p : OfPeer) → IsOneOf p peers → RestsOn s.accepted p.made → peer_reports p.now ≡ server_reports s.now
  -- the login of the one of the peer on which one of the server in SUCCESS rests leads to just what
  -- that reports: names, suite and keys
  pub peers_agree : tags_verdict w.book ≡ Honest → w.conversations.fresh ≡ true
      → (s : OfServer) → IsOneOf s servers → is_success s.now.vars.state ≡ true
      → (p : OfPeer) → IsOneOf p peers → RestsOn s.accepted p.made
      → peer_login p.now.vars.selected p.now.views ≡ server_reports s.now
  -- whatever the tags and nonces are: the login of one of the server on which one of the peer in
  -- SUCCESS rests, and which rests on it in its turn, leads to just what the peer's reports
  pub servers_agree : (p : OfPeer) → IsOneOf p peers → is_success p.now.vars.state ≡ true
      → (s : OfServer) → IsOneOf s servers
      → RestsOn p.accepted s.made → RestsOn s.accepted p.made
      → server_login s.now.vars.current s.now.views ≡ peer_reports p.now
  -- and that of one of the peer on which one of the server in SUCCESS rests has the keys which that
  -- reports
  pub same_keys : (s : OfServer) → IsOneOf s servers → is_success s.now.vars.state ≡ true
      → (p : OfPeer) → IsOneOf p peers
      → RestsOn s.accepted p.made → HasSameKeys p s
  -- if one of the server rests on one of the peer, both in SUCCESS: that rests on this too, and
  -- what both report agrees
  pub both_agree : tags_verdict w.book ≡ Honest → w.conversations.fresh ≡ true
      → (p : OfPeer) → IsOneOf p peers → is_success p.now.vars.state ≡ true
      → (s : OfServer) → IsOneOf s servers → is_success s.now.vars.state ≡ true
      → RestsOn s.accepted p.made → RestsOn p.accepted s.made × ReportsAgree p s

abbrev pub ConversationsMatch : Type 0
ConversationsMatch =
    (setup : Setup) (events : List Event) → IsWhole setup
    → Match (run_of setup events) (peer_conversations setup events)
    (server_conversations setup events)

-- ---- the conversations are all

-- one for each that has begun, in order and with its nonce, and each end is in the last of its own;
-- their tags joined are the book's, and the end's state in one determines exactly the tags accepted
-- and made in it, at most two each
pub record AreAll (setup : Setup) (w : WorldNow) (peers : List OfPeer)
    (servers : List OfServer) : Type 0 where
  pub peer_nonces : nonces_of end.Peer w.conversations.begun ≡ map peer_nonce peers
  pub server_nonces : nonces_of end.Server w.conversations.begun ≡ map server_nonce servers
  pub peer_last : last_now None peers ≡ Some w.parties.peer
  pub server_last : last_now None servers ≡ Some w.parties.server
  pub peer_accepted : tags_by end.Peer Accepted w.book ≡ all_accepted peers
  pub initial_peer : tags_by end.Peer Made w.book ≡ all_produced peers
  pub server_accepted : tags_by end.Server Accepted w.book ≡ all_accepted servers
  pub initial_server : tags_by end.Server Made w.book ≡ all_produced servers
  pub peer_invariant : (p : OfPeer) → IsOneOf p peers → PeerInvariant (peer_table.setup_with_nonce
      setup.peer (peer_nonce p)) p.now p.accepted p.made
  pub server_invariant : (s : OfServer) → IsOneOf s servers → ServerInvariant
      (server_table.setup_with_nonce setup.server (server_nonce s)) s.now s.accepted s.made
  pub peer_few : (p : OfPeer) → IsOneOf p peers → AreFew p.accepted p.made
  pub server_few : (s : OfServer) → IsOneOf s servers → AreFew s.accepted s.made

abbrev pub ConversationsAreAll : Type 0
ConversationsAreAll =
    (setup : Setup) (events : List Event) → IsWhole setup
    → AreAll setup (run_of setup events) (peer_conversations setup events)
    (server_conversations setup events)
