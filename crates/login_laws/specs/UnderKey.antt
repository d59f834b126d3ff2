-- Matching conversations of one user of the server, whatever its other users do: what is asked of
-- tags is asked of those under the key that the peer shares with the server, and of no other.
use Rattle.std.specs.Prelude.{◌≡◌, ℕ, List, true, Some}
use Rattle.login_setup.specs.declared.setup.Setup.{Setup}
use Rattle.login_setup.specs.declared.users.User.{User}
use Rattle.login_setup.specs.declared.event.Event.{Event}
use Rattle.login_setup.specs.Users.{user_of}
use Rattle.eap_method.specs.declared.values.Report.{Report}
use Rattle.octet_lists.specs.Among.{psk_kind}
use Rattle.eap_method.specs.Peer.{key_for}
use Rattle.peer_machine.specs.PeerTable.{peer_reports}
use Rattle.server_machine.specs.ServerTable.{ServerNow, server_reports}
use Rattle.tag_book.specs.declared.book.Entry.{Entry}
use Rattle.tag_book.specs.declared.book.TagsVerdict.TheVariants.{Honest}
use Rattle.tag_book.specs.Book.{tags_verdict, tags_verdict_either, under}
use Rattle.eap_world.specs.Judgement.{is_success}
use Rattle.eap_world.specs.World.{WorldNow}
use Rattle.world_laws.specs.Whole.{IsWhole}
use Rattle.method_laws.specs.ByMethod.{peer_login}
use Rattle.world_laws.specs.EachConversation.{IsOneOf, OfPeer, OfServer, peer_conversations}
use Rattle.world_laws.specs.EachConversation.{server_conversations}
use Rattle.login_laws.specs.Matching.{PeerMatches, ReportsAgree, RestsOn, ServerMatches}
use Rattle.world_laws.specs.Runs.{run_of}

-- what the server reports is of a user of this key
pub record IsOfKey (setup : Setup) (key : List ℕ) (now : ServerNow) : Type 0 where
  pub report : Report
  pub holds : server_reports now ≡ Some report
  pub user : User
  pub known : user_of setup.server.users report.id_p report.method ≡ Some user
  pub is_key : user.psk ≡ key

-- what holds of the peer's conversations by a method, and of those of the server with a user of the
-- same key
pub record MatchUnder (setup : Setup) (kind : ℕ) (w : WorldNow) (peers : List OfPeer)
    (servers : List OfServer) : Type 0 where
  pub peers_match : tags_verdict (under (key_for setup.peer kind) w.book) ≡ Honest
      → w.conversations.fresh ≡ true
      → (p : OfPeer) → IsOneOf p peers → is_success p.now.vars.state ≡ true
      → p.now.vars.selected ≡ Some kind → PeerMatches peers servers p
  pub servers_match : tags_verdict_either (under (key_for setup.peer kind) w.book) ≡ Honest
      → w.conversations.fresh ≡ true
      → (s : OfServer) → IsOneOf s servers → is_success s.now.vars.state ≡ true
      → IsOfKey setup (key_for setup.peer kind) s.now → ServerMatches peers servers s
  pub both_agree : tags_verdict (under (key_for setup.peer kind) w.book) ≡ Honest
      → w.conversations.fresh ≡ true
      → (p : OfPeer) → IsOneOf p peers → is_success p.now.vars.state ≡ true
      → p.now.vars.selected ≡ Some kind
      → (s : OfServer) → IsOneOf s servers → is_success s.now.vars.state ≡ true
      → RestsOn s.accepted p.made → RestsOn p.accepted s.made × ReportsAgree p s
  -- the login of the one of the peer on which one of the server in SUCCESS rests leads to just what
  -- that reports
  pub peers_agree : tags_verdict (under (key_for setup.peer kind) w.book) ≡ Honest
      → w.conversations.fresh ≡ true
      → (s : OfServer) → IsOneOf s servers → is_success s.now.vars.state ≡ true
      → IsOfKey setup (key_for setup.peer kind) s.now
      → (p : OfPeer) → IsOneOf p peers → RestsOn s.accepted p.made
      → peer_login p.now.vars.selected p.now.views ≡ server_reports s.now
  -- by EAP-PSK that login has succeeded: it rests on this one of the server, and reports just what
  -- that does
  pub psk_servers_confirm : tags_verdict (under (key_for setup.peer kind) w.book) ≡ Honest → w.conversations.fresh ≡ true
      → (s : OfServer) → IsOneOf s servers → is_success s.now.vars.state ≡ true
      → IsOfKey setup (key_for setup.peer kind) s.now
      → s.now.vars.current ≡ Some psk_kind → (p : OfPeer) → IsOneOf p peers
      → RestsOn s.accepted p.made
      → RestsOn p.accepted s.made × (peer_reports p.now ≡ server_reports s.now)

abbrev pub ConversationsMatchUnder : Type 0
ConversationsMatchUnder =
    (setup : Setup) (events : List Event) (kind : ℕ) → IsWhole setup
    → MatchUnder setup kind (run_of setup events) (peer_conversations setup events)
    (server_conversations setup events)

-- a book that is honest is honest under each key
abbrev pub HonestUnder : Type 0
HonestUnder =
    (key : List ℕ) (book : List Entry)
    → (tags_verdict book ≡ Honest → tags_verdict (under key book) ≡ Honest)
    × (tags_verdict_either book ≡ Honest → tags_verdict_either (under key book) ≡ Honest)
