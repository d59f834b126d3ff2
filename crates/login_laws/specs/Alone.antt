-- What one end's success implies by itself of the other end.
use Rattle.std.specs.Prelude.{◌≡◌, List, ◌++◌, length, true, Some}
use Rattle.login_setup.specs.declared.event.Event.{Event}
use Rattle.login_setup.specs.declared.setup.Setup.{Setup}
use Rattle.login_setup.specs.declared.users.User.{User}
use Rattle.octet_lists.specs.Among.{psk_kind}
use Rattle.login_setup.specs.Users.{user_of}
use Rattle.eap_method.specs.declared.tags.TagRecord.{TagRecord}
use Rattle.eap_method.specs.declared.values.Report.{Report}
use Rattle.eap_method.specs.Peer.{key_for}
use Rattle.peer_machine.specs.PeerTable.{PeerNow, peer_reports}
use Rattle.server_machine.specs.ServerTable.{ServerNow, server_reports}
use Rattle.world_laws.specs.Whole.{IsWhole}
use Rattle.tag_book.specs.Book.{tags_verdict, tags_verdict_either}
use Rattle.tag_book.specs.declared.book.Entry.{Entry}
use Rattle.eap_world.specs.Conversations.{front}
use Rattle.method_laws.specs.ByMethod.{peer_foreign, peer_login, server_foreign, server_login}
use Rattle.world_laws.specs.EachConversation.{IsOneOf, OfPeer, OfServer, peer_conversations}
use Rattle.world_laws.specs.EachConversation.{peer_knows_nonce, peer_nonce, server_conversations}
use Rattle.world_laws.specs.EachConversation.{server_knows_nonce, server_nonce}
use Rattle.method_laws.specs.GpskLogins.{HaveSameNames, HaveAllOctets}
use Rattle.eap_world.specs.Judgement.{is_success}
use Rattle.method_laws.specs.Records.{IsIn, tags_by}
use Rattle.method_laws.specs.TagOwners.{OnlyByPeer}
use Rattle.eap_world.specs.World.{WorldNow}
use Rattle.tag_book.specs.declared.book.End.TheVariants as end
use Rattle.tag_book.specs.declared.book.TagsVerdict.TheVariants.{Honest}
use Rattle.tag_book.specs.declared.book.Use.TheVariants.{Accepted, Made}
use Rattle.world_laws.specs.Runs.{run_of}

-- two logins have the same method, suite, MSK and EMSK; both names joined are the same, as MAC_P
-- covers them (RFC 4764 section 5.2), and by EAP-GPSK each is
pub record SameKeys (one other : Report) : Type 0 where
  pub method : one.method ≡ other.method
  pub suite : one.suite ≡ other.suite
  pub msk : one.msk ≡ other.msk
  pub emsk : one.emsk ≡ other.emsk
  pub joined : one.id_p ++ one.id_s ≡ other.id_p ++ other.id_s
  pub whole : HaveSameNames one other

-- a report has the server's own name, and the server has a user of its other name and that method
-- with the peer's own key
pub record HasPeersKey (setup : Setup) (report : Report) : Type 0 where
  pub id_s : report.id_s ≡ setup.server.name
  pub user : User
  pub known : user_of setup.server.users report.id_p report.method ≡ Some user
  pub key : user.psk ≡ key_for setup.peer report.method

-- one of the server's conversations and the peer's present one have each other's nonces, by
-- EAP-GPSK all 32 octets; and the server's has accepted a tag that the peer made, and that only one
-- of the peer's with these nonces can have made
pub record PeerIsAccepted (setup : Setup) (book : List Entry) (servers : List OfServer)
    (now : PeerNow) : Type 0 where
  pub on : OfServer
  pub is_one : IsOneOf on servers
  pub rand_s : peer_foreign now.vars.selected now.views ≡ Some (front (server_nonce on))
  pub rand_p : server_knows_nonce on ≡ Some (front now.vars.setup.nonce)
  pub whole : HaveAllOctets now.vars.selected now.views now.vars.setup.nonce on.now.views
      (server_nonce on)
  pub tag : TagRecord
  pub accepted : IsIn tag on.accepted
  pub made : IsIn tag (tags_by end.Peer Made book)
  pub only : OnlyByPeer tag (front now.vars.setup.nonce) (front (server_nonce on))
  -- what the peer reports is what the login of that conversation leads to: names, suite, MSK and
  -- EMSK
  pub report : Report
  pub holds : peer_reports now ≡ Some report
  pub same : server_login on.now.vars.current on.now.views ≡ Some report
  pub keyed : HasPeersKey setup report
  pub id_p : report.id_p ≡ setup.peer.name

-- one of the peer's conversations and the server's present one have each other's nonces, by
-- EAP-GPSK all 32 octets; and the server has accepted a tag that the peer's made, and that only one
-- of the peer's with these nonces can have made
pub record ServerAccepts (setup : Setup) (book : List Entry) (peers : List OfPeer)
    (now : ServerNow) : Type 0 where
  pub on : OfPeer
  pub is_one : IsOneOf on peers
  pub rand_p : server_foreign now.vars.current now.views ≡ Some (front (peer_nonce on))
  pub rand_s : peer_knows_nonce on ≡ Some (front now.vars.setup.nonce)
  pub whole : HaveAllOctets now.vars.current on.now.views
      (peer_nonce on) now.views now.vars.setup.nonce
  pub tag : TagRecord
  pub made : IsIn tag on.made
  pub accepted : IsIn tag (tags_by end.Server Accepted book)
  pub only : OnlyByPeer tag (front (peer_nonce on)) (front now.vars.setup.nonce)
  -- what the server reports has the keys to which the login of that conversation leads
  pub report : Report
  pub holds : server_reports now ≡ Some report
  pub theirs : Report
  pub leads : peer_login on.now.vars.selected on.now.views ≡ Some theirs
  pub same : SameKeys report theirs
  pub keyed : HasPeersKey setup report
  pub id_p : theirs.id_p ≡ setup.peer.name

-- the login of the peer leads to just what the server reports
pub record PeerKnows (setup : Setup) (w : WorldNow) : Type 0 where
  pub report : Report
  pub holds : server_reports w.parties.server ≡ Some report
  pub same : peer_login w.parties.peer.vars.selected w.parties.peer.views ≡ Some report
  pub keyed : HasPeersKey setup report
  pub id_p : report.id_p ≡ setup.peer.name

-- what one end's success implies
pub record ImpliedByOne (setup : Setup) (w : WorldNow) (peers : List OfPeer)
    (servers : List OfServer) : Type 0 where
  -- the peer's, if the other end made each accepted tag and nonces are fresh; by EAP-PSK it may
  -- also be one of its own
  pub by_peer : tags_verdict w.book ≡ Honest → w.conversations.fresh ≡ true
      → is_success w.parties.peer.vars.state ≡ true
      → PeerIsAccepted setup w.book servers w.parties.peer
  pub by_psk_peer : tags_verdict_either w.book ≡ Honest → w.conversations.fresh ≡ true
      → is_success w.parties.peer.vars.state ≡ true
      → w.parties.peer.vars.selected ≡ Some psk_kind
      → PeerIsAccepted setup w.book servers w.parties.peer
  -- the server's, if each accepted tag was made by either end
  pub by_server : tags_verdict_either w.book ≡ Honest → is_success w.parties.server.vars.state
      ≡ true → ServerAccepts setup w.book peers w.parties.server
  -- and as long as no end has begun a second conversation, if each was made by the other end
  pub by_server_once : tags_verdict w.book ≡ Honest → length w.conversations.begun ≡ 2
      → is_success w.parties.server.vars.state ≡ true → PeerKnows setup w

-- whatever the other end does, and whichever of its conversations it was
abbrev pub OneEndImplies : Type 0
OneEndImplies =
    (setup : Setup) (events : List Event) → IsWhole setup
    → ImpliedByOne setup (run_of setup events) (peer_conversations setup events)
    (server_conversations setup events)
