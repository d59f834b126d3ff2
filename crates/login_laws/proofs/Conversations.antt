-- The conversations of every run match, and the success of one end tells of the other.
use Rattle.std.proofs.Common.{◌≡◌, ℕ, Some, true, List, [], ◌∷◌, length, None, refl, sym, ap, subst}
use Rattle.std.proofs.Common.{◌∙◌}
use Rattle.login_setup.specs.declared.event.Event.{Event}
use Rattle.octet_lists.specs.Among.{psk_kind}
use Rattle.login_setup.specs.declared.setup.PeerSetup.{PeerSetup}
use Rattle.login_setup.specs.Setup.{ServerSetup}
use Rattle.login_setup.specs.declared.setup.Setup.{Setup}
use Rattle.peer_machine.specs.PeerTable as peers
use Rattle.peer_machine.specs.PeerTable.{PeerNow}
use Rattle.server_machine.specs.ServerTable as servers
use Rattle.server_machine.specs.ServerTable.{ServerNow, server_reports}
use Rattle.world_laws.specs.Whole.{IsWhole}
use Rattle.login_laws.specs.Alone.{ImpliedByOne, OneEndImplies}
use Rattle.method_laws.specs.ByMethod.{peer_login}
use Rattle.world_laws.specs.EachConversation.{IsOneOf, OfPeer, OfServer, nonces_of, peer_at}
use Rattle.world_laws.specs.EachConversation.{peer_conversations, peer_nonce, server_at}
use Rattle.world_laws.specs.EachConversation.{server_conversations, server_nonce}
use Rattle.login_laws.specs.Matching.{AreAll, ConversationsAreAll, ConversationsMatch, Match}
use Rattle.login_laws.specs.Matching.{RestsOn}
use Rattle.world_laws.specs.PeerInvariant.{PeerInvariant}
use Rattle.method_laws.specs.Records.{tags_by}
use Rattle.world_laws.specs.ServerInvariant.{ServerInvariant}
use Rattle.login_laws.proofs.Alone.{knows, peer_tells, server_tells}
use Rattle.world_laws.proofs.Conversing.{BothConverse, start_converses, starts_so}
use Rattle.world_laws.proofs.EachOf.{Told, walk}
use Rattle.world_laws.proofs.EachTurn.{PeerWell, ServerWell, converses_on, grow, peer_nonce_of}
use Rattle.world_laws.proofs.EachTurn.{peer_turns, peer_used, server_nonce_of, server_turns}
use Rattle.world_laws.proofs.EachTurn.{server_used}
use Rattle.world_laws.proofs.EndInvariants.{every_run_so_far, invariant_first}
use Rattle.world_laws.proofs.HonestOfEither.{none_if_honest}
use Rattle.method_laws.proofs.HonestOther.{honest_other}
use Rattle.login_laws.proofs.Matching.{AllKnown, PeerKnown, ServerKnown}
use Rattle.login_laws.proofs.Matching as matching
use Rattle.world_laws.proofs.PeerPreserves.{peer_few}
use Rattle.login_laws.proofs.PskMatching as psk
use Rattle.login_laws.proofs.Resting.{same_report}
use Rattle.world_laws.proofs.ServerPreserves.{server_few}
use Rattle.tag_book.specs.Book.{first_broken, tags_verdict}
use Rattle.eap_world.specs.Judgement.{is_success}
use Rattle.eap_world.specs.World.{WorldNow, world_start}
use Rattle.tag_book.specs.declared.book.End.TheVariants as end
use Rattle.tag_book.specs.declared.book.Entry.{Entry}
use Rattle.tag_book.specs.declared.book.RecordOwner.TheVariants.{Other}
use Rattle.tag_book.specs.declared.book.TagsVerdict.TheVariants.{Honest}
use Rattle.tag_book.specs.declared.book.Use.TheVariants.{Accepted, Made}
use Rattle.world_laws.specs.Runs.{initial_world, run_of}
use Rattle.world_laws.proofs.EndTags.{peer_tags}

module _ (setup : Setup) (last : WorldNow) (ps : List OfPeer) (ss : List OfServer)
    (all : AllKnown setup last ps ss) where
  peers_agree : tags_verdict last.book ≡ Honest → last.conversations.fresh ≡ true → (s : OfServer)
      → IsOneOf s ss → is_success s.now.vars.state ≡ true
      → (p : OfPeer) → IsOneOf p ps → RestsOn s.accepted p.made
      → peer_login p.now.vars.selected p.now.views ≡ server_reports s.now
  peers_agree honest fresh s s_is s_in p p_is rests =
      let known = all.peers p p_is in
      let s_known = all.servers s s_is in
      same_report (peers.setup_with_nonce setup.peer (peer_nonce p))
      (servers.setup_with_nonce setup.server (server_nonce s)) known.size s_known.size
      p.now.vars.selected p.now.views p.accepted p.made (peer_tags known.stands) s.now _ _
      (matching.server_won setup s s_known s_in) rests (λ by_psk.
      psk.psk_servers_back setup last ps ss all honest fresh s s_is s_in by_psk p p_is rests)

  they_match : Match last ps ss
  they_match = record {
    apart = matching.apart setup last ps ss all;
    servers_rest = matching.servers_rest setup last ps ss all;
    servers_match = matching.servers_match setup last ps ss all;
    peers_rest = matching.peers_rest setup last ps ss all;
    peers_match = matching.peers_match setup last ps ss all;
    psk_peers_match = psk.psk_peers_match setup last ps ss all;
    psk_servers_back = psk.psk_servers_back setup last ps ss all;
    psk_servers_confirm = λ honest fresh s s_is s_in by_psk p p_is rests.
        (psk.psk_servers_confirm setup last ps ss all honest fresh s s_is s_in by_psk p p_is rests
        ∙ peers_agree honest fresh s s_is s_in p p_is rests);
    peers_agree = peers_agree;
    servers_agree = matching.servers_agree setup last ps ss all;
    same_keys = matching.same_keys setup last ps ss all;
    both_agree = matching.agree_both setup last ps ss all;
  }

peer_is_known : (setup : PeerSetup) (p : OfPeer) → PeerWell setup p.now p.accepted p.made
    → PeerKnown setup p
peer_is_known setup p well =
    let same : peer_nonce p ≡ well.nonce = ap (λ (s : PeerSetup). s.nonce) well.stands.own in
    record {
      size = ap length same ∙ well.size;
      stands = subst (λ (n : List ℕ). PeerInvariant (peers.setup_with_nonce setup n)
          p.now p.accepted p.made) (sym same) well.stands;
    }

server_is_known : (setup : ServerSetup) (s : OfServer) → ServerWell setup s.now s.accepted s.made
    → ServerKnown setup s
server_is_known setup s well =
    let same : server_nonce s ≡ well.nonce = ap (λ (x : ServerSetup). x.nonce) well.stands.own in
    record {
      size = ap length same ∙ well.size;
      stands = subst (λ (n : List ℕ). ServerInvariant (servers.setup_with_nonce setup n)
          s.now s.accepted s.made) (sym same) well.stands;
    }

-- ---- every run

module _ (setup : Setup) (events : List Event) (whole : IsWhole setup) where
  abbrev begun : WorldNow
  begun = (world_start (initial_world setup)).after

  abbrev last : WorldNow
  last = run_of setup events

  good : BothConverse setup begun
  good = start_converses setup whole

  book_started : begun.book ≡ []
  unfolding world_start
  book_started = (starts_so setup.mode setup).book

  started_peer : PeerWell setup.peer (peer_at begun) (tags_by end.Peer Accepted [])
      (tags_by end.Peer Made [])
  unfolding world_start tags_by
  started_peer = record {
    nonce = setup.peer.nonce;
    size = whole.peer_nonce;
    stands = (starts_so setup.mode setup).peer.stands;
  }

  started_server : ServerWell setup.server (server_at begun) (tags_by end.Server Accepted [])
      (tags_by end.Server Made [])
  unfolding world_start tags_by
  started_server = record {
    nonce = setup.server.nonce;
    size = whole.server_nonce;
    stands = (starts_so setup.mode setup).server.stands;
  }

  peer_first : nonces_of end.Peer begun.conversations.begun ≡ peer_nonce_of (peer_at begun) ∷ []
  unfolding world_start nonces_of
  peer_first =
      ap (λ (s : PeerSetup). s.nonce ∷ []) (sym (starts_so setup.mode setup).peer.stands.own)

  server_first : nonces_of end.Server begun.conversations.begun
      ≡ server_nonce_of (server_at begun) ∷ []
  unfolding world_start nonces_of
  server_first =
      ap (λ (s : ServerSetup). s.nonce ∷ []) (sym (starts_so setup.mode setup).server.stands.own)

  peers_reported : Told peer_at end.Peer peer_nonce_of (PeerWell setup.peer) begun [] last
      (peer_conversations setup events)
  peers_reported =
      walk peer_at end.Peer peer_nonce_of (PeerWell setup.peer) (BothConverse setup)
      (peer_turns setup) grow (converses_on setup) (peer_used setup)
      begun events 0 [] begun.book good refl refl
      (subst (λ (l : List Entry). PeerWell setup.peer (peer_at begun) (tags_by end.Peer Accepted l)
      (tags_by end.Peer Made l)) (sym book_started) started_peer)

  servers_reported : Told server_at end.Server server_nonce_of (ServerWell setup.server)
      begun [] last (server_conversations setup events)
  servers_reported =
      walk server_at end.Server server_nonce_of (ServerWell setup.server) (BothConverse setup)
      (server_turns setup) grow (converses_on setup) (server_used setup)
      begun events 0 [] begun.book good refl refl
      (subst (λ (l : List Entry). ServerWell setup.server (server_at begun)
      (tags_by end.Server Accepted l) (tags_by end.Server Made l)) (sym book_started)
      started_server)

  peers_known : (p : OfPeer) → IsOneOf p (peer_conversations setup events) → PeerKnown setup.peer p
  peers_known p is_one = peer_is_known setup.peer p (peers_reported.stand p is_one)

  servers_known : (s : OfServer) → IsOneOf s (server_conversations setup events)
      → ServerKnown setup.server s
  servers_known s is_one = server_is_known setup.server s (servers_reported.stand s is_one)

  all_are : AreAll setup last (peer_conversations setup events) (server_conversations setup events)
  all_are = record {
    peer_nonces = peers_reported.nonces [] peer_first;
    server_nonces = servers_reported.nonces [] server_first;
    peer_last = peers_reported.ends None;
    server_last = servers_reported.ends None;
    peer_accepted = ap (tags_by end.Peer Accepted) peers_reported.book ∙ peers_reported.accepted;
    initial_peer = ap (tags_by end.Peer Made) peers_reported.book ∙ peers_reported.made;
    server_accepted =
        ap (tags_by end.Server Accepted) servers_reported.book ∙ servers_reported.accepted;
    initial_server = ap (tags_by end.Server Made) servers_reported.book ∙ servers_reported.made;
    peer_invariant = λ p is_one. (peers_known p is_one).stands;
    server_invariant = λ s is_one. (servers_known s is_one).stands;
    peer_few = λ p is_one. peer_few _ p.now p.accepted p.made (peers_known p is_one).stands;
    server_few = λ s is_one. server_few _ s.now s.accepted s.made (servers_known s is_one).stands;
  }

  pub run_known : AllKnown setup last (peer_conversations setup events)
      (server_conversations setup events)
  run_known = record {
    peers = peers_known;
    servers = servers_known;
    peers_two = peers_reported.two;
    servers_two = servers_reported.two;
    are = all_are;
  }

  run_matches : Match last (peer_conversations setup events) (server_conversations setup events)
  run_matches = they_match setup last (peer_conversations setup events)
      (server_conversations setup events) run_known

-- `walk` cuts a run into the conversations of each end, event by event: in each the invariant of
-- its end holds, with its own tags, and with fresh nonces no two of an end have nonces alike. The
-- first tag that a conversation accepted tells a nonce of the one that made it, so that with fresh
-- nonces it rests on no other. Matching has the proof for both ends, PskMatching what EAP-PSK's
-- PSK-4 adds.
pub conversations_match : ConversationsMatch
conversations_match = run_matches

-- The conversations into which `walk` cuts a run begin with all nonces that were begun with, in
-- order; their tags joined are those of the book, and the last is the present one.
pub conversations_are_all : ConversationsAreAll
conversations_are_all = all_are

module _ (setup : Setup) (events : List Event) (whole : IsWhole setup) where
  abbrev now : WorldNow
  now = run_of setup events

  abbrev IsSuccessOfPeer : PeerNow → Type 0
  IsSuccessOfPeer p = is_success p.vars.state ≡ true

  abbrev IsSuccessOfServer : ServerNow → Type 0
  IsSuccessOfServer s = is_success s.vars.state ≡ true

  implied : ImpliedByOne setup now (peer_conversations setup events)
      (server_conversations setup events)
  implied =
      let all = run_known setup events whole in
      record {
        by_peer = λ honest fresh p_in.
            peer_tells setup now _ _ all IsSuccessOfPeer (λ p is its again.
            matching.peers_match setup now _ _ all honest fresh p is its) p_in p_in;
        by_psk_peer = λ honest fresh. peer_tells setup now _ _ all (λ (p : PeerNow). p.vars.selected
            ≡ Some psk_kind) (psk.psk_peers_match setup now _ _ all honest fresh);
        by_server = λ honest s_in.
            server_tells setup now _ _ all IsSuccessOfServer
            (λ s is its again. matching.servers_rest setup now _ _ all honest s is its) s_in s_in;
        by_server_once = λ honest two s_in.
            (let none = none_if_honest (first_broken Other [] now.book) honest in
            knows setup whole now (invariant_first setup now (every_run_so_far setup events) two)
            (honest_other end.Server now.book none) (honest_other end.Peer now.book none) s_in);
      }

-- The present conversation is the last of its end's. So what holds of each that succeeded holds of
-- it: `peer_tells` says so from the conversations that match, `server_tells` from those that rest
-- on one. If no end has begun a second conversation, `knows` compares both present ones, each of
-- whose accepted tags the other end made.
pub one_end_implies : OneEndImplies
one_end_implies = implied
