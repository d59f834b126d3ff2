-- What one end's success tells by itself of the other end.
use Rattle.std.proofs.Common.{Option, ◌≡◌, List, true, Some, sym, ap, subst, ◌∙◌}
use Rattle.login_setup.specs.declared.setup.Setup.{Setup}
use Rattle.eap_method.specs.declared.tags.TagRecord.{TagRecord}
use Rattle.eap_method.specs.declared.values.Report.{Report}
use Rattle.peer_machine.specs.PeerTable as peers
use Rattle.peer_machine.specs.PeerTable.{PeerNow}
use Rattle.server_machine.specs.ServerTable as servers
use Rattle.server_machine.specs.ServerTable.{ServerNow}
use Rattle.world_laws.specs.Whole.{IsWhole}
use Rattle.login_laws.specs.Alone.{PeerIsAccepted, PeerKnows, ServerAccepts}
use Rattle.world_laws.specs.EachConversation.{IsOneOf, OfPeer, OfServer, peer_nonce, server_nonce}
use Rattle.login_laws.specs.Matching.{HaveNonces, PeerMatches, RestsOn, ServerRests}
use Rattle.method_laws.specs.Records.{IsIn, tags_by}
use Rattle.world_laws.proofs.EndInvariants.{BothInvariantFirst}
use Rattle.login_laws.proofs.Matching.{AllKnown}
use Rattle.login_laws.proofs.Matching as matching
use Rattle.login_laws.proofs.OneLogin.{first_is_in}
use Rattle.world_laws.proofs.OneOf.{accepted_in, of_last, produced_in}
use Rattle.login_laws.proofs.Resting.{peers_login, servers_login, whole_login}
use Rattle.method_laws.proofs.Among.{first_in}
use Rattle.method_laws.proofs.Succeeding.{server_succeeds}
use Rattle.eap_world.specs.Conversations.{front}
use Rattle.eap_world.specs.Judgement.{is_success}
use Rattle.eap_world.specs.World.{WorldNow}
use Rattle.tag_book.specs.declared.book.End.TheVariants as end
use Rattle.tag_book.specs.declared.book.Use.TheVariants.{Accepted, Made}
use Rattle.world_laws.proofs.EndTags.{peer_tags, server_success, server_tags}

module _ (setup : Setup) (last : WorldNow) (ps : List OfPeer) (ss : List OfServer)
    (all : AllKnown setup last ps ss) where
  -- of a conversation of the peer that rests on one of the server, which rests on it
  accepted_on : (p : OfPeer) → IsOneOf p ps → is_success p.now.vars.state ≡ true → (on : OfServer)
      → IsOneOf on ss → RestsOn p.accepted on.made
      → RestsOn on.accepted p.made → HaveNonces p on → PeerIsAccepted setup last.book ss p.now
  accepted_on p is p_in on on_is rests back hold =
      let known = all.peers p is in
      let on_known = all.servers on on_is in
      let asks = matching.server_asking setup on on_known (front (peer_nonce p)) hold.rand_p in
      let login = peers_login (peers.setup_with_nonce setup.peer (peer_nonce p))
      (servers.setup_with_nonce setup.server (server_nonce on)) known.size on_known.size
      p.now p.accepted p.made (matching.peer_won setup p known p_in)
      on.now.vars.current on.now.views on.accepted on.made (server_tags on_known.stands)
      (first_in p.accepted on.made rests.tag rests.more rests.first rests.is_made)
      (first_in on.accepted p.made back.tag back.more back.first back.is_made) in
      record {
        on = on;
        is_one = on_is;
        rand_s = hold.rand_s;
        rand_p = hold.rand_p;
        whole = hold.one.whole;
        tag = asks.tag;
        accepted = first_is_in asks.tag asks.rest on.accepted asks.first;
        made = subst (λ (l : List TagRecord). IsIn asks.tag l) (sym all.are.initial_peer)
            (produced_in asks.tag p ps is
            (matching.is_first on.accepted p.made asks.tag asks.rest asks.first back));
        only = asks.made;
        report = login.report;
        holds = login.holds;
        same = login.login.same;
        keyed = record {
          id_s = login.login.id_s;
          user = login.login.user;
          known = login.login.known;
          key = login.login.key;
        };
        id_p = login.id_p;
      }

  -- of a conversation of the server that rests on one of the peer
  accepts_on : (s : OfServer) → IsOneOf s ss → is_success s.now.vars.state ≡ true → (on : OfPeer)
      → IsOneOf on ps → RestsOn s.accepted on.made
      → HaveNonces on s → ServerAccepts setup last.book ps s.now
  accepts_on s is s_in on on_is rests hold =
      let known = all.servers s is in
      let on_known = all.peers on on_is in
      let asks = matching.server_asking setup s known (front (peer_nonce on)) hold.rand_p in
      let login = servers_login (peers.setup_with_nonce setup.peer (peer_nonce on))
      (servers.setup_with_nonce setup.server (server_nonce s)) on_known.size known.size
      on.now.vars.selected on.now.views on.accepted on.made (peer_tags on_known.stands) s.now
      s.accepted
      s.made (matching.server_won setup s known s_in)
      (first_in s.accepted on.made rests.tag rests.more rests.first rests.is_made) in
      record {
        on = on;
        is_one = on_is;
        rand_p = hold.rand_p;
        rand_s = hold.rand_s;
        whole = λ selected. hold.one.whole (hold.one.method ∙ selected);
        tag = asks.tag;
        made = matching.is_first s.accepted on.made asks.tag asks.rest asks.first rests;
        accepted = subst (λ (l : List TagRecord). IsIn asks.tag l) (sym all.are.server_accepted)
            (accepted_in asks.tag s ss is (first_is_in asks.tag asks.rest s.accepted asks.first));
        only = asks.made;
        report = login.report;
        holds = login.holds;
        theirs = login.results_to.theirs;
        leads = login.results_to.leads;
        same = login.results_to.same;
        keyed = record {
          id_s = login.id_s;
          user = login.user;
          known = login.known;
          key = login.results_to.key;
        };
        id_p = login.results_to.id_p;
      }

  -- so it is with the present one, if each that has succeeded so matches, or rests
  pub peer_tells : (By : PeerNow → Type 0) → ((p : OfPeer) → IsOneOf p ps
      → is_success p.now.vars.state ≡ true → By p.now → PeerMatches ps ss p)
      → is_success last.parties.peer.vars.state ≡ true → By last.parties.peer
      → PeerIsAccepted setup last.book ss last.parties.peer
  peer_tells By matches =
      of_last ps last.parties.peer all.are.peer_last (λ (now : PeerNow). is_success now.vars.state
      ≡ true → By now → PeerIsAccepted setup last.book ss now)
      (λ p is p_in by.
      (let m = matches p is p_in by in accepted_on p is p_in m.on m.is_one m.rests m.back m.hold))

  pub server_tells : (By : ServerNow → Type 0) → ((s : OfServer) → IsOneOf s ss
      → is_success s.now.vars.state ≡ true → By s.now → ServerRests ps s)
      → is_success last.parties.server.vars.state ≡ true → By last.parties.server
      → ServerAccepts setup last.book ps last.parties.server
  server_tells By rests =
      of_last ss last.parties.server all.are.server_last (λ (now : ServerNow).
      is_success now.vars.state ≡ true → By now → ServerAccepts setup last.book ps now)
      (λ s is s_in by.
      (let r = rests s is s_in by in accepts_on s is s_in r.on r.is_one r.rests r.hold))

-- ---- where no end has begun a second conversation

same_report : (one other : Option Report) (x y : Report) → one ≡ other → one ≡ Some x
    → other ≡ Some y → x ≡ y
same_report one other x y e a b = cc

pub knows : (setup : Setup) → IsWhole setup → (w : WorldNow)
    → BothInvariantFirst setup w.parties w.book
    → ((t : TagRecord) → IsIn t (tags_by end.Server Accepted w.book)
    → IsIn t (tags_by end.Peer Made w.book))
    → ((t : TagRecord) → IsIn t (tags_by end.Peer Accepted w.book)
    → IsIn t (tags_by end.Server Made w.book))
    → is_success w.parties.server.vars.state ≡ true → PeerKnows setup w
knows setup whole w both theirs back s_in =
    let p = w.parties.peer in
    let s = w.parties.server in
    let stands = both.server_invariant in
    let won = server_succeeds setup.server _ _ _ _ (server_tags stands)
    (server_success stands s_in) in
    let login = servers_login setup.peer setup.server whole.peer_nonce whole.server_nonce
    p.vars.selected p.views _ _ (peer_tags both.peer_invariant) s _ _ won
    (record { is = λ t rest first. theirs t (first_is_in t rest _ first) }) in
    let same = whole_login setup.peer setup.server whole.peer_nonce whole.server_nonce
    p.vars.selected p.views _ _ (peer_tags both.peer_invariant) s _ _ won theirs back in
    let one =
    same_report _ _ login.results_to.theirs login.report same login.results_to.leads login.holds in
    record {
      report = login.report;
      holds = login.holds;
      same = same ∙ login.holds;
      keyed = record {
        id_s = login.id_s;
        user = login.user;
        known = login.known;
        key = login.results_to.key;
      };
      id_p = ap (λ (r : Report). r.id_p) (sym one) ∙ login.results_to.id_p;
    }
