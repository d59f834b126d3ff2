-- Matching conversations: each one in SUCCESS rests on one of the other end, and no two of an end
-- on the same.
use Rattle.std.proofs.Common.{◌≡◌, ℕ, true, List, [], ◌∷◌, length, Some, refl, sym, ap, subst, ◌∙◌}
use Rattle.std.proofs.Common.{inl, inr}
use Rattle.login_setup.specs.declared.setup.PeerSetup.{PeerSetup}
use Rattle.login_setup.specs.Setup.{ServerSetup}
use Rattle.login_setup.specs.declared.setup.Setup.{Setup}
use Rattle.eap_method.specs.declared.tags.TagRecord.{TagRecord}
use Rattle.peer_machine.specs.PeerTable as peers
use Rattle.server_machine.specs.ServerTable as servers
use Rattle.peer_machine.specs.PeerTable.{peer_reports}
use Rattle.tag_book.specs.Book.{first_broken, tags_verdict, tags_verdict_either}
use Rattle.eap_world.specs.Conversations.{front}
use Rattle.method_laws.specs.ByMethod.{server_login}
use Rattle.world_laws.specs.EachConversation.{AreTwoOf, IsOneOf, OfPeer, OfServer, all_produced}
use Rattle.world_laws.specs.EachConversation.{peer_knows_nonce, peer_nonce, server_knows_nonce}
use Rattle.world_laws.specs.EachConversation.{server_nonce}
use Rattle.login_laws.specs.Matching.{AreAll, AreOfOne, HasSameKeys, HaveNonces, NoTwoAlike}
use Rattle.login_laws.specs.Matching.{PeerMatches, PeerRests, ReportsAgree, RestsOn, ServerMatches}
use Rattle.login_laws.specs.Matching.{ServerRests}
use Rattle.world_laws.specs.PeerInvariant.{PeerInvariant}
use Rattle.method_laws.specs.Records.{IsIn, tags_by}
use Rattle.world_laws.specs.ServerInvariant.{ServerInvariant}
use Rattle.method_laws.specs.TagOwners.{OnlyByPeer, OnlyByServer, NotByServer, PeerTagOwner}
use Rattle.method_laws.specs.TagOwners.{ServerTagOwner}
use Rattle.method_laws.proofs.Asks.{AsksPeer, AsksServer}
use Rattle.method_laws.proofs.AsksByMethod.{peer_asks}
use Rattle.method_laws.proofs.ServerAsks.{server_asks}
use Rattle.world_laws.proofs.HonestOfEither.{honest_of_either, none_if_honest}
use Rattle.method_laws.proofs.HonestOther.{honest_other}
use Rattle.login_laws.proofs.OneLogin.{first_is_in, one_stored}
use Rattle.world_laws.proofs.OneOf.{accepted_in, first_of, made_in, same_or_two, second_of}
use Rattle.login_laws.proofs.Resting as resting
use Rattle.method_laws.proofs.Among.{first_in, first_in_one}
use Rattle.method_laws.proofs.Succeeding.{peer_succeeds, PeerSucceeds}
use Rattle.method_laws.proofs.Succeeding.{server_succeeds, ServerSucceeds}
use Rattle.login_laws.proofs.SucceedingEnds.{ends_agree, with_nonces}
use Rattle.world_laws.proofs.SucceedingEnds.{agreed}
use Rattle.method_laws.proofs.Succeeding as success
use Rattle.method_laws.proofs.TagsOfEnds.{honest_tags}
use Rattle.eap_world.specs.Judgement.{is_success}
use Rattle.eap_world.specs.World.{WorldNow}
use Rattle.tag_book.specs.declared.book.End.TheVariants as end
use Rattle.tag_book.specs.declared.book.RecordOwner.TheVariants.{Either, Other}
use Rattle.tag_book.specs.declared.book.TagsVerdict.TheVariants.{Honest}
use Rattle.tag_book.specs.declared.book.Use.TheVariants.{Accepted, Made}
use Rattle.world_laws.proofs.EndTags.{peer_success, peer_tags, server_success, server_tags}

-- ---- one conversation

pub record PeerKnown (setup : PeerSetup) (p : OfPeer) : Type 0 where
  pub size : length (peer_nonce p) ≡ 32
  pub stands : PeerInvariant (peers.setup_with_nonce setup (peer_nonce p)) p.now p.accepted p.made

pub record ServerKnown (setup : ServerSetup) (s : OfServer) : Type 0 where
  pub size : length (server_nonce s) ≡ 32
  pub stands : ServerInvariant (servers.setup_with_nonce setup (server_nonce s))
      s.now s.accepted s.made

-- ---- what a conversation that rests on another tells of it

-- the first tag that it accepted is made there
pub is_first : (accepted made : List TagRecord) (tag : TagRecord) (more : List TagRecord)
    → accepted ≡ tag ∷ more → RestsOn accepted made → IsIn tag made
is_first accepted made tag more first r =
    (first_in accepted made r.tag r.more r.first r.is_made).is tag more first

-- what a server in SUCCESS holds, and asks of the peer
pub record Asking (setup : ServerSetup) (s : OfServer) : Type 0 where
  pub foreign : List ℕ
  pub holds : server_knows_nonce s ≡ Some foreign
  pub asks : AsksPeer setup (server_nonce s) foreign s.accepted

module _ (setup : Setup) where
  pub peer_result : (p : OfPeer) → PeerKnown setup.peer p
      → PeerTagOwner setup.peer (peer_nonce p) (peer_knows_nonce p) p.accepted p.made
  peer_result p known = record {
    selected = p.now.vars.selected;
    views = p.now.views;
    tags = peer_tags known.stands;
    held_is = refl;
  }

  pub server_result : (s : OfServer) → ServerKnown setup.server s
      → ServerTagOwner setup.server (server_nonce s) (server_knows_nonce s) s.accepted s.made
  server_result s known = record {
    current = s.now.vars.current;
    views = s.now.views;
    tags = server_tags known.stands;
    held_is = refl;
  }

  pub peer_won : (p : OfPeer) → PeerKnown setup.peer p → is_success p.now.vars.state ≡ true
      → PeerSucceeds (peers.setup_with_nonce setup.peer (peer_nonce p)) p.now.vars.selected
      p.now.views p.accepted p.made
  peer_won p known p_in =
      peer_succeeds (peers.setup_with_nonce setup.peer (peer_nonce p)) _ _
      p.accepted p.made (peer_tags known.stands) (peer_success known.stands p_in)

  pub server_won : (s : OfServer) → ServerKnown setup.server s → is_success s.now.vars.state ≡ true
      → ServerSucceeds (servers.setup_with_nonce setup.server (server_nonce s))
      s.now.vars.current s.now.views s.accepted s.made
  server_won s known s_in = server_succeeds (servers.setup_with_nonce setup.server (server_nonce s))
      _ _ s.accepted s.made (server_tags known.stands) (server_success known.stands s_in)

  -- what a server asks that holds a nonce
  pub server_asking : (s : OfServer) → ServerKnown setup.server s → (foreign : List ℕ)
      → server_knows_nonce s ≡ Some foreign
      → AsksPeer setup.server (server_nonce s) foreign s.accepted
  server_asking s known foreign holds =
      server_asks setup.server (server_nonce s) foreign known.size (server_knows_nonce s)
      s.accepted s.made (server_result s known) holds

  pub server_in : (s : OfServer) → ServerKnown setup.server s → is_success s.now.vars.state ≡ true
      → Asking setup.server s
  server_in s known s_in =
      let held = success.server_knows_nonce (servers.setup_with_nonce setup.server (server_nonce s))
      _ _ s.accepted s.made (server_won s known s_in) in
      record {
        foreign = held.foreign;
        holds = held.is;
        asks = server_asking s known held.foreign held.is;
      }

  pub peer_in : (p : OfPeer) → PeerKnown setup.peer p → is_success p.now.vars.state ≡ true
      → AsksServer (peer_nonce p) p.accepted
  peer_in p known p_in =
      peer_asks setup.peer (peer_nonce p) _ _ p.accepted p.made known.size (peer_won p known p_in)

  -- a tag tells both nonces of the peer's conversation that made it, and the peer's of the server's
  pub made_by : (p : OfPeer) → PeerKnown setup.peer p → (t : TagRecord) (own foreign : List ℕ)
      → OnlyByPeer t own foreign → IsIn t p.made
      → (front (peer_nonce p) ≡ own) × (peer_knows_nonce p ≡ Some foreign)
  made_by p known t own foreign made is = made.tells setup.peer (peer_nonce p) (peer_knows_nonce p)
      p.accepted p.made known.size (peer_result p known) is

  pub made_at : (s : OfServer) → ServerKnown setup.server s → (t : TagRecord) (foreign : List ℕ)
      → OnlyByServer t foreign → IsIn t s.made
      → server_knows_nonce s ≡ Some foreign
  made_at s known t foreign made is = made.tells setup.server (server_nonce s)
      (server_knows_nonce s) s.accepted s.made (server_result s known) is

  -- one of the server in SUCCESS that rests on one of the peer
  pub server_on : (s : OfServer) (known : ServerKnown setup.server s)
      → (s_in : is_success s.now.vars.state ≡ true) → (p : OfPeer) → PeerKnown setup.peer p
      → RestsOn s.accepted p.made → (front (peer_nonce p) ≡ (server_in s known s_in).foreign)
      × (peer_knows_nonce p ≡ Some (front (server_nonce s)))
  server_on s known s_in p p_known r =
      let a = server_in s known s_in in
      made_by p p_known a.asks.tag a.foreign (front (server_nonce s)) a.asks.made
      (is_first s.accepted p.made a.asks.tag a.asks.rest a.asks.first r)

  -- one of the peer in SUCCESS that rests on one of the server
  pub peer_on : (p : OfPeer) → PeerKnown setup.peer p → is_success p.now.vars.state ≡ true
      → (s : OfServer) → ServerKnown setup.server s
      → RestsOn p.accepted s.made → server_knows_nonce s ≡ Some (front (peer_nonce p))
  peer_on p known p_in s s_known r =
      let a = peer_in p known p_in in
      made_at s s_known a.tag (front (peer_nonce p)) a.made
      (is_first p.accepted s.made a.tag a.rest a.first r)

  -- one of the server that rests on one of the peer; and one of the peer in SUCCESS that rests on
  -- one of the server
  pub server_one : (s : OfServer) → ServerKnown setup.server s → (p : OfPeer)
      → PeerKnown setup.peer p → RestsOn s.accepted p.made → AreOfOne p s
  server_one s known p p_known r =
      let are = resting.server_on setup.peer setup.server (peer_nonce p) (server_nonce s)
      p_known.size known.size p.now.vars.selected p.now.views
      s.now.vars.current s.now.views _ _ (server_tags known.stands) _ _ (peer_tags p_known.stands)
      r.tag r.more
      r.first r.is_made in
      record { method = are.method; whole = are.whole }

  pub peer_one : (p : OfPeer) → PeerKnown setup.peer p → is_success p.now.vars.state ≡ true
      → (s : OfServer) → ServerKnown setup.server s
      → RestsOn p.accepted s.made → AreOfOne p s
  peer_one p known p_in s s_known r =
      let are = resting.peer_on setup.peer setup.server (peer_nonce p) (server_nonce s)
      known.size s_known.size p.now s.now.vars.current s.now.views
      _ _ (peer_won p known p_in) _ _ (server_tags s_known.stands) r.tag r.more r.first r.is_made in
      record { method = are.method; whole = are.whole }

  -- two in SUCCESS that rest on each other agree
  pub reports_agree : (p : OfPeer) → PeerKnown setup.peer p → is_success p.now.vars.state ≡ true
      → (s : OfServer) → ServerKnown setup.server s
      → is_success s.now.vars.state ≡ true → RestsOn p.accepted s.made → RestsOn s.accepted p.made
      → ReportsAgree p s
  reports_agree p known p_in s s_known s_in on back =
      let own = with_nonces setup p.now s.now (peer_nonce p) (server_nonce s) in
      rw (known.stands.own, s_known.stands.own)
      (agreed own _ _ (ends_agree own p.now s.now p.accepted p.made s.accepted s.made known.size
      s_known.size known.stands s_known.stands
      (first_in_one p.accepted s.made p.made on.tag on.more on.first on.is_made)
      (first_in_one s.accepted p.made s.made back.tag back.more back.first back.is_made)
      p_in s_in))

  -- the login of one of the peer on which one of the server in SUCCESS rests has the keys that this
  -- reports
  pub keys_of : (s : OfServer) → ServerKnown setup.server s → is_success s.now.vars.state ≡ true
      → (p : OfPeer) → PeerKnown setup.peer p → RestsOn s.accepted p.made → HasSameKeys p s
  keys_of s s_known s_in p known rests =
      let led = resting.servers_login (peers.setup_with_nonce setup.peer (peer_nonce p))
      (servers.setup_with_nonce setup.server (server_nonce s)) known.size s_known.size
      p.now.vars.selected p.now.views p.accepted p.made (peer_tags known.stands) s.now
      s.accepted s.made
      (server_won s s_known s_in)
      (first_in s.accepted p.made rests.tag rests.more rests.first rests.is_made) in
      record {
        report = led.report;
        holds = led.holds;
        theirs = led.results_to.theirs;
        leads = led.results_to.leads;
        same = led.results_to.same;
      }

  -- that of one of the server on which one of the peer in SUCCESS rests, and which rests on it, leads
  -- to what the peer's reports
  pub same_as_reported : (p : OfPeer) → PeerKnown setup.peer p → is_success p.now.vars.state ≡ true
      → (s : OfServer) → ServerKnown setup.server s
      → RestsOn p.accepted s.made → RestsOn s.accepted p.made
      → server_login s.now.vars.current s.now.views ≡ peer_reports p.now
  same_as_reported p known p_in s s_known rests back =
      let led = resting.peers_login (peers.setup_with_nonce setup.peer (peer_nonce p))
      (servers.setup_with_nonce setup.server (server_nonce s)) known.size s_known.size
      p.now p.accepted p.made (peer_won p known p_in)
      s.now.vars.current s.now.views s.accepted s.made (server_tags s_known.stands)
      (first_in p.accepted s.made rests.tag rests.more rests.first rests.is_made)
      (first_in s.accepted p.made back.tag back.more back.first back.is_made) in
      led.login.same ∙ sym led.holds

-- ---- all of them

-- what is known of all conversations of a run that ends in a world
pub record AllKnown (setup : Setup) (last : WorldNow) (ps : List OfPeer)
    (ss : List OfServer) : Type 0 where
  pub peers : (p : OfPeer) → IsOneOf p ps → PeerKnown setup.peer p
  pub servers : (s : OfServer) → IsOneOf s ss → ServerKnown setup.server s
  pub peers_two : last.conversations.fresh ≡ true → (p q : OfPeer) → AreTwoOf p q ps
      → front (peer_nonce p) ≡ front (peer_nonce q) → ⊥
  pub servers_two : last.conversations.fresh ≡ true → (s t : OfServer) → AreTwoOf s t ss
      → front (server_nonce s) ≡ front (server_nonce t) → ⊥
  pub are : AreAll setup last ps ss

module _ (setup : Setup) (last : WorldNow) (ps : List OfPeer) (ss : List OfServer)
    (all : AllKnown setup last ps ss) where
  pub apart : last.conversations.fresh ≡ true → NoTwoAlike ps ss
  apart fresh = record {
    peer_nonces = all.peers_two fresh;
    server_nonces = all.servers_two fresh;
    peers_apart = λ p q are p_in q_in s is_one on also.
        (let known = all.servers s is_one in
        all.peers_two fresh p q are
        (one_stored (server_knows_nonce s) _ _
        (peer_on setup p (all.peers p (first_of p q ps are)) p_in s known on)
        (peer_on setup q (all.peers q (second_of p q ps are)) q_in s known also)));
    servers_apart = λ s t are s_in t_in p is_one on also.
        (let known = all.peers p is_one in
        all.servers_two fresh s t are
        (one_stored (peer_knows_nonce p) _ _
        (server_on setup s (all.servers s (first_of s t ss are)) s_in p known on).1
        (server_on setup t (all.servers t (second_of s t ss are)) t_in p known also).1));
    server_on_one = λ s is_one s_in p q are on also.
        (let known = all.servers s is_one in
        all.peers_two fresh p q are
        ((server_on setup s known s_in p (all.peers p (first_of p q ps are)) on).0
        ∙ sym (server_on setup s known s_in q (all.peers q (second_of p q ps are)) also).0));
  }

  -- two of an end whose nonces have the same front are the same
  pub the_same : last.conversations.fresh ≡ true → (p q : OfPeer) → IsOneOf p ps → IsOneOf q ps
      → front (peer_nonce p) ≡ front (peer_nonce q) → p ≡ q
  the_same fresh p q is other e =
      elim (same_or_two p q ps is other) [
        | inl same ↦ same
        | inr two ↦ elim two [
          | inl are ↦ absurd (all.peers_two fresh p q are e)
          | inr are ↦ absurd (all.peers_two fresh q p are (sym e))
        ]
      ]

  pub the_same_server : last.conversations.fresh ≡ true → (s t : OfServer) → IsOneOf s ss
      → IsOneOf t ss → front (server_nonce s) ≡ front (server_nonce t) → s ≡ t
  the_same_server fresh s t is other e =
      elim (same_or_two s t ss is other) [
        | inl same ↦ same
        | inr two ↦ elim two [
          | inl are ↦ absurd (all.servers_two fresh s t are e)
          | inr are ↦ absurd (all.servers_two fresh t s are (sym e))
        ]
      ]

  -- ---- the server's

  -- a tag that no conversation of the server can have made is none that it made
  pub not_servers : (t : TagRecord) → NotByServer setup.server t
      → IsIn t (tags_by end.Server Made last.book) → ⊥
  not_servers t alien is =
      let m = made_in t ss (subst (λ (l : List TagRecord). IsIn t l) all.are.initial_server is) in
      let known = all.servers m.by m.is_one in
      alien.none (server_nonce m.by) (server_knows_nonce m.by) m.by.accepted m.by.made known.size
      (server_result setup m.by known) m.is_in

  by_peer : tags_verdict_either last.book ≡ Honest → (t : TagRecord) → NotByServer setup.server t
      → IsIn t (tags_by end.Server Accepted last.book)
      → IsIn t (all_produced ps)
  by_peer honest t alien is =
      elim ((honest_tags end.Server last.book
      (none_if_honest (first_broken Either [] last.book) honest)).each t is) [
        | inl made ↦ subst (λ (l : List TagRecord). IsIn t l) all.are.initial_peer made
        | inr own ↦ absurd (not_servers t alien own)
      ]

  -- one of the server that holds a nonce rests on one of the peer
  answered : tags_verdict_either last.book ≡ Honest → (s : OfServer) → IsOneOf s ss
      → (foreign : List ℕ) → server_knows_nonce s ≡ Some foreign → ServerRests ps s
  answered honest s is_one foreign holds =
      let asks = server_asking setup s (all.servers s is_one) foreign holds in
      let listed : IsIn asks.tag (tags_by end.Server Accepted last.book) =
      subst (λ (l : List TagRecord). IsIn asks.tag l) (sym all.are.server_accepted)
      (accepted_in asks.tag s ss is_one (first_is_in asks.tag asks.rest s.accepted asks.first)) in
      let m = made_in asks.tag ps (by_peer honest asks.tag asks.alien listed) in
      let known = all.peers m.by m.is_one in
      let told =
      made_by setup m.by known asks.tag foreign (front (server_nonce s)) asks.made m.is_in in
      let rests : RestsOn s.accepted m.by.made =
      record { tag = asks.tag; more = asks.rest; first = asks.first; is_made = m.is_in } in
      record {
        on = m.by;
        is_one = m.is_one;
        rests = rests;
        hold = record {
          rand_s = told.1;
          rand_p = holds ∙ ap (λ (x : List ℕ). Some x) (sym told.0);
          one = server_one setup s (all.servers s is_one) m.by known rests;
        };
      }

  pub servers_rest : tags_verdict_either last.book ≡ Honest → (s : OfServer) → IsOneOf s ss
      → is_success s.now.vars.state ≡ true → ServerRests ps s
  servers_rest honest s is_one s_in = let a = server_in setup s (all.servers s is_one) s_in in
      answered honest s is_one a.foreign a.holds

  pub servers_match : tags_verdict_either last.book ≡ Honest → last.conversations.fresh ≡ true
      → (s : OfServer) → IsOneOf s ss
      → is_success s.now.vars.state ≡ true → ServerMatches ps ss s
  servers_match honest fresh s is_one s_in =
      let r = servers_rest honest s is_one s_in in
      let known = all.servers s is_one in
      let on_known = all.peers r.on r.is_one in
      record {
        on = r.on;
        is_one = r.is_one;
        rests = r.rests;
        hold = r.hold;
        no_other = λ p p_is rests.
            (the_same fresh p r.on p_is r.is_one
            ((server_on setup s known s_in p (all.peers p p_is) rests).0
            ∙ sym (server_on setup s known s_in r.on on_known r.rests).0));
        by_no_other = λ t t_is t_in rests.
            (the_same_server fresh t s t_is is_one
            (one_stored (peer_knows_nonce r.on) _ _
            (server_on setup t (all.servers t t_is) t_in r.on on_known rests).1 r.hold.rand_s));
      }

  -- ---- the peer's

  -- one of the peer rests on the one of the server that made its first tag
  pub record RestsSo (p : OfPeer) : Type 0 where
    pub on : OfServer
    pub is_one : IsOneOf on ss
    pub rests : RestsOn p.accepted on.made
    pub rand_p : server_knows_nonce on ≡ Some (front (peer_nonce p))

  pub rests_on : (p : OfPeer) → IsOneOf p ps → (asks : AsksServer (peer_nonce p) p.accepted)
      → IsIn asks.tag (all_produced ss) → RestsSo p
  rests_on p is_one asks is =
      let m = made_in asks.tag ss is in
      record {
        on = m.by;
        is_one = m.is_one;
        rests = record { tag = asks.tag; more = asks.rest; first = asks.first; is_made = m.is_in };
        rand_p = made_at setup m.by (all.servers m.by m.is_one) asks.tag (front (peer_nonce p))
            asks.made m.is_in;
      }

  -- and where it is in SUCCESS, both are of one method
  pub in_one : (p : OfPeer) → IsOneOf p ps → is_success p.now.vars.state ≡ true → RestsSo p
      → PeerRests ss p
  in_one p is_one p_in r = record {
    on = r.on;
    is_one = r.is_one;
    rests = r.rests;
    rand_p = r.rand_p;
    one = peer_one setup p (all.peers p is_one) p_in r.on (all.servers r.on r.is_one) r.rests;
  }

  pub listed_peer : (p : OfPeer) → IsOneOf p ps → (asks : AsksServer (peer_nonce p) p.accepted)
      → IsIn asks.tag (tags_by end.Peer Accepted last.book)
  listed_peer p is_one asks =
      subst (λ (l : List TagRecord). IsIn asks.tag l) (sym all.are.peer_accepted)
      (accepted_in asks.tag p ps is_one (first_is_in asks.tag asks.rest p.accepted asks.first))

  pub by_server : (t : TagRecord) → IsIn t (tags_by end.Server Made last.book)
      → IsIn t (all_produced ss)
  by_server t is = subst (λ (l : List TagRecord). IsIn t l) all.are.initial_server is

  pub peers_rest : tags_verdict last.book ≡ Honest → (p : OfPeer) → IsOneOf p ps
      → is_success p.now.vars.state ≡ true → PeerRests ss p
  peers_rest honest p is_one p_in =
      let asks = peer_in setup p (all.peers p is_one) p_in in
      in_one p is_one p_in
      (rests_on p is_one asks
      (by_server asks.tag (honest_other end.Peer last.book (none_if_honest
      (first_broken Other [] last.book) honest) asks.tag (listed_peer p is_one asks))))

  module _ (honest : tags_verdict_either last.book ≡ Honest)
      (fresh : last.conversations.fresh ≡ true) (p : OfPeer) (is_one : IsOneOf p ps) where
    -- one of the server that holds the nonce of one of the peer rests on that one, which holds its
    -- nonce
    pub record Back (s : OfServer) : Type 0 where
      pub back : RestsOn s.accepted p.made
      pub hold : HaveNonces p s

    pub back_on : (s : OfServer) → IsOneOf s ss
        → server_knows_nonce s ≡ Some (front (peer_nonce p)) → Back s
    back_on s is rand_p =
        let r = answered honest s is (front (peer_nonce p)) rand_p in
        let same = the_same fresh r.on p r.is_one is_one
        (one_stored (server_knows_nonce s) _ _ r.hold.rand_p rand_p) in
        record {
          back = subst (λ (q : OfPeer). RestsOn s.accepted q.made) same r.rests;
          hold = subst (λ (q : OfPeer). HaveNonces q s) same r.hold;
        }

    pub peer_matches : is_success p.now.vars.state ≡ true → PeerRests ss p → PeerMatches ps ss p
    peer_matches p_in r =
        let known = all.peers p is_one in
        let on_known = all.servers r.on r.is_one in
        let b = back_on r.on r.is_one r.rand_p in
        record {
          on = r.on;
          is_one = r.is_one;
          rests = r.rests;
          back = b.back;
          hold = b.hold;
          no_other = λ s s_is rests.
              (the_same_server fresh s r.on s_is r.is_one
              (one_stored (peer_knows_nonce p) _ _ (back_on s s_is (peer_on setup p known p_in s
              (all.servers s s_is) rests)).hold.rand_s b.hold.rand_s));
          by_no_other = λ q q_is q_in rests.
              (the_same fresh q p q_is is_one (one_stored (server_knows_nonce r.on) _ _
              (peer_on setup q (all.peers q q_is) q_in r.on on_known rests) r.rand_p));
          back_by_no_other = λ s s_is s_in rests.
              (the_same_server fresh s r.on s_is r.is_one
              (one_stored (peer_knows_nonce p) _ _
              (server_on setup s (all.servers s s_is) s_in p known rests).1 b.hold.rand_s));
          agree = λ s_in. reports_agree setup p known p_in r.on on_known s_in r.rests b.back;
        }

  pub peers_match : tags_verdict last.book ≡ Honest → last.conversations.fresh ≡ true → (p : OfPeer)
      → IsOneOf p ps → is_success p.now.vars.state ≡ true
      → PeerMatches ps ss p
  peers_match honest fresh p is_one p_in = peer_matches (honest_of_either last.book honest)
      fresh p is_one p_in (peers_rest honest p is_one p_in)

  pub agree_both : tags_verdict last.book ≡ Honest → last.conversations.fresh ≡ true → (p : OfPeer)
      → IsOneOf p ps → is_success p.now.vars.state ≡ true
      → (s : OfServer) → IsOneOf s ss → is_success s.now.vars.state ≡ true
      → RestsOn s.accepted p.made → RestsOn p.accepted s.made × ReportsAgree p s
  agree_both honest fresh p p_is p_in s s_is s_in rests =
      let m = peers_match honest fresh p p_is p_in in
      let same = m.back_by_no_other s s_is s_in rests in
      let on : RestsOn p.accepted s.made =
      subst (λ (t : OfServer). RestsOn p.accepted t.made) (sym same) m.rests in
      (on, reports_agree setup p (all.peers p p_is) p_in s (all.servers s s_is) s_in on rests)

  pub servers_agree : (p : OfPeer) → IsOneOf p ps → is_success p.now.vars.state ≡ true
      → (s : OfServer) → IsOneOf s ss
      → RestsOn p.accepted s.made → RestsOn s.accepted p.made
      → server_login s.now.vars.current s.now.views ≡ peer_reports p.now
  servers_agree p p_is p_in s s_is rests back =
      same_as_reported setup p (all.peers p p_is) p_in s (all.servers s s_is) rests back

  pub same_keys : (s : OfServer) → IsOneOf s ss → is_success s.now.vars.state ≡ true → (p : OfPeer)
      → IsOneOf p ps → RestsOn s.accepted p.made → HasSameKeys p s
  same_keys s s_is s_in p p_is rests =
      keys_of setup s (all.servers s s_is) s_in p (all.peers p p_is) rests
