-- Matching conversations by EAP-PSK: one of the peer on which one of the server in SUCCESS rests
-- does rest on that; and the peer's match also where tags came back to it.
use Rattle.std.proofs.Common.{◌≡◌, ℕ, true, List, [], ◌∷◌, drop, Option, Some, refl, sym, ap, subst}
use Rattle.std.proofs.Common.{◌∙◌, inl, inr}
use Rattle.login_setup.specs.declared.setup.Setup.{Setup}
use Rattle.octet_lists.specs.Among.{gpsk_kind, psk_kind}
use Rattle.eap_method.specs.declared.tags.TagRecord.{TagRecord}
use Rattle.eap_method.specs.PskServer as psk_server
use Rattle.eap_method.specs.PskTags.{done_success, hidden_octet, result_of, tek_record}
use Rattle.peer_machine.specs.PeerTable as peers
use Rattle.peer_machine.specs.PeerTable.{peer_reports}
use Rattle.server_machine.specs.ServerTable as servers
use Rattle.tag_book.specs.Book.{first_broken, tags_verdict, tags_verdict_either}
use Rattle.eap_world.specs.Conversations.{front}
use Rattle.method_laws.specs.ByMethod.{ServerHasSucceeded, gpsk_server_succeeded, peer_login}
use Rattle.method_laws.specs.ByMethod.{psk_server_succeeded}
use Rattle.world_laws.specs.EachConversation.{IsOneOf, OfPeer, OfServer, all_produced}
use Rattle.world_laws.specs.EachConversation.{peer_knows_nonce, peer_nonce, server_knows_nonce}
use Rattle.world_laws.specs.EachConversation.{server_nonce}
use Rattle.login_laws.specs.Matching.{PeerMatches, RestsOn}
use Rattle.method_laws.specs.PskPeerInvariant.{psk_peer_login}
use Rattle.method_laws.specs.PskServerInvariant.{PskChecked, PskServerTags, psk_over, psk2_record}
use Rattle.method_laws.specs.PskServerInvariant.{psk4_taken as psk4_record_of}
use Rattle.method_laws.specs.Records.{IsIn, here, later, tags_by}
use Rattle.world_laws.proofs.HonestOfEither.{honest_of_either, none_if_honest}
use Rattle.method_laws.proofs.HonestOther.{honest_other}
use Rattle.login_laws.proofs.Matching.{AllKnown, ServerKnown}
use Rattle.login_laws.proofs.Matching as matching
use Rattle.login_laws.proofs.OneLogin.{one_stored}
use Rattle.method_laws.proofs.OneMethod.{apart}
use Rattle.world_laws.proofs.OneOf.{accepted_in, made_in}
use Rattle.method_laws.proofs.PeerByMethod.{created_by_psk as peer_made_by_psk}
use Rattle.method_laws.proofs.PskAgrees.{peer_reported}
use Rattle.login_laws.proofs.PskLogins as logins
use Rattle.method_laws.proofs.PskAnswered.{HasAsked, HasPsk4, has_asked, psk4_taken}
use Rattle.login_laws.proofs.PskReflected.{AsksAnother, asks_another}
use Rattle.login_laws.proofs.Results.{peer_report_is}
use Rattle.method_laws.proofs.ServerByMethod.{reported_by_psk}
use Rattle.method_laws.proofs.Among.{first_in}
use Rattle.method_laws.proofs.TagsOfEnds.{honest_tags}
use Rattle.eap_world.specs.Judgement.{is_success}
use Rattle.eap_world.specs.World.{WorldNow}
use Rattle.tag_book.specs.declared.book.End.TheVariants as end
use Rattle.tag_book.specs.declared.book.RecordOwner.TheVariants.{Either, Other}
use Rattle.tag_book.specs.declared.book.TagsVerdict.TheVariants.{Honest}
use Rattle.tag_book.specs.declared.book.Use.TheVariants.{Accepted, Made}
use Rattle.eap_method.specs.BothPeers.{psk_in}
use Rattle.world_laws.proofs.EndTags.{peer_tags, server_success, server_tags}

module _ (setup : Setup) (last : WorldNow) (ps : List OfPeer) (ss : List OfServer)
    (all : AllKnown setup last ps ss) where
  -- one in SUCCESS by EAP-PSK has accepted PSK-4
  pub psk4_in : (s : OfServer) → ServerKnown setup.server s → is_success s.now.vars.state ≡ true
      → s.now.vars.current ≡ Some psk_kind
      → HasPsk4 (server_nonce s) s.accepted
  psk4_in s known s_in by_psk = of_success (server_success known.stands s_in)
    where
      of_success : ServerHasSucceeded s.now.vars.current s.now.views
          → HasPsk4 (server_nonce s) s.accepted
      of_success (psk_server_succeeded login is_current in_view) =
          psk4_taken setup.server (server_nonce s) login true s.accepted s.made
          (reported_by_psk (servers.setup_with_nonce setup.server (server_nonce s))
          s.now.vars.current s.now.views _ s.accepted s.made is_current in_view
          (server_tags known.stands))
      of_success (gpsk_server_succeeded login is_current in_view) =
          apart s.now.vars.current gpsk_kind psk_kind refl is_current by_psk

  -- ---- by EAP-PSK the peer has accepted PSK-3, where the server has accepted PSK-4

  -- the conversation that made that PSK-4 rests on this one of the server, and so it is the one on
  -- which that rests
  answered_by : tags_verdict last.book ≡ Honest → last.conversations.fresh ≡ true → (s : OfServer)
      → IsOneOf s ss
      → (is : HasPsk4 (server_nonce s) s.accepted) → (q : OfPeer) → IsOneOf q ps
      → HasAsked (peer_nonce q) (front (server_nonce s)) (peer_knows_nonce q) q.accepted
      → RestsOn q.accepted s.made × (server_knows_nonce s ≡ Some (front (peer_nonce q)))
  answered_by honest fresh s s_is is q q_is h =
      let either = honest_of_either last.book honest in
      let r = matching.rests_on setup last ps ss all q q_is h.asks
      (matching.by_server setup last ps ss all h.asks.tag
      (honest_other end.Peer last.book (none_if_honest (first_broken Other [] last.book) honest)
      h.asks.tag (matching.listed_peer setup last ps ss all q q_is h.asks))) in
      let b = matching.back_on setup last ps ss all either fresh q q_is r.on r.is_one r.rand_p in
      let same = matching.the_same_server setup last ps ss all fresh r.on s r.is_one s_is
      (one_stored (peer_knows_nonce q) _ _ b.hold.rand_s h.holds) in (
        subst (λ (t : OfServer). RestsOn q.accepted t.made) same r.rests,
        subst (λ (t : OfServer). server_knows_nonce t ≡ Some (front (peer_nonce q))) same r.rand_p,
      )

  -- it has made that PSK-4, and rests on the server's
  pub record Answers (s : OfServer) (is : HasPsk4 (server_nonce s) s.accepted)
      (p : OfPeer) : Type 0 where
    pub rests : RestsOn p.accepted s.made
    pub made : IsIn (tek_record is.psk 1 is.header is.sealed is.tag) p.made

  psk_back : tags_verdict last.book ≡ Honest → last.conversations.fresh ≡ true → (s : OfServer)
      → IsOneOf s ss → is_success s.now.vars.state ≡ true
      → (is : HasPsk4 (server_nonce s) s.accepted) → (p : OfPeer) → IsOneOf p ps
      → RestsOn s.accepted p.made → Answers s is p
  psk_back honest fresh s s_is s_in is p p_is rests =
      let listed : IsIn (tek_record is.psk 1 is.header is.sealed is.tag)
      (tags_by end.Server Accepted last.book) =
      subst (λ (l : List TagRecord). IsIn (tek_record is.psk 1 is.header is.sealed is.tag) l)
      (sym all.are.server_accepted) (accepted_in _ s ss s_is is.is_in) in
      let made = subst (λ (l : List TagRecord).
      IsIn (tek_record is.psk 1 is.header is.sealed is.tag) l) all.are.initial_peer
      (honest_other end.Server last.book (none_if_honest (first_broken Other [] last.book) honest)
      _ listed) in
      let m = made_in _ ps made in
      let known = all.peers m.by m.is_one in
      let h = has_asked is.psk is.header is.sealed is.tag (front (server_nonce s))
      is.rand_in setup.peer (peer_nonce m.by) known.size
      m.by.now.vars.selected m.by.now.views m.by.accepted m.by.made (peer_tags known.stands)
      m.is_in in
      let a = answered_by honest fresh s s_is is m.by m.is_one h in
      let s_known = all.servers s s_is in
      let asking = matching.server_in setup s s_known s_in in
      let same = matching.the_same setup last ps ss all fresh m.by p m.is_one p_is
      (one_stored (server_knows_nonce s) _ _ a.1 asking.holds
      ∙ sym (matching.server_on setup s s_known s_in p (all.peers p p_is) rests).0) in
      record {
        rests = subst (λ (q : OfPeer). RestsOn q.accepted s.made) same a.0;
        made = subst (λ (q : OfPeer). IsIn (tek_record is.psk 1 is.header is.sealed is.tag) q.made)
            same m.is_in;
      }

  pub psk_servers_back : tags_verdict last.book ≡ Honest → last.conversations.fresh ≡ true
      → (s : OfServer) → IsOneOf s ss → is_success s.now.vars.state ≡ true
      → s.now.vars.current ≡ Some psk_kind → (p : OfPeer) → IsOneOf p ps → RestsOn s.accepted p.made
      → RestsOn p.accepted s.made
  psk_servers_back honest fresh s s_is s_in by_psk p p_is rests = (psk_back honest fresh s s_is s_in
      (psk4_in s (all.servers s s_is) s_in by_psk) p p_is rests).rests

  -- ---- by EAP-PSK the login of that peer has succeeded

  -- one of the server in SUCCESS by EAP-PSK has accepted a PSK-4 that says DONE_SUCCESS
  pub record HasConfirmed (s : OfServer) : Type 0 where
    pub login : psk_server.Login
    pub header : List ℕ
    pub sealed : ℕ
    pub checked : PskChecked (servers.setup_with_nonce setup.server (server_nonce s)) login
    pub more : List TagRecord
    pub first : s.accepted ≡ psk2_record login ∷ more
    pub is_in : IsIn (psk4_record_of login header sealed) s.accepted
    pub rand_in : drop 6 header ≡ front (server_nonce s)
    pub r_came : result_of (hidden_octet (psk_server.keys_of login).tek 1 sealed) ≡ done_success

  confirmed_by : (s : OfServer) (login : psk_server.Login) (accepted made : List TagRecord)
      → s.accepted ≡ accepted
      → PskServerTags (servers.setup_with_nonce setup.server
      (server_nonce s)) (psk_server.over login true) accepted made → HasConfirmed s
  confirmed_by s login _ _ e (psk_over _ _ header sealed id facts r_sent rand_in r_came) = record {
    login = login;
    header = header;
    sealed = sealed;
    checked = facts;
    more = _;
    first = e;
    is_in = subst (λ (l : List TagRecord). IsIn (psk4_record_of login header sealed) l) (sym e)
        (later _ _ (here _));
    rand_in = rand_in ∙ ap front facts.nonce;
    r_came = r_came refl;
  }

  pub confirmed : (s : OfServer) → ServerKnown setup.server s → is_success s.now.vars.state ≡ true
      → s.now.vars.current ≡ Some psk_kind → HasConfirmed s
  confirmed s known s_in by_psk = of_success (server_success known.stands s_in)
    where
      of_success : ServerHasSucceeded s.now.vars.current s.now.views → HasConfirmed s
      of_success (psk_server_succeeded login is_current in_view) =
          confirmed_by s login s.accepted s.made refl
          (reported_by_psk (servers.setup_with_nonce setup.server (server_nonce s))
          s.now.vars.current s.now.views _ s.accepted s.made is_current in_view
          (server_tags known.stands))
      of_success (gpsk_server_succeeded login is_current in_view) =
          apart s.now.vars.current gpsk_kind psk_kind refl is_current by_psk

  -- what it has confirmed is the login of the one that made that PSK-4, and on which it rests
  pub confirm_from : (s : OfServer) → IsOneOf s ss → (c : HasConfirmed s) → (p : OfPeer)
      → IsOneOf p ps → RestsOn s.accepted p.made
      → IsIn (psk4_record_of c.login c.header c.sealed) p.made
      → peer_reports p.now ≡ peer_login p.now.vars.selected p.now.views
  confirm_from s s_is c p p_is rests made =
      let known = all.peers p p_is in
      let by = peer_made_by_psk (peers.setup_with_nonce setup.peer (peer_nonce p))
      p.now.vars.selected p.now.views p.accepted p.made _ (peer_tags known.stands) made refl in
      let won = logins.confirms (peers.setup_with_nonce setup.peer (peer_nonce p))
      (servers.setup_with_nonce setup.server (server_nonce s)) known.size (all.servers s s_is).size
      c.login c.checked c.header c.sealed c.r_came (psk_in p.now.views) p.accepted p.made by.1
      ((first_in s.accepted p.made rests.tag rests.more rests.first rests.is_made).is _ _ c.first)
      made in
      peer_report_is p.now psk_kind _ by.0 (peer_reported p.now.views won.login won.in_view)
      ∙ sym (ap (λ (o : Option ℕ). peer_login o p.now.views) by.0 ∙ ap psk_peer_login won.in_view)

  pub psk_servers_confirm : tags_verdict last.book ≡ Honest → last.conversations.fresh ≡ true
      → (s : OfServer) → IsOneOf s ss → is_success s.now.vars.state ≡ true
      → s.now.vars.current ≡ Some psk_kind → (p : OfPeer) → IsOneOf p ps → RestsOn s.accepted p.made
      → peer_reports p.now ≡ peer_login p.now.vars.selected p.now.views
  psk_servers_confirm honest fresh s s_is s_in by_psk p p_is rests =
      let c = confirmed s (all.servers s s_is) s_in by_psk in
      let is : HasPsk4 (server_nonce s) s.accepted =
      record {
        psk = c.login.psk;
        header = c.header;
        sealed = c.sealed;
        tag = _;
        is_in = c.is_in;
        rand_in = c.rand_in;
      } in
      confirm_from s s_is c p p_is rests (psk_back honest fresh s s_is s_in is p p_is rests).made

  -- ---- by EAP-PSK a tag that came back to the peer is none of its own

  pub not_peers : last.conversations.fresh ≡ true → (p : OfPeer) → IsOneOf p ps
      → (asked : AsksAnother setup.peer (peer_nonce p) p.accepted p.made)
      → IsIn asked.asks.tag (tags_by end.Peer Made last.book) → ⊥
  not_peers fresh p is_one asked is =
      let m = made_in asked.asks.tag ps
      (subst (λ (l : List TagRecord). IsIn asked.asks.tag l) all.are.initial_peer is) in
      let known = all.peers m.by m.is_one in
      let same = matching.the_same setup last ps ss all fresh m.by p m.is_one is_one
      (asked.no_other (peer_nonce m.by) (peer_knows_nonce m.by) m.by.accepted m.by.made known.size
      (matching.peer_result setup m.by known) m.is_in) in
      asked.not_own (subst (λ (q : OfPeer). IsIn asked.asks.tag q.made) same m.is_in)

  pub psk_peers_match : tags_verdict_either last.book ≡ Honest → last.conversations.fresh ≡ true
      → (p : OfPeer) → IsOneOf p ps
      → is_success p.now.vars.state ≡ true → p.now.vars.selected ≡ Some psk_kind
      → PeerMatches ps ss p
  psk_peers_match honest fresh p is_one p_in selected =
      let known = all.peers p is_one in
      let asked = asks_another setup.peer (peer_nonce p) _ _ p.accepted p.made known.size
      (matching.peer_won setup p known p_in) selected in
      let none = none_if_honest (first_broken Either [] last.book) honest in
      let made : IsIn asked.asks.tag (all_produced ss) =
      elim ((honest_tags end.Peer last.book none).each asked.asks.tag
      (matching.listed_peer setup last ps ss all p is_one asked.asks)) [
        | inl made ↦ matching.by_server setup last ps ss all asked.asks.tag made
        | inr own ↦ absurd (not_peers fresh p is_one asked own)
      ] in
      matching.peer_matches setup last ps ss all honest fresh p is_one p_in
      (matching.in_one setup last ps ss all p is_one p_in
      (matching.rests_on setup last ps ss all p is_one asked.asks made))
