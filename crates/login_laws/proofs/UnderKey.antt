-- Matching conversations of one user of the server, whatever its other users do.
use Rattle.std.proofs.Common.{◌≡◌, ℕ, List, ◌∷◌, true, Some, refl, sym, ap, subst, ◌∙◌, inl, inr}
use Rattle.std.specs.Prelude.{◌⊎◌}
use Rattle.login_setup.specs.declared.setup.Setup.{Setup}
use Rattle.eap_method.specs.declared.tags.TagRecord.{TagRecord}
use Rattle.octet_lists.specs.Among.{psk_kind}
use Rattle.eap_method.specs.Peer.{key_for}
use Rattle.eap_method.specs.PskTags.{tek_record}
use Rattle.peer_machine.specs.PeerTable as peers
use Rattle.peer_machine.specs.PeerTable.{peer_reports}
use Rattle.server_machine.specs.ServerTable as servers
use Rattle.server_machine.specs.ServerTable.{server_reports}
use Rattle.tag_book.specs.Book.{tags_verdict, tags_verdict_either, under}
use Rattle.tag_book.specs.declared.book.End.TheVariants as end
use Rattle.tag_book.specs.declared.book.Entry.{Entry}
use Rattle.tag_book.specs.declared.book.TagsVerdict.TheVariants.{Honest}
use Rattle.tag_book.specs.declared.book.Use.TheVariants.{Accepted, Made}
use Rattle.eap_world.specs.Judgement.{is_success}
use Rattle.eap_world.specs.World.{WorldNow}
use Rattle.method_laws.specs.ByMethod.{peer_login}
use Rattle.world_laws.specs.EachConversation.{IsOneOf, OfPeer, OfServer, all_produced}
use Rattle.world_laws.specs.EachConversation.{peer_knows_nonce, peer_nonce, server_knows_nonce}
use Rattle.world_laws.specs.EachConversation.{server_nonce}
use Rattle.eap_world.specs.Conversations.{front}
use Rattle.login_laws.specs.Matching.{HaveNonces, PeerMatches, PeerRests, ReportsAgree, RestsOn}
use Rattle.login_laws.specs.Matching.{ServerMatches, ServerRests}
use Rattle.method_laws.specs.Records.{IsIn, tags_by}
use Rattle.login_laws.specs.UnderKey.{ConversationsMatchUnder, IsOfKey}
use Rattle.login_laws.proofs.Conversations.{run_known}
use Rattle.world_laws.proofs.HonestOfEither.{honest_of_either}
use Rattle.login_laws.proofs.KeyedTags.{either_under, other_under}
use Rattle.login_laws.proofs.Matching.{AllKnown}
use Rattle.login_laws.proofs.Matching as matching
use Rattle.method_laws.proofs.OneKey.{OneKey, keyed_peer, peer_one, server_one}
use Rattle.login_laws.proofs.UserKeys.{keyed_server}
use Rattle.login_laws.proofs.OneLogin.{first_is_in, one_stored}
use Rattle.world_laws.proofs.OneOf.{accepted_in, made_in}
use Rattle.method_laws.proofs.PskAnswered.{HasAsked, HasPsk4, has_asked}
use Rattle.login_laws.proofs.PskMatching as psk
use Rattle.login_laws.proofs.Resting.{same_report}
use Rattle.world_laws.proofs.EndTags.{peer_tags, server_tags}

-- ---- the conversations

module _ (setup : Setup) (last : WorldNow) (ps : List OfPeer) (ss : List OfServer)
    (all : AllKnown setup last ps ss) (key : List ℕ) where
  -- all that a conversation of the server accepted is under the key
  abbrev IsKeyed : OfServer → Type 0
  IsKeyed s = (t : TagRecord) → IsIn t s.accepted → t.psk ≡ key

  one_key : (s : OfServer) → IsOneOf s ss → OneKey s.accepted s.made
  one_key s is_one =
      server_one (servers.setup_with_nonce setup.server (server_nonce s))
      s.now.vars.current s.now.views s.accepted s.made (server_tags (all.servers s is_one).stands)

  pub keyed_by_made : (s : OfServer) → IsOneOf s ss → (t : TagRecord) → IsIn t s.made
      → t.psk ≡ key → IsKeyed s
  keyed_by_made s is_one t is e u there =
      let k = one_key s is_one in k.of_accepted u there ∙ sym (k.of_created t is) ∙ e

  module _ (either : (t : TagRecord) → t.psk ≡ key → IsIn t (tags_by end.Server Accepted last.book)
      → IsIn t (tags_by end.Peer Made last.book) ⊎ IsIn t (tags_by end.Server Made last.book)) where
    pub answered : (s : OfServer) → IsOneOf s ss → IsKeyed s → (foreign : List ℕ)
        → server_knows_nonce s ≡ Some foreign → ServerRests ps s
    answered s is_one keyed foreign holds =
        let asks = matching.server_asking setup s (all.servers s is_one) foreign holds in
        let its : IsIn asks.tag s.accepted = first_is_in asks.tag asks.rest s.accepted asks.first in
        let listed : IsIn asks.tag (tags_by end.Server Accepted last.book) =
        subst (λ (l : List TagRecord). IsIn asks.tag l) (sym all.are.server_accepted)
        (accepted_in asks.tag s ss is_one its) in
        let made : IsIn asks.tag (all_produced ps) =
        elim (either asks.tag (keyed asks.tag its) listed) [
          | inl made ↦ subst (λ (l : List TagRecord). IsIn asks.tag l) all.are.initial_peer made
          | inr own ↦ absurd (matching.not_servers setup last ps ss all asks.tag asks.alien own)
        ] in
        let m = made_in asks.tag ps made in
        let known = all.peers m.by m.is_one in
        let told = matching.made_by setup m.by known asks.tag foreign (front (server_nonce s))
        asks.made m.is_in in
        let rests : RestsOn s.accepted m.by.made =
        record { tag = asks.tag; more = asks.rest; first = asks.first; is_made = m.is_in } in
        record {
          on = m.by;
          is_one = m.is_one;
          rests = rests;
          hold = record {
            rand_s = told.1;
            rand_p = holds ∙ ap (λ (x : List ℕ). Some x) (sym told.0);
            one = matching.server_one setup s (all.servers s is_one) m.by known rests;
          };
        }

    servers_match : last.conversations.fresh ≡ true → (s : OfServer) → IsOneOf s ss
        → is_success s.now.vars.state ≡ true → IsKeyed s → ServerMatches ps ss s
    servers_match fresh s is_one s_in keyed =
        let a = matching.server_in setup s (all.servers s is_one) s_in in
        let r = answered s is_one keyed a.foreign a.holds in
        let known = all.servers s is_one in
        let on_known = all.peers r.on r.is_one in
        record {
          on = r.on;
          is_one = r.is_one;
          rests = r.rests;
          hold = r.hold;
          no_other = λ p p_is rests.
              (matching.the_same setup last ps ss all fresh p r.on p_is r.is_one
              ((matching.server_on setup s known s_in p (all.peers p p_is) rests).0
              ∙ sym (matching.server_on setup s known s_in r.on on_known r.rests).0));
          by_no_other = λ t t_is t_in rests.
              (matching.the_same_server setup last ps ss all fresh t s t_is is_one
              (one_stored (peer_knows_nonce r.on) _ _ (matching.server_on setup t
              (all.servers t t_is) t_in r.on on_known rests).1 r.hold.rand_s));
        }

    module _ (fresh : last.conversations.fresh ≡ true) (p : OfPeer) (is_one : IsOneOf p ps) where
      record Back (s : OfServer) : Type 0 where
        pub back : RestsOn s.accepted p.made
        pub hold : HaveNonces p s

      back_on : (s : OfServer) → IsOneOf s ss → IsKeyed s
          → server_knows_nonce s ≡ Some (front (peer_nonce p)) → Back s
      back_on s is keyed rand_p =
          let r = answered s is keyed (front (peer_nonce p)) rand_p in
          let same = matching.the_same setup last ps ss all fresh r.on p r.is_one is_one
          (one_stored (server_knows_nonce s) _ _ r.hold.rand_p rand_p) in
          record {
            back = subst (λ (q : OfPeer). RestsOn s.accepted q.made) same r.rests;
            hold = subst (λ (q : OfPeer). HaveNonces q s) same r.hold;
          }

      pub peer_matches : is_success p.now.vars.state ≡ true → PeerRests ss p
          → ((s : OfServer) → IsOneOf s ss → RestsOn p.accepted s.made → IsKeyed s)
          → PeerMatches ps ss p
      peer_matches p_in r keyed =
          let known = all.peers p is_one in
          let on_known = all.servers r.on r.is_one in
          let b = back_on r.on r.is_one (keyed r.on r.is_one r.rests) r.rand_p in
          record {
            on = r.on;
            is_one = r.is_one;
            rests = r.rests;
            back = b.back;
            hold = b.hold;
            no_other = λ s s_is rests.
                (matching.the_same_server setup last ps ss all fresh s r.on s_is r.is_one
                (one_stored (peer_knows_nonce p) _ _
                (back_on s s_is (keyed s s_is rests) (matching.peer_on setup p known p_in s
                (all.servers s s_is) rests)).hold.rand_s b.hold.rand_s));
            by_no_other = λ q q_is q_in rests.
                (matching.the_same setup last ps ss all fresh q p q_is is_one
                (one_stored (server_knows_nonce r.on) _ _
                (matching.peer_on setup q (all.peers q q_is) q_in r.on on_known rests) r.rand_p));
            back_by_no_other = λ s s_is s_in rests.
                (matching.the_same_server setup last ps ss all fresh s r.on s_is r.is_one
                (one_stored (peer_knows_nonce p) _ _ (matching.server_on setup s
                (all.servers s s_is) s_in p known rests).1 b.hold.rand_s));
            agree = λ s_in.
                matching.reports_agree setup p known p_in r.on on_known s_in r.rests b.back;
          }

  -- the peer's first tag is under the key, and one of the server's made it
  peers_rest : ((t : TagRecord) → t.psk ≡ key → IsIn t (tags_by end.Peer Accepted last.book)
      → IsIn t (tags_by end.Server Made last.book))
      → (p : OfPeer) → IsOneOf p ps → is_success p.now.vars.state ≡ true
      → ((t : TagRecord) (more : List TagRecord) → p.accepted ≡ t ∷ more → t.psk ≡ key)
      → PeerRests ss p
  peers_rest other p is_one p_in first =
      let asks = matching.peer_in setup p (all.peers p is_one) p_in in
      matching.in_one setup last ps ss all p is_one p_in
      (matching.rests_on setup last ps ss all p is_one asks
      (matching.by_server setup last ps ss all asks.tag
      (other asks.tag (first asks.tag asks.rest asks.first)
      (matching.listed_peer setup last ps ss all p is_one asks))))

-- ---- every run

other_too : (key : List ℕ) (book : List Entry) → tags_verdict (under key book) ≡ Honest
    → tags_verdict_either (under key book) ≡ Honest
other_too key book honest = honest_of_either (under key book) honest

module _ (setup : Setup) (last : WorldNow) (ps : List OfPeer) (ss : List OfServer)
    (all : AllKnown setup last ps ss) (kind : ℕ) where
  abbrev shared : List ℕ
  shared = key_for setup.peer kind

  pub its_first : (p : OfPeer) → IsOneOf p ps → is_success p.now.vars.state ≡ true
      → p.now.vars.selected ≡ Some kind
      → (t : TagRecord) (more : List TagRecord) → p.accepted ≡ t ∷ more → t.psk ≡ shared
  its_first p is_one p_in selected t more first =
      keyed_peer (peers.setup_with_nonce setup.peer (peer_nonce p)) _ _ kind p.accepted p.made
      (matching.peer_won setup p (all.peers p is_one) p_in) selected t
      (first_is_in t more p.accepted first)

  pub match_peers : tags_verdict (under shared last.book) ≡ Honest → last.conversations.fresh ≡ true
      → (p : OfPeer) → IsOneOf p ps
      → is_success p.now.vars.state ≡ true → p.now.vars.selected ≡ Some kind → PeerMatches ps ss p
  match_peers honest fresh p is_one p_in selected =
      peer_matches setup last ps ss all shared (either_under shared last.book end.Server
      (other_too shared last.book honest)) fresh p is_one p_in
      (peers_rest setup last ps ss all shared (other_under shared last.book end.Peer honest)
      p is_one p_in (its_first p is_one p_in selected))
      (λ s s_is rests. keyed_by_made setup last ps ss all shared s s_is rests.tag rests.is_made
      (its_first p is_one p_in selected rests.tag rests.more rests.first))

  -- what a server in SUCCESS accepted is under the key of its user
  pub of_user : (s : OfServer) → IsOneOf s ss → is_success s.now.vars.state ≡ true
      → IsOfKey setup shared s.now → (t : TagRecord) → IsIn t s.accepted
      → t.psk ≡ shared
  of_user s is_one s_in of_key =
      keyed_server setup shared s.now (servers.setup_with_nonce setup.server (server_nonce s))
      s.accepted s.made refl (matching.server_won setup s (all.servers s is_one) s_in) of_key

  pub match_servers : tags_verdict_either (under shared last.book) ≡ Honest
      → last.conversations.fresh ≡ true → (s : OfServer) → IsOneOf s ss
      → is_success s.now.vars.state ≡ true → IsOfKey setup shared s.now → ServerMatches ps ss s
  match_servers honest fresh s is_one s_in of_key =
      servers_match setup last ps ss all shared (either_under shared last.book end.Server honest)
      fresh s is_one s_in (of_user s is_one s_in of_key)

  agree_both : tags_verdict (under shared last.book) ≡ Honest → last.conversations.fresh ≡ true
      → (p : OfPeer) → IsOneOf p ps
      → is_success p.now.vars.state ≡ true → p.now.vars.selected ≡ Some kind → (s : OfServer)
      → IsOneOf s ss → is_success s.now.vars.state ≡ true
      → RestsOn s.accepted p.made → RestsOn p.accepted s.made × ReportsAgree p s
  agree_both honest fresh p p_is p_in selected s s_is s_in rests =
      let m = match_peers honest fresh p p_is p_in selected in
      let same = m.back_by_no_other s s_is s_in rests in
      let on : RestsOn p.accepted s.made =
      subst (λ (t : OfServer). RestsOn p.accepted t.made) (sym same) m.rests in (
        on,
        matching.reports_agree setup p (all.peers p p_is) p_in s (all.servers s s_is) s_in on rests,
      )

  -- ---- one of the server in SUCCESS with a user of that key

  module _ (honest : tags_verdict (under shared last.book) ≡ Honest)
      (fresh : last.conversations.fresh ≡ true) (s : OfServer) (s_is : IsOneOf s ss)
      (s_in : is_success s.now.vars.state ≡ true) (of_key : IsOfKey setup shared s.now) where
    -- by EAP-PSK the conversation of the peer that made the PSK-4 which it has accepted rests on it
    answered_by : (is : HasPsk4 (server_nonce s) s.accepted) → (q : OfPeer) → IsOneOf q ps
        → IsIn (tek_record is.psk 1 is.header is.sealed is.tag) q.made
        → HasAsked (peer_nonce q) (front (server_nonce s)) (peer_knows_nonce q) q.accepted
        → RestsOn q.accepted s.made × (server_knows_nonce s ≡ Some (front (peer_nonce q)))
    answered_by is q q_is made h =
        let one = peer_one (peers.setup_with_nonce setup.peer (peer_nonce q))
        q.now.vars.selected q.now.views q.accepted q.made (peer_tags (all.peers q q_is).stands) in
        let its : (t : TagRecord) → IsIn t q.accepted → t.psk ≡ shared =
        λ t there. one.of_accepted t there
        ∙ (sym (one.of_created _ made) ∙ of_user s s_is s_in of_key _ is.is_in) in
        let r = matching.rests_on setup last ps ss all q q_is h.asks
        (matching.by_server setup last ps ss all h.asks.tag
        (other_under shared last.book end.Peer honest h.asks.tag
        (its h.asks.tag (first_is_in h.asks.tag h.asks.rest q.accepted h.asks.first))
        (matching.listed_peer setup last ps ss all q q_is h.asks))) in
        let keyed =
        keyed_by_made setup last ps ss all shared r.on r.is_one r.rests.tag r.rests.is_made
        (its r.rests.tag (first_is_in r.rests.tag r.rests.more q.accepted r.rests.first)) in
        let b = back_on setup last ps ss all shared
        (either_under shared last.book end.Server (other_too shared last.book honest)) fresh q q_is
        r.on r.is_one keyed r.rand_p in
        let same = matching.the_same_server setup last ps ss all fresh r.on s r.is_one s_is
        (one_stored (peer_knows_nonce q) _ _ b.hold.rand_s h.holds) in (
          subst (λ (t : OfServer). RestsOn q.accepted t.made) same r.rests,
          subst (λ (t : OfServer). server_knows_nonce t ≡ Some (front (peer_nonce q)))
              same r.rand_p,
        )

    answered_back : (is : HasPsk4 (server_nonce s) s.accepted) → (p : OfPeer) → IsOneOf p ps
        → RestsOn s.accepted p.made
        → RestsOn p.accepted s.made × IsIn (tek_record is.psk 1 is.header is.sealed is.tag) p.made
    answered_back is p p_is rests =
        let listed : IsIn (tek_record is.psk 1 is.header is.sealed is.tag)
        (tags_by end.Server Accepted last.book) =
        subst (λ (l : List TagRecord). IsIn (tek_record is.psk 1 is.header is.sealed is.tag) l)
        (sym all.are.server_accepted) (accepted_in _ s ss s_is is.is_in) in
        let made = subst (λ (l : List TagRecord).
        IsIn (tek_record is.psk 1 is.header is.sealed is.tag) l) all.are.initial_peer
        (other_under shared last.book end.Server honest _
        (of_user s s_is s_in of_key _ is.is_in) listed) in
        let m = made_in _ ps made in
        let known = all.peers m.by m.is_one in
        let h = has_asked is.psk is.header is.sealed is.tag (front (server_nonce s))
        is.rand_in setup.peer (peer_nonce m.by) known.size
        m.by.now.vars.selected m.by.now.views m.by.accepted m.by.made (peer_tags known.stands)
        m.is_in in
        let a = answered_by is m.by m.is_one m.is_in h in
        let s_known = all.servers s s_is in
        let asking = matching.server_in setup s s_known s_in in
        let same = matching.the_same setup last ps ss all fresh m.by p m.is_one p_is
        (one_stored (server_knows_nonce s) _ _ a.1 asking.holds
        ∙ sym (matching.server_on setup s s_known s_in p (all.peers p p_is) rests).0) in (
          subst (λ (q : OfPeer). RestsOn q.accepted s.made) same a.0,
          subst (λ (q : OfPeer). IsIn (tek_record is.psk 1 is.header is.sealed is.tag) q.made)
              same m.is_in,
        )

    same_login : (p : OfPeer) → IsOneOf p ps → RestsOn s.accepted p.made
        → peer_login p.now.vars.selected p.now.views ≡ server_reports s.now
    same_login p p_is rests =
        let known = all.peers p p_is in
        let s_known = all.servers s s_is in
        same_report (peers.setup_with_nonce setup.peer (peer_nonce p))
        (servers.setup_with_nonce setup.server (server_nonce s)) known.size s_known.size
        p.now.vars.selected p.now.views p.accepted p.made (peer_tags known.stands) s.now _ _
        (matching.server_won setup s s_known s_in) rests
        (λ by_psk.
        (answered_back (psk.psk4_in setup last ps ss all s s_known s_in by_psk) p p_is rests).0)

    confirms : s.now.vars.current ≡ Some psk_kind → (p : OfPeer) → IsOneOf p ps
        → RestsOn s.accepted p.made
        → RestsOn p.accepted s.made × (peer_reports p.now ≡ server_reports s.now)
    confirms by_psk p p_is rests =
        let c = psk.confirmed setup last ps ss all s (all.servers s s_is) s_in by_psk in
        let is : HasPsk4 (server_nonce s) s.accepted =
        record {
          psk = c.login.psk;
          header = c.header;
          sealed = c.sealed;
          tag = _;
          is_in = c.is_in;
          rand_in = c.rand_in;
        } in
        let b = answered_back is p p_is rests in (
          b.0,
          psk.confirm_from setup last ps ss all s s_is c p p_is rests b.1 ∙ same_login p p_is rests,
        )

-- A conversation that made a tag under the key has accepted no tag under another. So the one on
-- which a conversation under the key rests is under it too, and the proof of `conversations_match`
-- goes over those alone. By EAP-PSK the PSK-4 that a server accepted has its RAND_S in the header:
-- the peer's conversation that made it rests on the server's (`answered_back`), and has succeeded.
pub conversations_match_under : ConversationsMatchUnder
conversations_match_under setup events kind whole =
    let all = run_known setup events whole in
    record {
      peers_match = match_peers setup _ _ _ all kind;
      servers_match = match_servers setup _ _ _ all kind;
      both_agree = agree_both setup _ _ _ all kind;
      peers_agree = λ honest fresh s s_is s_in of_key.
          same_login setup _ _ _ all kind honest fresh s s_is s_in of_key;
      psk_servers_confirm = λ honest fresh s s_is s_in of_key.
          confirms setup _ _ _ all kind honest fresh s s_is s_in of_key;
    }
