-- The conversations of any number of runs match: what one accepted first tells the nonces of both.
use Rattle.std.proofs.Common.{◌≡◌, ℕ, List, true, Some, refl, sym, ap, subst, ◌∙◌, inl, inr}
use Rattle.login_setup.specs.Setup.{ServerSetup}
use Rattle.login_setup.specs.declared.setup.PeerSetup.{PeerSetup}
use Rattle.login_setup.specs.declared.setup.Setup.{Setup}
use Rattle.eap_method.specs.Peer.{key_for}
use Rattle.eap_method.specs.declared.tags.TagRecord.{TagRecord}
use Rattle.eap_world.specs.Conversations.{front}
use Rattle.eap_world.specs.Judgement.{is_success}
use Rattle.login_laws.specs.AnyEnds.{AnyEndsMatch, AnyServerMatches, AreMade, AreOfSomeRuns}
use Rattle.login_laws.specs.AnyEnds.{HonestAmong, IsOfSomePeer, IsOfSomeServer}
use Rattle.login_laws.specs.AnyEnds.{NoncesDiffer}
use Rattle.login_laws.specs.Matching.{HasSameKeys, HaveNonces, PeerMatches, ReportsAgree}
use Rattle.login_laws.specs.Matching.{RestsOn, ServerMatches, ServerRests}
use Rattle.login_laws.specs.UnderKey.{IsOfKey}
use Rattle.login_laws.proofs.Conversations.{run_known}
use Rattle.login_laws.proofs.Matching.{PeerKnown, ServerKnown}
use Rattle.login_laws.proofs.Matching as matching
use Rattle.login_laws.proofs.OneLogin.{first_is_in, one_stored}
use Rattle.login_laws.proofs.UserKeys.{keyed_server}
use Rattle.method_laws.specs.Records.{IsIn}
use Rattle.method_laws.proofs.OneKey.{OneKey, keyed_peer, server_one}
use Rattle.peer_machine.specs.PeerTable as peers
use Rattle.server_machine.specs.ServerTable as servers
use Rattle.world_laws.specs.EachConversation.{IsOneOf, OfPeer, OfServer, all_produced}
use Rattle.world_laws.specs.EachConversation.{peer_knows_nonce, peer_nonce, server_knows_nonce}
use Rattle.world_laws.specs.EachConversation.{server_nonce}
use Rattle.world_laws.specs.PeerInvariant.{PeerInvariant}
use Rattle.world_laws.specs.ServerInvariant.{ServerInvariant}
use Rattle.world_laws.proofs.EndTags.{server_tags}
use Rattle.world_laws.proofs.OneOf.{made_in, same_or_two}

-- what its run knows of a conversation holds under these settings
pub peer_known : (setup : Setup) (p : OfPeer) → IsOfSomePeer setup p → PeerKnown setup.peer p
peer_known setup p of =
    let known = (run_known of.run of.events of.whole).peers p of.is_one in
    record {
      size = known.size;
      stands = subst (λ (own : PeerSetup). PeerInvariant (peers.setup_with_nonce own (peer_nonce p))
          p.now p.accepted p.made) of.own known.stands;
    }

pub server_known : (setup : Setup) (s : OfServer) → IsOfSomeServer setup s → ServerKnown setup.server s
server_known setup s of =
    let known = (run_known of.run of.events of.whole).servers s of.is_one in
    record {
      size = known.size;
      stands = subst (λ (own : ServerSetup). ServerInvariant
          (servers.setup_with_nonce own (server_nonce s)) s.now s.accepted s.made)
          of.own known.stands;
    }

module _ (setup : Setup) (kind : ℕ) (ps : List OfPeer) (ss : List OfServer)
    (are : AreOfSomeRuns setup ps ss) (differ : NoncesDiffer ps ss) where
  abbrev shared : List ℕ
  shared = key_for setup.peer kind

  knows_peer : (p : OfPeer) → IsOneOf p ps → PeerKnown setup.peer p
  knows_peer p is_one = peer_known setup p (are.peers p is_one)

  knows_server : (s : OfServer) → IsOneOf s ss → ServerKnown setup.server s
  knows_server s is_one = server_known setup s (are.servers s is_one)

  -- two of a role whose nonces have the same front are the same
  the_same : (p q : OfPeer) → IsOneOf p ps → IsOneOf q ps
      → front (peer_nonce p) ≡ front (peer_nonce q) → p ≡ q
  the_same p q is other e =
      elim (same_or_two p q ps is other) [
        | inl same ↦ same
        | inr two ↦ elim two [
          | inl one ↦ absurd (differ.peers p q one e)
          | inr one ↦ absurd (differ.peers q p one (sym e))
        ]
      ]

  the_same_server : (s t : OfServer) → IsOneOf s ss → IsOneOf t ss
      → front (server_nonce s) ≡ front (server_nonce t) → s ≡ t
  the_same_server s t is other e =
      elim (same_or_two s t ss is other) [
        | inl same ↦ same
        | inr two ↦ elim two [
          | inl one ↦ absurd (differ.servers s t one e)
          | inr one ↦ absurd (differ.servers t s one (sym e))
        ]
      ]

  -- all that a conversation of the server accepted is under the key
  abbrev IsKeyed : OfServer → Type 0
  IsKeyed s = (t : TagRecord) → IsIn t s.accepted → t.psk ≡ shared

  keyed_by_user : (s : OfServer) → IsOneOf s ss → is_success s.now.vars.state ≡ true
      → IsOfKey setup shared s.now → IsKeyed s
  keyed_by_user s is_one s_in of_key =
      keyed_server setup shared s.now (servers.setup_with_nonce setup.server (server_nonce s))
      s.accepted s.made refl (matching.server_won setup s (knows_server s is_one) s_in) of_key

  keyed_by_made : (s : OfServer) → IsOneOf s ss → (t : TagRecord) → IsIn t s.made
      → t.psk ≡ shared → IsKeyed s
  keyed_by_made s is_one t is e u there =
      let k : OneKey s.accepted s.made =
      server_one (servers.setup_with_nonce setup.server (server_nonce s))
      s.now.vars.current s.now.views s.accepted s.made
      (server_tags (knows_server s is_one).stands) in
      k.of_accepted u there ∙ sym (k.of_created t is) ∙ e

  -- peers made all that it accepted under it
  abbrev IsHonest : OfServer → Type 0
  IsHonest s = AreMade shared s.accepted (all_produced ps)

  -- one of the server that holds a nonce rests on one of the peer
  answered : (s : OfServer) → IsOneOf s ss → IsHonest s → IsKeyed s → (foreign : List ℕ)
      → server_knows_nonce s ≡ Some foreign → ServerRests ps s
  answered s is_one honest keyed foreign holds =
      let asks = matching.server_asking setup s (knows_server s is_one) foreign holds in
      let its : IsIn asks.tag s.accepted = first_is_in asks.tag asks.rest s.accepted asks.first in
      let m = made_in asks.tag ps (honest.each asks.tag its (keyed asks.tag its)) in
      let known = knows_peer m.by m.is_one in
      let told = matching.made_by setup m.by known asks.tag foreign (front (server_nonce s))
      asks.made m.is_in in
      let rests : RestsOn s.accepted m.by.made =
      record { tag = asks.tag; more = asks.rest; first = asks.first; is_made = m.is_in } in
      record {
        on = m.by;
        is_one = m.is_one;
        rests = rests;
        hold = record {
          rand_s = told.1;
          rand_p = holds ∙ ap (λ (x : List ℕ). Some x) (sym told.0);
          one = matching.server_one setup s (knows_server s is_one) m.by known rests;
        };
      }

  server_matches : (s : OfServer) → IsOneOf s ss → is_success s.now.vars.state ≡ true
      → IsOfKey setup shared s.now → IsHonest s → ServerMatches ps ss s
  server_matches s is_one s_in of_key honest =
      let known = knows_server s is_one in
      let a = matching.server_in setup s known s_in in
      let r = answered s is_one honest (keyed_by_user s is_one s_in of_key) a.foreign a.holds in
      let on_known = knows_peer r.on r.is_one in
      record {
        on = r.on;
        is_one = r.is_one;
        rests = r.rests;
        hold = r.hold;
        no_other = λ p p_is rests.
            (the_same p r.on p_is r.is_one
            ((matching.server_on setup s known s_in p (knows_peer p p_is) rests).0
            ∙ sym (matching.server_on setup s known s_in r.on on_known r.rests).0));
        by_no_other = λ t t_is t_in rests.
            (the_same_server t s t_is is_one
            (one_stored (peer_knows_nonce r.on) _ _
            (matching.server_on setup t (knows_server t t_is) t_in r.on on_known rests).1
            r.hold.rand_s));
      }

  keys : (s : OfServer) → IsOneOf s ss → is_success s.now.vars.state ≡ true → (p : OfPeer)
      → IsOneOf p ps → RestsOn s.accepted p.made → HasSameKeys p s
  keys s is_one s_in p p_is rests =
      matching.keys_of setup s (knows_server s is_one) s_in p (knows_peer p p_is) rests

  -- ---- the peer's

  module _ (honest : HonestAmong shared ps ss) (p : OfPeer) (is_one : IsOneOf p ps) where
    -- one of the server that holds the peer's nonce rests on it, which holds its nonce
    record Back (s : OfServer) : Type 0 where
      pub back : RestsOn s.accepted p.made
      pub hold : HaveNonces p s

    back_on : (s : OfServer) → IsOneOf s ss → IsKeyed s
        → server_knows_nonce s ≡ Some (front (peer_nonce p)) → Back s
    back_on s is keyed rand_p =
        let r = answered s is (honest.of_servers s is) keyed (front (peer_nonce p)) rand_p in
        let same = the_same r.on p r.is_one is_one
        (one_stored (server_knows_nonce s) _ _ r.hold.rand_p rand_p) in
        record {
          back = subst (λ (q : OfPeer). RestsOn s.accepted q.made) same r.rests;
          hold = subst (λ (q : OfPeer). HaveNonces q s) same r.hold;
        }

    module _ (p_in : is_success p.now.vars.state ≡ true)
        (selected : p.now.vars.selected ≡ Some kind) where
      -- what it accepted is under the key
      its : (t : TagRecord) → IsIn t p.accepted → t.psk ≡ shared
      its t is =
          keyed_peer (peers.setup_with_nonce setup.peer (peer_nonce p)) _ _ kind p.accepted p.made
          (matching.peer_won setup p (knows_peer p is_one) p_in) selected t is

      -- so one of the server on which it rests is under it too, and rests on it
      back_from : (s : OfServer) → IsOneOf s ss → RestsOn p.accepted s.made → Back s
      back_from s is rests =
          back_on s is (keyed_by_made s is rests.tag rests.is_made
          (its rests.tag (first_is_in rests.tag rests.more p.accepted rests.first)))
          (matching.peer_on setup p (knows_peer p is_one) p_in s (knows_server s is) rests)

      peer_matches : PeerMatches ps ss p
      peer_matches =
          let known = knows_peer p is_one in
          let asks = matching.peer_in setup p known p_in in
          let its_first : IsIn asks.tag p.accepted =
          first_is_in asks.tag asks.rest p.accepted asks.first in
          let m = made_in asks.tag ss
          ((honest.of_peers p is_one).each asks.tag its_first (its asks.tag its_first)) in
          let rests : RestsOn p.accepted m.by.made =
          record { tag = asks.tag; more = asks.rest; first = asks.first; is_made = m.is_in } in
          let on_known = knows_server m.by m.is_one in
          let b = back_from m.by m.is_one rests in
          record {
            on = m.by;
            is_one = m.is_one;
            rests = rests;
            back = b.back;
            hold = b.hold;
            no_other = λ s s_is other.
                (the_same_server s m.by s_is m.is_one
                (one_stored (peer_knows_nonce p) _ _ (back_from s s_is other).hold.rand_s
                b.hold.rand_s));
            by_no_other = λ q q_is q_in other.
                (the_same q p q_is is_one (one_stored (server_knows_nonce m.by) _ _
                (matching.peer_on setup q (knows_peer q q_is) q_in m.by on_known other)
                (matching.peer_on setup p known p_in m.by on_known rests)));
            back_by_no_other = λ s s_is s_in other.
                (the_same_server s m.by s_is m.is_one
                (one_stored (peer_knows_nonce p) _ _
                (matching.server_on setup s (knows_server s s_is) s_in p known other).1
                b.hold.rand_s));
            agree = λ s_in. matching.reports_agree setup p known p_in m.by on_known s_in rests b.back;
          }

  agree_both : HonestAmong shared ps ss → (p : OfPeer) → IsOneOf p ps
      → is_success p.now.vars.state ≡ true → p.now.vars.selected ≡ Some kind → (s : OfServer) → IsOneOf s ss
      → is_success s.now.vars.state ≡ true → RestsOn s.accepted p.made
      → RestsOn p.accepted s.made × ReportsAgree p s
  agree_both honest p p_is p_in selected s s_is s_in rests =
      let m = peer_matches honest p p_is p_in selected in
      let same = m.back_by_no_other s s_is s_in rests in
      let on : RestsOn p.accepted s.made =
      subst (λ (t : OfServer). RestsOn p.accepted t.made) (sym same) m.rests in (
        on,
        matching.reports_agree setup p (knows_peer p p_is) p_in s (knows_server s s_is) s_in on
            rests,
      )

-- What a run knows of a conversation (`run_known`) names no other conversation of it, so it holds
-- in any company. The first tag that a server in SUCCESS accepted tells both nonces of the one that
-- made it, and nonces that differ leave one; a peer's tells its own nonce, which the server on that
-- it rests has from the first tag that this accepted in its turn (`back_on`).
pub any_ends_match : AnyEndsMatch
any_ends_match setup kind ps ss are differ honest =
    record {
      peers_match = peer_matches setup kind ps ss are differ honest;
      servers_match = λ s s_is s_in of_key.
          server_matches setup kind ps ss are differ s s_is s_in of_key (honest.of_servers s s_is);
      same_keys = keys setup kind ps ss are differ;
      servers_agree = λ p p_is p_in s s_is rests back.
          matching.same_as_reported setup p (peer_known setup p (are.peers p p_is)) p_in s
          (server_known setup s (are.servers s s_is)) rests back;
      both_agree = agree_both setup kind ps ss are differ honest;
    }

-- a server's match asks nothing of what the peers accepted
pub any_server_matches : AnyServerMatches
any_server_matches setup kind ps ss are differ s is_one s_in of_key honest =
    record {
      matches = server_matches setup kind ps ss are differ s is_one s_in of_key honest;
      same_keys = keys setup kind ps ss are differ s is_one s_in;
    }
