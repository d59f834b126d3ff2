-- Both ends of one login make one Session-Id, and no two logins of the peer with fresh nonces do.
use Rattle.std.proofs.Common.{◌≡◌, ℕ, List, ◌∷◌, length, true, false, Option, Some, refl, sym, ap}
use Rattle.std.proofs.Common.{subst, ◌∙◌, arith}
use Rattle.std.specs.Prelude.{codes}
use Rattle.login_setup.specs.declared.setup.PeerSetup.{PeerSetup}
use Rattle.login_setup.specs.Setup.{ServerSetup}
use Rattle.login_setup.specs.declared.setup.Setup.{Setup}
use Rattle.octet_lists.specs.Among.{gpsk_kind, psk_kind}
use Rattle.octet_lists.specs.Suite.{suite_octets}
use Rattle.octet_lists.specs.declared.suite.Suite.{Suite}
use Rattle.eap_method.specs.declared.tags.TagRecord.{TagRecord}
use Rattle.eap_method.specs.declared.values.Report.{Report}
use Rattle.eap_method.specs.GpskPeer as gpsk_peer
use Rattle.eap_method.specs.PskPeer as psk_peer
use Rattle.eap_method.specs.PskTags.{rand_of}
use Rattle.peer_machine.specs.PeerTable as peers
use Rattle.peer_machine.specs.PeerTable.{PeerNow}
use Rattle.server_machine.specs.ServerTable as servers
use Rattle.eap_world.specs.Conversations.{front}
use Rattle.eap_world.specs.Judgement.{is_success}
use Rattle.eap_world.specs.World.{WorldNow}
use Rattle.method_laws.specs.ByMethod as by_method
use Rattle.method_laws.specs.ByMethod.{PeerTags}
use Rattle.world_laws.specs.EachConversation.{AreTwoOf, IsOneOf, OfPeer, OfServer, peer_nonce}
use Rattle.world_laws.specs.EachConversation.{server_nonce}
use Rattle.method_laws.specs.GpskPeerInvariant as gpsk_stands
use Rattle.login_laws.specs.Matching.{RestsOn}
use Rattle.method_laws.specs.PskPeerInvariant as psk_stands
use Rattle.login_keys.specs.SessionId.{method_id_input}
use Rattle.login_laws.specs.SessionIds.{AreOfTwo, HaveOneSession, SessionIdsMatch, SessionOf}
use Rattle.login_laws.specs.SessionIds.{gpsk_peer_session, gpsk_server_session, input_of}
use Rattle.login_laws.specs.SessionIds.{peer_session, peer_session_of, psk_peer_session}
use Rattle.login_laws.specs.SessionIds.{psk_server_session, psk_session_id, server_session}
use Rattle.login_laws.specs.SessionIds.{server_session_of, session_id}
use Rattle.login_laws.proofs.Conversations.{run_known}
use Rattle.method_laws.proofs.Fields.{fronts}
use Rattle.method_laws.proofs.GpskAgrees as gpsk
use Rattle.login_laws.proofs.Matching.{AllKnown}
use Rattle.login_laws.proofs.Matching as matching
use Rattle.world_laws.proofs.OneOf.{first_of, second_of}
use Rattle.method_laws.proofs.PskAgrees as psk
use Rattle.method_laws.proofs.PskFields.{front_size}
use Rattle.method_laws.proofs.Among.{first_in_one}
use Rattle.method_laws.proofs.Succeeding.{both_succeed, BothSucceed, by_gpsk, by_psk}
use Rattle.world_laws.specs.Runs.{run_of}
use Rattle.eap_method.specs.BothPeers.{psk_in}
use Rattle.eap_method.specs.BothPeers.{gpsk_in}
use Rattle.world_laws.proofs.EndTags.{peer_tags}

-- ---- both ends of one login

same_session : (report other : Report) (rand_p rand_p' rand_s rand_s' : List ℕ) → report ≡ other
    → rand_p ≡ rand_p' → rand_s ≡ rand_s'
    → Some (let x : SessionOf = record { report = report; rand_p = rand_p; rand_s = rand_s } in x)
    ≡ Some (let x : SessionOf = record { report = other; rand_p = rand_p'; rand_s = rand_s' } in x)
same_session report other rand_p rand_p' rand_s rand_s' r p s = rw (r, p, s) refl

pub session_is : (o : Option SessionOf) (x y : SessionOf) → o ≡ Some x → o ≡ Some y → x ≡ y
session_is o x y a b = cc

one_session : (p : OfPeer) (s : OfServer) (session : SessionOf) → peer_session p.now ≡ Some session
    → server_session s.now ≡ Some session → HaveOneSession p s
one_session p s session at_peer at_server = record {
  session = session;
  at_peer = at_peer;
  at_server = at_server;
  same = λ key one other one_is other_is.
      ap (session_id key) (session_is (peer_session p.now) one session one_is at_peer
      ∙ session_is (server_session s.now) session other at_server other_is);
}

of_both : (p : OfPeer) (s : OfServer) (peer_setup : PeerSetup) (server_setup : ServerSetup)
    → BothSucceed peer_setup server_setup p.now.vars.selected p.now.views s.now.vars.current
    s.now.views → HaveOneSession p s
of_both p s peer_setup server_setup
    (by_psk login facts other checked is_selected in_view is_current in_other r_sent same) =
    one_session p s _ (ap (peer_session_of p.now) is_selected ∙ ap psk_peer_session in_view)
    (ap (server_session_of s.now) is_current ∙ (ap psk_server_session in_other
    ∙ same_session _ _ _ _ _ _ (sym (psk.same_reports login other same)) (sym same.rand_p)
    (sym same.rand_s)))
of_both p s peer_setup server_setup
    (by_gpsk login list facts other pd checked is_selected in_view is_current in_other same) =
    one_session p s _ (ap (peer_session_of p.now) is_selected ∙ ap gpsk_peer_session in_view)
    (ap (server_session_of s.now) is_current ∙ (ap gpsk_server_session in_other
    ∙ same_session _ _ _ _ _ _ (sym (gpsk.same_reports login list other same)) (sym same.rand_p)
    (sym same.rand_s)))

-- ---- two conversations of the peer

-- RAND_P is the conversation's nonce
record IsFrom (nonce : List ℕ) (x : SessionOf) : Type 0 where
  pub by_psk : x.report.method ≡ psk_kind → x.rand_p ≡ front nonce
  pub by_gpsk : x.report.method ≡ gpsk_kind → x.rand_p ≡ nonce

kinds : psk_kind ≡ gpsk_kind → ⊥
kinds e = absurd (omega (arith, e))

from_psk : (login : psk_peer.Login) (nonce : List ℕ) (x : SessionOf) → login.nonce ≡ nonce
    → Some (let y : SessionOf = record {
      report = psk_peer.report_of login;
      rand_p = rand_of login.nonce;
      rand_s = login.rand_s;
    } in y) ≡ Some x → IsFrom nonce x
unfolding psk_peer.report_of
from_psk login nonce x e is =
    let own : SessionOf = record {
      report = psk_peer.report_of login;
      rand_p = rand_of login.nonce;
      rand_s = login.rand_s;
    } in
    subst (IsFrom nonce) (session_is (Some own) own x refl is)
    (record { by_psk = λ _. ap front e; by_gpsk = λ by. absurd (kinds by) })

from_gpsk : (login : gpsk_peer.Login) (nonce : List ℕ) (x : SessionOf) → login.nonce ≡ nonce
    → Some (let y : SessionOf = record {
      report = gpsk_peer.report_of login;
      rand_p = login.nonce;
      rand_s = login.rand_s;
    } in y) ≡ Some x → IsFrom nonce x
unfolding gpsk_peer.report_of
from_gpsk login nonce x e is =
    let own : SessionOf =
    record { report = gpsk_peer.report_of login; rand_p = login.nonce; rand_s = login.rand_s } in
    subst (IsFrom nonce) (session_is (Some own) own x refl is)
    (record { by_psk = λ by. absurd (kinds (sym by)); by_gpsk = λ _. e })

of_psk_view : (setup : PeerSetup) (view : psk_peer.View) (accepted made : List TagRecord)
    → psk_stands.PskPeerTags setup view accepted made
    → (x : SessionOf) → psk_peer_session view ≡ Some x → IsFrom setup.nonce x
of_psk_view setup _ _ _ psk_stands.psk_unset x is = cc
of_psk_view setup _ _ _ (psk_stands.psk_fresh allowed) x is = cc
of_psk_view setup _ _ _ (psk_stands.psk_waits login facts) x is = cc
of_psk_view setup _ _ _ (psk_stands.psk_over login true header sealed id facts) x is =
    from_psk login setup.nonce x facts.nonce is
of_psk_view setup _ _ _ (psk_stands.psk_over login false header sealed id facts) x is = cc

of_gpsk_view : (setup : PeerSetup) (view : gpsk_peer.View) (accepted made : List TagRecord)
    → gpsk_stands.GpskPeerTags setup view accepted made
    → (x : SessionOf) → gpsk_peer_session view ≡ Some x → IsFrom setup.nonce x
of_gpsk_view setup _ _ _ gpsk_stands.gpsk_unset x is = cc
of_gpsk_view setup _ _ _ (gpsk_stands.gpsk_fresh allowed) x is = cc
of_gpsk_view setup _ _ _ (gpsk_stands.gpsk_waits login list facts) x is = cc
of_gpsk_view setup _ _ _ (gpsk_stands.gpsk_confirmed login list pd facts) x is =
    from_gpsk login setup.nonce x facts.nonce is
of_gpsk_view setup _ _ _ (gpsk_stands.gpsk_failed login list facts) x is = cc
of_gpsk_view setup _ _ _ (gpsk_stands.gpsk_barred login list code facts) x is = cc

from_nonce : (setup : PeerSetup) (now : PeerNow) (accepted made : List TagRecord)
    → PeerTags setup now.vars.selected now.views accepted made
    → (x : SessionOf) → peer_session now ≡ Some x → IsFrom setup.nonce x
from_nonce setup now _ _ (by_method.none_selected unselected psk_verdict gpsk_verdict) x is =
    absurd (let e = sym (ap (peer_session_of now) unselected) ∙ is in cc e)
from_nonce setup now _ _ (by_method.psk_selected accepted made is_selected told) x is =
    of_psk_view setup (psk_in now.views) accepted made told x
    (sym (ap (peer_session_of now) is_selected) ∙ is)
from_nonce setup now _ _ (by_method.gpsk_selected accepted made is_selected told) x is =
    of_gpsk_view setup (gpsk_in now.views) accepted made told x
    (sym (ap (peer_session_of now) is_selected) ∙ is)

tails : (a b : ℕ) (xs ys : List ℕ) → a ∷ xs ≡ b ∷ ys → xs ≡ ys
tails a b xs ys e = cc

module _ (nonce other_nonce : List ℕ) (size : length nonce ≡ 32)
    (other_size : length other_nonce ≡ 32) (x y : SessionOf)
    (from : IsFrom nonce x) (other_from : IsFrom other_nonce y) where
  psk_same : x.report.method ≡ psk_kind → y.report.method ≡ psk_kind
      → psk_session_id x ≡ psk_session_id y → front nonce ≡ front other_nonce
  psk_same one other e =
      let its = from.by_psk one in
      let others = other_from.by_psk other in
      sym its
      ∙ ((fronts 16 x.rand_p x.rand_s y.rand_p y.rand_s
      (ap length its ∙ front_size nonce (omega (arith, size)))
      (ap length others ∙ front_size other_nonce (omega (arith, other_size)))
      (tails psk_kind psk_kind _ _ e)).0
      ∙ others)

  gpsk_same : x.report.method ≡ gpsk_kind → y.report.method ≡ gpsk_kind → (suite its : Suite)
      → method_id_input suite (input_of x) ≡ method_id_input its (input_of y)
      → front nonce ≡ front other_nonce
  gpsk_same one other suite its e =
      let own = from.by_gpsk one in
      let others = other_from.by_gpsk other in
      let worded = (fronts 9 (codes "Method ID") _ (codes "Method ID") _ refl refl e).1 in
      let suited = (fronts 6 (suite_octets suite) _ (suite_octets its) _ refl refl
      (tails gpsk_kind gpsk_kind _ _ worded)).1 in
      let same = (fronts 32 x.rand_p _ y.rand_p _ (ap length own ∙ size)
      (ap length others ∙ other_size) suited).0 in
      ap front (sym own ∙ (same ∙ others))

-- ---- every run

module _ (setup : Setup) (last : WorldNow) (ps : List OfPeer) (ss : List OfServer)
    (all : AllKnown setup last ps ss) where
  together : (p : OfPeer) → IsOneOf p ps → is_success p.now.vars.state ≡ true → (s : OfServer)
      → IsOneOf s ss → is_success s.now.vars.state ≡ true
      → RestsOn p.accepted s.made → RestsOn s.accepted p.made → HaveOneSession p s
  together p is p_in s s_is s_in on back =
      let known = all.peers p is in
      let s_known = all.servers s s_is in
      let peer_setup = peers.setup_with_nonce setup.peer (peer_nonce p) in
      let server_setup = servers.setup_with_nonce setup.server (server_nonce s) in
      of_both p s peer_setup server_setup
      (both_succeed peer_setup server_setup _ _ _ _ known.size s_known.size _ _ _ _
      (matching.peer_won setup p known p_in) (matching.server_won setup s s_known s_in)
      (first_in_one p.accepted s.made p.made on.tag on.more on.first on.is_made)
      (first_in_one s.accepted p.made s.made back.tag back.more back.first back.is_made))

  apart : last.conversations.fresh ≡ true → (p q : OfPeer) → AreTwoOf p q ps → (x y : SessionOf)
      → peer_session p.now ≡ Some x → peer_session q.now ≡ Some y
      → AreOfTwo x y
  apart fresh p q two x y x_is y_is =
      let known = all.peers p (first_of p q ps two) in
      let other = all.peers q (second_of p q ps two) in
      let from = from_nonce (peers.setup_with_nonce setup.peer (peer_nonce p))
      p.now p.accepted p.made (peer_tags known.stands) x x_is in
      let other_from = from_nonce (peers.setup_with_nonce setup.peer (peer_nonce q))
      q.now q.accepted q.made (peer_tags other.stands) y y_is in
      record {
        by_psk = λ one its e. all.peers_two fresh p q two (psk_same (peer_nonce p)
            (peer_nonce q) known.size other.size x y from other_from one its e);
        by_gpsk = λ one its suite others e.
            all.peers_two fresh p q two (gpsk_same (peer_nonce p)
            (peer_nonce q) known.size other.size x y from other_from one its suite others e);
      }

-- Two conversations in SUCCESS that rest on each other are in one login (`both_succeed`), so that
-- both make their Session-Id of the same report and nonces. Any two of the peer have nonces with
-- different first 16 octets, if nonces are fresh. The nonce stands at a fixed place, by EAP-PSK in
-- the Session-Id, by EAP-GPSK in what the KDF derives it from: so these differ.
pub session_ids_match : SessionIdsMatch
session_ids_match setup events whole =
    let all = run_known setup events whole in
    record {
      same = together setup (run_of setup events) _ _ all;
      apart = apart setup (run_of setup events) _ _ all;
    }
