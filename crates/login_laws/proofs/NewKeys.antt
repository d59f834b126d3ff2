-- By EAP-PSK no two conversations of the peer with fresh nonces have one MSK or one EMSK.
use Rattle.std.proofs.Common.{◌≡◌, ℕ, List, true, false, Some, refl, sym, ap, subst, ◌∙◌, arith}
use Rattle.login_setup.specs.declared.setup.PeerSetup.{PeerSetup}
use Rattle.octet_lists.specs.Among.{gpsk_kind, psk_kind}
use Rattle.eap_method.specs.BothPeers.{gpsk_in, psk_in}
use Rattle.eap_method.specs.declared.tags.TagRecord.{TagRecord}
use Rattle.eap_method.specs.GpskPeer as gpsk_peer
use Rattle.eap_method.specs.Peer.{credential_for, key_for}
use Rattle.eap_method.specs.PskPeer as psk_peer
use Rattle.eap_method.specs.PskTags.{rand_of}
use Rattle.login_keys.specs.PskLaws.{login_keys_of}
use Rattle.login_keys.proofs.PskLaws.{psk_keys_differ}
use Rattle.peer_machine.specs.PeerTable as peers
use Rattle.peer_machine.specs.PeerTable.{PeerNow}
use Rattle.eap_world.specs.Conversations.{front}
use Rattle.method_laws.specs.ByMethod as by_method
use Rattle.method_laws.specs.ByMethod.{PeerTags}
use Rattle.world_laws.specs.EachConversation.{peer_nonce}
use Rattle.method_laws.specs.GpskPeerInvariant as gpsk_stands
use Rattle.method_laws.specs.PskPeerInvariant as psk_stands
use Rattle.login_laws.specs.NewKeys.{KeysAreNew}
use Rattle.login_laws.specs.SessionIds.{SessionOf, gpsk_peer_session, peer_session, peer_session_of}
use Rattle.login_laws.specs.SessionIds.{psk_peer_session}
use Rattle.login_laws.proofs.Conversations.{run_known}
use Rattle.world_laws.proofs.OneOf.{first_of, second_of}
use Rattle.login_laws.proofs.SessionIds.{session_is}
use Rattle.world_laws.proofs.EndTags.{peer_tags}

-- by EAP-PSK the keys are those of the shared key and the conversation's nonce
record AreFrom (key nonce : List ℕ) (x : SessionOf) : Type 0 where
  pub msk : x.report.method ≡ psk_kind → x.report.msk ≡ (login_keys_of key (front nonce)).msk
  pub emsk : x.report.method ≡ psk_kind → x.report.emsk ≡ (login_keys_of key (front nonce)).emsk

kinds : gpsk_kind ≡ psk_kind → ⊥
kinds e = absurd (omega (arith, e))

from_psk : (login : psk_peer.Login) (key nonce : List ℕ) (x : SessionOf) → login.cred.psk ≡ key
    → login.nonce ≡ nonce
    → Some (let y : SessionOf = record {
      report = psk_peer.report_of login;
      rand_p = rand_of login.nonce;
      rand_s = login.rand_s;
    } in y) ≡ Some x → AreFrom key nonce x
unfolding psk_peer.report_of psk_peer.keys_of
from_psk login key nonce x is_key is_nonce is =
    let own : SessionOf = record {
      report = psk_peer.report_of login;
      rand_p = rand_of login.nonce;
      rand_s = login.rand_s;
    } in
    subst (AreFrom key nonce) (session_is (Some own) own x refl is)
    (record {
      msk = λ _. ap (λ (k : List ℕ). (login_keys_of k (front login.nonce)).msk) is_key
          ∙ ap (λ (n : List ℕ). (login_keys_of key (front n)).msk) is_nonce;
      emsk = λ _. ap (λ (k : List ℕ). (login_keys_of k (front login.nonce)).emsk) is_key
          ∙ ap (λ (n : List ℕ). (login_keys_of key (front n)).emsk) is_nonce;
    })

from_gpsk : (login : gpsk_peer.Login) (key nonce : List ℕ) (x : SessionOf)
    → Some (let y : SessionOf = record {
      report = gpsk_peer.report_of login;
      rand_p = login.nonce;
      rand_s = login.rand_s;
    } in y) ≡ Some x → AreFrom key nonce x
unfolding gpsk_peer.report_of
from_gpsk login key nonce x is =
    let own : SessionOf =
    record { report = gpsk_peer.report_of login; rand_p = login.nonce; rand_s = login.rand_s } in
    subst (AreFrom key nonce) (session_is (Some own) own x refl is)
    (record { msk = λ by. absurd (kinds by); emsk = λ by. absurd (kinds by) })

of_psk_view : (setup : PeerSetup) (view : psk_peer.View) (accepted made : List TagRecord)
    → psk_stands.PskPeerTags setup view accepted made
    → (x : SessionOf) → psk_peer_session view ≡ Some x
    → AreFrom (key_for setup psk_kind) setup.nonce x
unfolding credential_for
of_psk_view setup _ _ _ psk_stands.psk_unset x is = cc
of_psk_view setup _ _ _ (psk_stands.psk_fresh allowed) x is = cc
of_psk_view setup _ _ _ (psk_stands.psk_waits login facts) x is = cc
of_psk_view setup _ _ _ (psk_stands.psk_over login true header sealed id facts) x is =
    from_psk login (key_for setup psk_kind) setup.nonce x (ap (λ (c : _). c.psk) facts.cred)
    facts.nonce is
of_psk_view setup _ _ _ (psk_stands.psk_over login false header sealed id facts) x is = cc

of_gpsk_view : (setup : PeerSetup) (view : gpsk_peer.View) (accepted made : List TagRecord)
    → gpsk_stands.GpskPeerTags setup view accepted made
    → (key : List ℕ) (x : SessionOf) → gpsk_peer_session view ≡ Some x → AreFrom key setup.nonce x
of_gpsk_view setup _ _ _ gpsk_stands.gpsk_unset key x is = cc
of_gpsk_view setup _ _ _ (gpsk_stands.gpsk_fresh allowed) key x is = cc
of_gpsk_view setup _ _ _ (gpsk_stands.gpsk_waits login list facts) key x is = cc
of_gpsk_view setup _ _ _ (gpsk_stands.gpsk_confirmed login list pd facts) key x is =
    from_gpsk login key setup.nonce x is
of_gpsk_view setup _ _ _ (gpsk_stands.gpsk_failed login list facts) key x is = cc
of_gpsk_view setup _ _ _ (gpsk_stands.gpsk_barred login list code facts) key x is = cc

from_nonce : (setup : PeerSetup) (now : PeerNow) (accepted made : List TagRecord)
    → PeerTags setup now.vars.selected now.views accepted made
    → (x : SessionOf) → peer_session now ≡ Some x → AreFrom (key_for setup psk_kind) setup.nonce x
from_nonce setup now _ _ (by_method.none_selected unselected psk_verdict gpsk_verdict) x is =
    absurd (let e = sym (ap (peer_session_of now) unselected) ∙ is in cc e)
from_nonce setup now _ _ (by_method.psk_selected accepted made is_selected told) x is =
    of_psk_view setup (psk_in now.views) accepted made told x
    (sym (ap (peer_session_of now) is_selected) ∙ is)
from_nonce setup now _ _ (by_method.gpsk_selected accepted made is_selected told) x is =
    of_gpsk_view setup (gpsk_in now.views) accepted made told (key_for setup psk_kind) x
    (sym (ap (peer_session_of now) is_selected) ∙ is)

-- By EAP-PSK a conversation's MSK and EMSK are those of its key and its own nonce's first 16 octets
-- (`from_nonce`). AES under one key gives different blocks for different ones: so equal MSKs or
-- EMSKs come of equal RAND_P (`psk_keys_differ`), and with fresh nonces no two conversations have
-- one RAND_P.
pub keys_are_new : KeysAreNew
keys_are_new setup events whole is_key fresh p q two one other has its =
    let all = run_known setup events whole in
    let known = all.peers p (first_of p q _ two) in
    let others = all.peers q (second_of p q _ two) in
    let from = from_nonce (peers.setup_with_nonce setup.peer (peer_nonce p))
    p.now p.accepted p.made (peer_tags known.stands) one has.has in
    let other_from = from_nonce (peers.setup_with_nonce setup.peer (peer_nonce q))
    q.now q.accepted q.made (peer_tags others.stands) other its.has in
    let differ = psk_keys_differ (key_for setup.peer psk_kind) (front (peer_nonce p))
    (front (peer_nonce q)) is_key has.rand_p its.rand_p in
    record {
      msk = λ e. all.peers_two fresh p q two
          (differ.msk (sym (from.msk has.by_psk) ∙ e ∙ other_from.msk its.by_psk));
      emsk = λ e. all.peers_two fresh p q two
          (differ.emsk (sym (from.emsk has.by_psk) ∙ e ∙ other_from.emsk its.by_psk));
    }
