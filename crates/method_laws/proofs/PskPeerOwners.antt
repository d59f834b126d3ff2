-- What a tag that the peer made by EAP-PSK tells of the conversation in which it did: both nonces.
use Rattle.std.proofs.Common.{◌≡◌, ℕ, List, ◌++◌, length, Option, Some, refl, sym, ap, ◌∙◌, arith}
use Rattle.std.proofs.Common.{inl, inr}
use Rattle.login_setup.specs.declared.setup.PeerSetup.{PeerSetup}
use Rattle.eap_method.specs.declared.tags.Label.TheVariants.{Ak, Tek}
use Rattle.eap_method.specs.declared.tags.TagRecord.{TagRecord}
use Rattle.eap_method.specs.Peer.{PeerViews}
use Rattle.eap_method.specs.PskPeer as psk
use Rattle.eap_method.specs.PskTags.{ak_record, rand_of, mac_p_octets}
use Rattle.method_laws.specs.ByMethod.{PeerTags, peer_foreign}
use Rattle.method_laws.specs.PskPeerInvariant.{PskStarted, PskPeerTags, psk_unset, psk_fresh}
use Rattle.method_laws.specs.PskPeerInvariant.{psk_waits, psk_over, psk2_record, psk_rand_s}
use Rattle.method_laws.specs.Records.{IsIn}
use Rattle.method_laws.specs.TagOwners.{OnlyByPeer}
use Rattle.method_laws.proofs.Among.{among_one, among_two}
use Rattle.method_laws.proofs.Fields.{ends}
use Rattle.method_laws.proofs.PeerByMethod.{created_by_psk}
use Rattle.method_laws.proofs.PskFields.{front_size}
use Rattle.eap_method.specs.BothPeers.{psk_in}

pub labels_apart : {A : Type 0} → Ak ≡ Tek → A
labels_apart e = absurd cc

mac_p_implies : (id_p id_s rand_s rand_p name other rand_s' rand_p' : List ℕ) → length rand_p ≡ 16
    → length rand_s ≡ 16 → length rand_p' ≡ 16 → length rand_s' ≡ 16
    → mac_p_octets id_p id_s rand_s rand_p ≡ mac_p_octets name other rand_s' rand_p'
    → (rand_s ≡ rand_s') × (rand_p ≡ rand_p')
unfolding mac_p_octets
mac_p_implies id_p id_s rand_s rand_p name other rand_s' rand_p' p s p' s' e =
    let t0 =
    ends 16 ((id_p ++ id_s) ++ rand_s) rand_p ((name ++ other) ++ rand_s') rand_p' p p' e in
    let t1 = ends 16 (id_p ++ id_s) rand_s (name ++ other) rand_s' s s' t0.0 in
    (t1.1, t0.1)

module _ (psk_key id_p id_s rand_s rand_p mac : List ℕ) (p_size : length rand_p ≡ 16)
    (s_size : length rand_s ≡ 16) where
  abbrev mac_p_tag : TagRecord
  mac_p_tag = ak_record psk_key (mac_p_octets id_p id_s rand_s rand_p) mac

  psk2_implies : (setup : PeerSetup) (nonce : List ℕ) (login : psk.Login) → length nonce ≡ 32
      → PskStarted (record setup { nonce = nonce }) login
      → mac_p_tag ≡ psk2_record login
      → (rand_of nonce ≡ rand_p) × (Some login.rand_s ≡ Some rand_s)
  unfolding psk.mac_p_covers
  psk2_implies setup nonce login size facts e =
      let p_front : length (rand_of login.nonce) ≡ 16 =
      front_size login.nonce (omega (arith, ap length facts.nonce, size)) in
      let both = mac_p_implies id_p id_s rand_s rand_p login.cred.id_p login.id_s login.rand_s
      (rand_of login.nonce) p_size s_size p_front facts.size (ap (λ (r : TagRecord). r.octets) e) in
      (sym (both.1 ∙ ap rand_of facts.nonce), ap (λ (x : List ℕ). Some x) (sym both.0))

  psk_view_implies : (setup : PeerSetup) (nonce : List ℕ) (view : psk.View)
      (accepted made : List TagRecord) → length nonce ≡ 32
      → PskPeerTags (record setup { nonce = nonce }) view accepted made → IsIn mac_p_tag made
      → (rand_of nonce ≡ rand_p) × (psk_rand_s view ≡ Some rand_s)
  psk_view_implies setup nonce _ _ _ size psk_unset is = elim is [ ]
  psk_view_implies setup nonce _ _ _ size (psk_fresh allowed) is = elim is [ ]
  psk_view_implies setup nonce _ _ _ size (psk_waits login facts) is =
      psk2_implies setup nonce login size facts (among_one _ _ is)
  psk_view_implies setup nonce _ _ _ size (psk_over login good header sealed id facts) is =
      elim (among_two _ _ _ is) [
        | inl e ↦ psk2_implies setup nonce login size facts e
        | inr e ↦ labels_apart (ap (λ (r : TagRecord). r.label) e)
      ]

  psk_tags_imply : (setup : PeerSetup) (nonce : List ℕ) (selected : Option ℕ) (views : PeerViews)
      (accepted made : List TagRecord) → length nonce ≡ 32
      → PeerTags (record setup { nonce = nonce }) selected views accepted made
      → IsIn mac_p_tag made
      → (rand_of nonce ≡ rand_p) × (peer_foreign selected views ≡ Some rand_s)
  psk_tags_imply setup nonce selected views accepted made size tags is =
      let by = created_by_psk (record setup { nonce = nonce })
      selected views accepted made mac_p_tag tags is refl in
      let t = psk_view_implies setup nonce (psk_in views) accepted made size by.1 is in
      (t.0, ap (λ (o : Option ℕ). peer_foreign o views) by.0 ∙ t.1)

  pub mac_p_created : OnlyByPeer mac_p_tag rand_p rand_s
  mac_p_created = record {
    tells = λ setup nonce held accepted made size told is.
        (let t =
        psk_tags_imply setup nonce told.selected told.views accepted made size told.tags is in
        (t.0, sym told.held_is ∙ t.1));
  }
