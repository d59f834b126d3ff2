-- What a tag that the peer made by EAP-GPSK tells of the conversation in which it did: both nonces,
-- whole.
use Rattle.std.proofs.Common.{◌≡◌, ℕ, ◌≤◌, List, [], ◌++◌, length, Option, Some, refl, sym, ap, ◌∙◌}
use Rattle.std.proofs.Common.{arith, length-append, inl, inr}
use Rattle.std.specs.Int.{w32, to_be_bytes}
use Rattle.login_setup.specs.declared.setup.PeerSetup.{PeerSetup}
use Rattle.gpsk_messages.specs.Message.{field_with_length, covered_of}
use Rattle.eap_method.specs.declared.tags.TagRecord.{TagRecord}
use Rattle.eap_method.specs.GpskPeer as gpsk
use Rattle.eap_method.specs.GpskServer as gpsk_server
use Rattle.eap_method.specs.GpskTags.{sk_record}
use Rattle.eap_method.specs.Peer.{PeerViews}
use Rattle.method_laws.specs.ByMethod.{PeerTags, peer_foreign}
use Rattle.method_laws.specs.GpskPeerInvariant.{GpskStarted, GpskPeerTags, gpsk_unset, gpsk_fresh}
use Rattle.method_laws.specs.GpskPeerInvariant.{gpsk_waits, gpsk_confirmed, gpsk_failed}
use Rattle.method_laws.specs.GpskPeerInvariant.{gpsk_barred}
use Rattle.method_laws.specs.GpskPeerInvariant.{gpsk2_record, front_in, gpsk_whole_rand_s}
use Rattle.method_laws.specs.GpskServerInvariant.{gpsk2_of_login}
use Rattle.method_laws.specs.Records.{IsIn}
use Rattle.method_laws.specs.TagOwners.{OnlyByPeer}
use Rattle.method_laws.proofs.Among.{among_one, among_two}
use Rattle.method_laws.proofs.Fields.{fronts, sized_fronts}
use Rattle.method_laws.proofs.PeerByMethod.{created_by_gpsk}
use Rattle.eap_method.specs.BothPeers.{gpsk_in}
use Rattle.eap_method.specs.PskTags.{rand_of}

-- what the MAC of GPSK-2 covers, cut at the nonces
gpsk2_covers : (s : gpsk_server.Login) (p : gpsk.Login) (list pd : List ℕ) → length s.rand_p ≡ 32
    → length s.nonce ≡ 32 → length p.nonce ≡ 32 → length p.rand_s ≡ 32
    → covered_of (gpsk2_of_login s pd) ≡ covered_of (gpsk.gpsk2_of p list) → (s.rand_p ≡ p.nonce)
    × (s.nonce ≡ p.rand_s)
unfolding covered_of
gpsk2_covers s p list pd size_1 size_2 size_3 size_4 e =
    let t0 = sized_fronts s.id_p _ p.cred.id_p _ e in
    let t1 = sized_fronts s.own.id_s _ p.id_s _ t0.1 in
    let t2 = fronts 32 s.rand_p _ p.nonce _ size_1 size_3 t1.1 in
    let t3 = fronts 32 s.nonce _ p.rand_s _ size_2 size_4 t2.1 in
    (t2.0, t3.0)

-- it has more octets than what the MACs of GPSK-4 and of GPSK-Protected-Fail cover
pub long : (id_p id_s rand_p rest short : List ℕ) → length rand_p ≡ 32 → length short ≤ 4
    → field_with_length id_p ++ (field_with_length id_s ++ (rand_p ++ rest)) ≡ short → ⊥
long id_p id_s rand_p rest short size few e =
    let sizes : length (field_with_length id_p ++ (field_with_length id_s ++ (rand_p ++ rest)))
    ≡ length short = ap length e in
    absurd (omega (
      arith,
      length-append id_p (field_with_length id_s ++ (rand_p ++ rest)),
      length-append id_s (rand_p ++ rest),
      length-append rand_p rest,
      size,
      few,
    ))

pub not_gpsk4 : (s : gpsk_server.Login) (p : gpsk.Login) (pd : List ℕ) → length s.rand_p ≡ 32
    → covered_of (gpsk2_of_login s pd) ≡ covered_of (gpsk.gpsk4_of p) → ⊥
unfolding covered_of
not_gpsk4 s p pd size e =
    long s.id_p s.own.id_s s.rand_p _ (field_with_length []) size (omega arith) e

pub not_fail : (s : gpsk_server.Login) (p : gpsk.Login) (pd : List ℕ) (code : ℕ)
    → length s.rand_p ≡ 32
    → covered_of (gpsk2_of_login s pd) ≡ covered_of (gpsk.protected_fail_of p code) → ⊥
unfolding covered_of
not_fail s p pd code size e =
    long s.id_p s.own.id_s s.rand_p _ (to_be_bytes w32 code) size (omega arith) e

module _ (s : gpsk_server.Login) (pd : List ℕ) (p_size : length s.rand_p ≡ 32)
    (s_size : length s.nonce ≡ 32) where
  abbrev gpsk2_tag : TagRecord
  gpsk2_tag = sk_record s.psk (gpsk2_of_login s pd)

  gpsk2_implies : (setup : PeerSetup) (nonce : List ℕ) (login : gpsk.Login) (list : List ℕ)
      → length nonce ≡ 32 → GpskStarted (record setup { nonce = nonce }) login list
      → gpsk2_tag ≡ gpsk2_record login list → (nonce ≡ s.rand_p)
      × (Some login.rand_s ≡ Some s.nonce)
  gpsk2_implies setup nonce login list size facts e =
      let both = gpsk2_covers s login list pd p_size s_size (ap length facts.nonce ∙ size)
      facts.size (ap (λ (r : TagRecord). r.octets) e) in
      (sym (both.0 ∙ facts.nonce), ap (λ (x : List ℕ). Some x) (sym both.1))

  -- both nonces whole
  pub gpsk_view_implies : (setup : PeerSetup) (nonce : List ℕ) (view : gpsk.View)
      (accepted made : List TagRecord) → length nonce ≡ 32
      → GpskPeerTags (record setup { nonce = nonce }) view accepted made → IsIn gpsk2_tag made
      → (nonce ≡ s.rand_p) × (gpsk_whole_rand_s view ≡ Some s.nonce)
  gpsk_view_implies setup nonce _ _ _ size gpsk_unset is = elim is [ ]
  gpsk_view_implies setup nonce _ _ _ size (gpsk_fresh allowed) is = elim is [ ]
  gpsk_view_implies setup nonce _ _ _ size (gpsk_waits login list facts) is =
      gpsk2_implies setup nonce login list size facts (among_one _ _ is)
  gpsk_view_implies setup nonce _ _ _ size (gpsk_confirmed login list _ facts) is =
      elim (among_two _ _ _ is) [
        | inl e ↦ gpsk2_implies setup nonce login list size facts e
        | inr e ↦ absurd (not_gpsk4 s login pd p_size (ap (λ (r : TagRecord). r.octets) e))
      ]
  gpsk_view_implies setup nonce _ _ _ size (gpsk_failed login list facts) is =
      gpsk2_implies setup nonce login list size facts (among_one _ _ is)
  gpsk_view_implies setup nonce _ _ _ size (gpsk_barred login list code facts) is =
      elim (among_two _ _ _ is) [
        | inl e ↦ gpsk2_implies setup nonce login list size facts e
        | inr e ↦ absurd (not_fail s login pd code p_size (ap (λ (r : TagRecord). r.octets) e))
      ]

  gpsk_tags_imply : (setup : PeerSetup) (nonce : List ℕ) (selected : Option ℕ) (views : PeerViews)
      (accepted made : List TagRecord) → length nonce ≡ 32
      → PeerTags (record setup { nonce = nonce }) selected views accepted made
      → IsIn gpsk2_tag made
      → (rand_of nonce ≡ rand_of s.rand_p) × (peer_foreign selected views ≡ Some (rand_of s.nonce))
  gpsk_tags_imply setup nonce selected views accepted made size tags is =
      let by = created_by_gpsk (record setup { nonce = nonce })
      selected views accepted made gpsk2_tag tags is refl in
      let t = gpsk_view_implies setup nonce (gpsk_in views) accepted made size by.1 is in
      (ap rand_of t.0, ap (λ (o : Option ℕ). peer_foreign o views) by.0 ∙ ap front_in t.1)

  pub gpsk2_created : OnlyByPeer gpsk2_tag (rand_of s.rand_p) (rand_of s.nonce)
  gpsk2_created = record {
    tells = λ setup nonce held accepted made size told is.
        (let t =
        gpsk_tags_imply setup nonce told.selected told.views accepted made size told.tags is in
        (t.0, sym told.held_is ∙ t.1));
  }
