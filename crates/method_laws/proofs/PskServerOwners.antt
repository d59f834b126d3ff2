-- What a tag that the server made by EAP-PSK tells of the conversation in which it did; and what
-- each end asks by its first tag.
use Rattle.std.proofs.Common.{◌≡◌, ℕ, List, ◌∷◌, ◌++◌, length, Option, Some, refl, sym, ap, subst}
use Rattle.std.proofs.Common.{◌∙◌, arith, length-append, inl, inr}
use Rattle.login_setup.specs.declared.setup.PeerSetup.{PeerSetup}
use Rattle.login_setup.specs.Setup.{ServerSetup}
use Rattle.eap_method.specs.declared.tags.TagRecord.{TagRecord}
use Rattle.eap_method.specs.declared.values.ServerSide.{ServerSide}
use Rattle.eap_method.specs.PskPeer as psk_peer
use Rattle.eap_method.specs.PskServer as psk
use Rattle.eap_method.specs.PskTags.{ak_record, rand_of, mac_p_octets, mac_s_octets}
use Rattle.eap_method.specs.Server.{ServerViews, side_of}
use Rattle.method_laws.specs.ByMethod.{ServerTags, server_foreign}
use Rattle.method_laws.specs.PskPeerInvariant.{PskStarted, psk3_records_of}
use Rattle.method_laws.specs.PskServerInvariant.{PskChecked, PskServerTags, psk_asked, psk_checked}
use Rattle.method_laws.specs.PskServerInvariant.{psk_refused, psk_over, psk_rand_p, psk_rand_p_in}
use Rattle.method_laws.specs.Records.{IsIn}
use Rattle.method_laws.specs.TagOwners.{OnlyByPeer, OnlyByServer, NotByServer}
use Rattle.method_laws.proofs.Among.{among_two}
use Rattle.method_laws.proofs.Asks.{AsksPeer, AsksServer, some_is}
use Rattle.method_laws.proofs.Fields.{ends}
use Rattle.method_laws.proofs.PskFields.{front_size}
use Rattle.method_laws.proofs.PskPeerOwners.{labels_apart, mac_p_created}
use Rattle.method_laws.proofs.ServerByMethod.{created_by_psk}

mac_s_implies : (id_s rand_p name rand_p' : List ℕ) → length rand_p ≡ 16 → length rand_p' ≡ 16
    → mac_s_octets id_s rand_p ≡ mac_s_octets name rand_p'
    → rand_p ≡ rand_p'
unfolding mac_s_octets
mac_s_implies id_s rand_p name rand_p' p p' e = (ends 16 id_s rand_p name rand_p' p p' e).1

module _ (key id_s rand_p mac : List ℕ) (p_size : length rand_p ≡ 16) where
  abbrev mac_s_tag : TagRecord
  mac_s_tag = ak_record key (mac_s_octets id_s rand_p) mac

  psk3_implies : (setup : ServerSetup) (login : psk.Login) (id : ℕ) → PskChecked setup login
      → IsIn mac_s_tag (psk.psk3_records login id)
      → Some login.rand_p ≡ Some rand_p
  unfolding psk.mac_s_covers
  psk3_implies setup login id facts is =
      elim (among_two _ _ _ is) [
        | inl e ↦ ap (λ (x : List ℕ). Some x) (sym (mac_s_implies id_s rand_p login.own.id_s
            login.rand_p p_size facts.size (ap (λ (r : TagRecord). r.octets) e)))
        | inr e ↦ labels_apart (ap (λ (r : TagRecord). r.label) e)
      ]

  psk_view_implies : (setup : ServerSetup) (view : psk.View) (accepted made : List TagRecord)
      → PskServerTags setup view accepted made → IsIn mac_s_tag made
      → psk_rand_p view ≡ Some rand_p
  psk_view_implies setup _ _ _ (psk_asked ordered) is = elim is [ ]
  psk_view_implies setup _ _ _ (psk_checked login id facts) is =
      psk3_implies setup login id facts is
  psk_view_implies setup _ _ _ psk_refused is = elim is [ ]
  psk_view_implies setup _ _ _ (psk_over login good header sealed id facts r_sent rand_in r_came)
      is = psk3_implies setup login id facts is

  psk_tags_imply : (setup : ServerSetup) (current : Option ℕ) (views : ServerViews)
      (accepted made : List TagRecord)
      → ServerTags setup current views accepted made → IsIn mac_s_tag made
      → server_foreign current views ≡ Some rand_p
  psk_tags_imply setup current views accepted made tags is =
      let by = created_by_psk setup current views accepted made mac_s_tag tags is refl in
      ap (λ (o : Option ℕ). server_foreign o views) by.is_current
      ∙ (ap psk_rand_p_in by.in_view ∙ psk_view_implies setup by.view accepted made by.told is)

  pub mac_s_created : OnlyByServer mac_s_tag rand_p
  mac_s_created = record {
    tells = λ setup nonce held accepted made told is.
        sym told.held_is ∙ psk_tags_imply (record setup { nonce = nonce })
        told.current told.views accepted made told.tags is;
  }

-- ---- no conversation of the server makes what a server accepts first

-- MAC_P covers more than any MAC_S of the same server, by ID_P and RAND_S
mac_p_longer : (id_p id_s rand_s rand_p rand_p' : List ℕ) → length rand_p ≡ 16 → length rand_p' ≡ 16
    → length rand_s ≡ 16
    → mac_p_octets id_p id_s rand_s rand_p ≡ mac_s_octets id_s rand_p' → ⊥
unfolding mac_p_octets mac_s_octets
mac_p_longer id_p id_s rand_s rand_p rand_p' p p' s e =
    let sizes : length (((id_p ++ id_s) ++ rand_s) ++ rand_p) ≡ length (id_s ++ rand_p') =
    ap length e in
    absurd
    (omega (
      arith,
      length-append ((id_p ++ id_s) ++ rand_s) rand_p,
      length-append (id_p ++ id_s) rand_s,
      length-append id_p id_s,
      length-append id_s rand_p',
      p,
      p',
      s,
    ))

-- the server's own name is that of its setup in each conversation
psk_name : (setup : ServerSetup) (nonce : List ℕ) (login : psk.Login)
    → PskChecked (record setup { nonce = nonce }) login → login.own.id_s ≡ setup.name
unfolding side_of
psk_name setup nonce login facts = ap (λ (own : ServerSide). own.id_s) facts.own

module _ (setup : ServerSetup) (nonce : List ℕ) (login : psk.Login)
    (facts : PskChecked (record setup { nonce = nonce }) login) (mac : List ℕ)
    (n_front : length (rand_of login.nonce) ≡ 16) where
  abbrev psk2_tag : TagRecord
  psk2_tag = ak_record login.psk (psk.mac_p_covers login) mac

  not_psk3 : (other : List ℕ) (theirs : psk.Login) (id : ℕ)
      → PskChecked (record setup { nonce = other }) theirs
      → IsIn psk2_tag (psk.psk3_records theirs id) → ⊥
  unfolding psk.mac_p_covers psk.mac_s_covers
  not_psk3 other theirs id checked is =
      elim (among_two _ _ _ is) [
        | inl e ↦ mac_p_longer login.id_p login.own.id_s (rand_of login.nonce)
            login.rand_p theirs.rand_p facts.size checked.size n_front
            (ap (λ (r : TagRecord). r.octets) e
            ∙ ap (λ (name : List ℕ). mac_s_octets name theirs.rand_p)
            (psk_name setup other theirs checked ∙ sym (psk_name setup nonce login facts)))
        | inr e ↦ labels_apart (ap (λ (r : TagRecord). r.label) e)
      ]

  psk2_not_in : (other : List ℕ) (view : psk.View) (accepted made : List TagRecord)
      → PskServerTags (record setup { nonce = other }) view accepted made
      → IsIn psk2_tag made → ⊥
  psk2_not_in other _ _ _ (psk_asked ordered) is = elim is [ ]
  psk2_not_in other _ _ _ (psk_checked theirs id checked) is = not_psk3 other theirs id checked is
  psk2_not_in other _ _ _ psk_refused is = elim is [ ]
  psk2_not_in other _ _ _ (psk_over theirs good header sealed id checked r_sent rand_in r_came) is =
      not_psk3 other theirs id checked is

  psk2_alien : NotByServer setup psk2_tag
  psk2_alien = record {
    none = λ other held accepted made size told is.
        (let by = created_by_psk (record setup { nonce = other })
        told.current told.views accepted made psk2_tag told.tags is refl in
        psk2_not_in other by.view accepted made by.told is);
  }

-- ---- the first tags

module _ (setup : ServerSetup) (nonce foreign : List ℕ) (size : length nonce ≡ 32) where
  abbrev own : ServerSetup
  own = record setup { nonce = nonce }

  psk_asks : (login : psk.Login) (rest : List TagRecord) → PskChecked own login
      → Some login.rand_p ≡ Some foreign
      → AsksPeer setup nonce foreign
      (ak_record login.psk (psk.mac_p_covers login) (psk.mac_p_of login) ∷ rest)
  unfolding psk.mac_p_covers
  psk_asks login rest facts holds =
      let tag = ak_record login.psk (psk.mac_p_covers login) (psk.mac_p_of login) in
      let n_front : length (rand_of login.nonce) ≡ 16 =
      front_size login.nonce (omega (arith, ap length facts.nonce, size)) in
      let made = mac_p_created login.psk login.id_p login.own.id_s (rand_of login.nonce)
      login.rand_p (psk.mac_p_of login) facts.size n_front in
      record {
        tag = tag;
        rest = rest;
        first = refl;
        made = subst (λ (x : List ℕ). OnlyByPeer tag x (rand_of nonce)) (some_is _ _ holds)
            (subst (λ (x : List ℕ). OnlyByPeer tag login.rand_p x) (ap rand_of facts.nonce) made);
        alien = psk2_alien setup nonce login facts (psk.mac_p_of login) n_front;
      }

  pub psk_view_asks : (view : psk.View) (accepted made : List TagRecord)
      → PskServerTags own view accepted made → psk_rand_p view ≡ Some foreign
      → AsksPeer setup nonce foreign accepted
  psk_view_asks _ _ _ (psk_asked ordered) holds = absurd cc
  psk_view_asks _ _ _ (psk_checked login id facts) holds = psk_asks login _ facts holds
  psk_view_asks _ _ _ psk_refused holds = absurd cc
  psk_view_asks _ _ _ (psk_over login good header sealed id facts r_sent rand_in r_came) holds =
      psk_asks login _ facts holds

pub psk3_asks : (setup : PeerSetup) (nonce : List ℕ) (login : psk_peer.Login) (header : List ℕ)
    (sealed : ℕ) → length nonce ≡ 32
    → PskStarted (record setup { nonce = nonce }) login
    → AsksServer nonce (psk3_records_of login header sealed)
unfolding psk_peer.mac_s_covers
psk3_asks setup nonce login header sealed size facts =
    let tag = ak_record login.cred.psk (psk_peer.mac_s_covers login) (psk_peer.mac_s_of login) in
    let n_front : length (rand_of login.nonce) ≡ 16 =
    front_size login.nonce (omega (arith, ap length facts.nonce, size)) in
    record {
      tag = tag;
      rest = _;
      first = refl;
      made = subst (λ (x : List ℕ). OnlyByServer tag x) (ap rand_of facts.nonce)
          (mac_s_created login.cred.psk login.id_s (rand_of login.nonce)
          (psk_peer.mac_s_of login) n_front);
    }
