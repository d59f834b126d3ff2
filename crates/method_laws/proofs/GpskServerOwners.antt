-- What a tag that the server made by EAP-GPSK tells of the conversation in which it did; and what
-- each end asks by its first tag.
use Rattle.std.proofs.Common.{◌≡◌, ℕ, ◌≤◌, List, [], ◌∷◌, ◌++◌, length, Bool, true, false, Option}
use Rattle.std.proofs.Common.{Some, refl, sym, ap, subst, ◌∙◌, arith, length-append}
use Rattle.std.specs.Int.{w32, to_be_bytes}
use Rattle.login_setup.specs.declared.setup.PeerSetup.{PeerSetup}
use Rattle.login_setup.specs.Setup.{ServerSetup}
use Rattle.octet_lists.specs.Suite.{suite_octets}
use Rattle.gpsk_messages.specs.Message.{covered_of, field_with_length}
use Rattle.eap_method.specs.declared.tags.TagRecord.{TagRecord}
use Rattle.eap_method.specs.declared.values.ServerSide.{ServerSide}
use Rattle.eap_method.specs.GpskPeer as gpsk_peer
use Rattle.eap_method.specs.GpskServer as gpsk
use Rattle.eap_method.specs.GpskTags.{sk_record, suite_list}
use Rattle.eap_method.specs.Server.{ServerViews, side_of}
use Rattle.eap_method.specs.PskTags.{rand_of}
use Rattle.method_laws.specs.ByMethod.{ServerTags, server_foreign}
use Rattle.method_laws.specs.GpskPeerInvariant.{GpskStarted, front_in, gpsk3_of_login}
use Rattle.method_laws.specs.GpskServerInvariant.{GpskChecked, GpskServerTags, gpsk_asked}
use Rattle.method_laws.specs.GpskServerInvariant.{gpsk_refusing, gpsk_refused, gpsk_barring}
use Rattle.method_laws.specs.GpskServerInvariant.{gpsk_checked, gpsk_barred, gpsk_confirmed}
use Rattle.method_laws.specs.GpskServerInvariant.{gpsk2_of_login, gpsk_rand_p, gpsk_rand_p_in}
use Rattle.method_laws.specs.GpskServerInvariant.{gpsk_whole_rand_p}
use Rattle.method_laws.specs.Records.{IsIn}
use Rattle.method_laws.specs.TagOwners.{OnlyByPeer, OnlyByServer, NotByServer}
use Rattle.method_laws.proofs.Among.{among_one}
use Rattle.method_laws.proofs.Asks.{AsksPeer, AsksServer, some_is}
use Rattle.method_laws.proofs.Fields.{fronts}
use Rattle.method_laws.proofs.GpskPeerOwners.{gpsk2_created, long}
use Rattle.method_laws.proofs.ServerByMethod.{created_by_gpsk}

gpsk3_covers : (p : gpsk_peer.Login) (pd : List ℕ) (s : gpsk.Login) → length p.nonce ≡ 32
    → length s.rand_p ≡ 32
    → covered_of (gpsk3_of_login p pd) ≡ covered_of (gpsk.gpsk3_of s)
    → (p.nonce ≡ s.rand_p) × (length p.rand_s ≡ 32 → length s.nonce ≡ 32 → p.rand_s ≡ s.nonce)
unfolding covered_of
gpsk3_covers p pd s size size' e =
    let t0 = fronts 32 p.nonce _ s.rand_p _ size size' e in
    (t0.0, λ size_s size_s'. (fronts 32 p.rand_s _ s.nonce _ size_s size_s' t0.1).0)

pub not_bars : (p : gpsk_peer.Login) (pd : List ℕ) (s : gpsk.Login) → length p.nonce ≡ 32
    → covered_of (gpsk3_of_login p pd) ≡ covered_of (gpsk.bars_with s) → ⊥
unfolding covered_of
not_bars p pd s size e = longer p.nonce _ (to_be_bytes w32 3) size (omega arith) e
  where
    longer : (nonce rest short : List ℕ) → length nonce ≡ 32 → length short ≤ 4
        → nonce ++ rest ≡ short → ⊥
    longer nonce rest short n few same =
        let sizes : length (nonce ++ rest) ≡ length short =
        ap length same in absurd (omega (arith, length-append nonce rest, n, few))

module _ (p : gpsk_peer.Login) (pd : List ℕ) (p_size : length p.nonce ≡ 32) where
  abbrev gpsk3_tag : TagRecord
  gpsk3_tag = sk_record p.cred.psk (gpsk3_of_login p pd)

  -- it tells the peer's nonce, and the server's, whole
  pub record Gpsk3Implies (setup : ServerSetup) (view : gpsk.View) : Type 0 where
    pub rand_p : gpsk_whole_rand_p view ≡ Some p.nonce
    pub rand_s : length p.rand_s ≡ 32 → length setup.nonce ≡ 32 → p.rand_s ≡ setup.nonce

  gpsk3_implies : (setup : ServerSetup) (view : gpsk.View) (login : gpsk.Login) (barred : Bool)
      → gpsk_whole_rand_p view ≡ Some login.rand_p
      → GpskChecked setup login barred → gpsk3_tag ≡ sk_record login.psk (gpsk.gpsk3_of login)
      → Gpsk3Implies setup view
  gpsk3_implies setup view login barred holds facts e =
      let both = gpsk3_covers p pd login p_size facts.size (ap (λ (r : TagRecord). r.octets) e) in
      record {
        rand_p = holds ∙ ap (λ (x : List ℕ). Some x) (sym both.0);
        rand_s = λ size own_size. both.1 size (ap length facts.nonce ∙ own_size) ∙ facts.nonce;
      }

  pub gpsk_view_implies : (setup : ServerSetup) (view : gpsk.View) (accepted made : List TagRecord)
      → GpskServerTags setup view accepted made → IsIn gpsk3_tag made
      → Gpsk3Implies setup view
  gpsk_view_implies setup _ _ _ (gpsk_asked ordered) is = elim is [ ]
  gpsk_view_implies setup _ _ _ gpsk_refusing is = elim is [ ]
  gpsk_view_implies setup _ _ _ gpsk_refused is = elim is [ ]
  gpsk_view_implies setup _ _ _ (gpsk_barring login their_pd facts) is =
      absurd (not_bars p pd login p_size (ap (λ (r : TagRecord). r.octets) (among_one _ _ is)))
  gpsk_view_implies setup _ _ _ (gpsk_checked login their_pd facts) is =
      gpsk3_implies setup _ login false refl facts (among_one _ _ is)
  gpsk_view_implies setup _ _ _ (gpsk_barred login their_pd facts) is =
      absurd (not_bars p pd login p_size (ap (λ (r : TagRecord). r.octets) (among_one _ _ is)))
  gpsk_view_implies setup _ _ _ (gpsk_confirmed login their_pd last_pd facts) is =
      gpsk3_implies setup _ login false refl facts (among_one _ _ is)

  gpsk_tags_imply : (setup : ServerSetup) (current : Option ℕ) (views : ServerViews)
      (accepted made : List TagRecord)
      → ServerTags setup current views accepted made → IsIn gpsk3_tag made
      → server_foreign current views ≡ Some (rand_of p.nonce)
  gpsk_tags_imply setup current views accepted made tags is =
      let by = created_by_gpsk setup current views accepted made gpsk3_tag tags is refl in
      ap (λ (o : Option ℕ). server_foreign o views) by.is_current
      ∙ (ap gpsk_rand_p_in by.in_view
      ∙ ap front_in (gpsk_view_implies setup by.view accepted made by.told is).rand_p)

  pub gpsk3_created : OnlyByServer gpsk3_tag (rand_of p.nonce)
  gpsk3_created = record {
    tells = λ setup nonce held accepted made told is.
        sym told.held_is ∙ gpsk_tags_imply (record setup { nonce = nonce })
        told.current told.views accepted made told.tags is;
  }

-- ---- no conversation of the server makes what a server accepts first

-- the server's own name is that of its setup in each conversation
gpsk_name : (setup : ServerSetup) (nonce : List ℕ) (login : gpsk.Login) (barred : Bool)
    → GpskChecked (record setup { nonce = nonce }) login barred
    → login.own.id_s ≡ setup.name
unfolding side_of
gpsk_name setup nonce login barred facts = ap (λ (own : ServerSide). own.id_s) facts.own

-- GPSK-2 covers more than any GPSK-3 of the same server
gpsk2_longer : (id_p id_s rand_p rand_s list suite pd rand_p' rand_s' suite' : List ℕ)
    → length rand_p ≡ 32 → length rand_s ≡ 32 → length rand_p' ≡ 32
    → length rand_s' ≡ 32
    → length suite ≡ 6 → length suite' ≡ 6
    → field_with_length id_p ++ (field_with_length id_s
    ++ (rand_p ++ (rand_s ++ (field_with_length list ++ (suite ++ field_with_length pd)))))
    ≡ rand_p' ++ (rand_s' ++ (field_with_length id_s ++ (suite' ++ field_with_length []))) → ⊥
gpsk2_longer id_p id_s rand_p rand_s list suite pd rand_p' rand_s' suite' p s p' s' c c' e =
    let sizes : length (field_with_length id_p ++ (field_with_length id_s
    ++ (rand_p ++ (rand_s ++ (field_with_length list ++ (suite ++ field_with_length pd))))))
    ≡ length
    (rand_p' ++ (rand_s' ++ (field_with_length id_s ++ (suite' ++ field_with_length [])))) =
    ap length e in
    absurd (omega (
      arith,
      length-append id_p (field_with_length id_s
          ++ (rand_p ++ (rand_s ++ (field_with_length list ++ (suite ++ field_with_length pd))))),
      length-append id_s
          (rand_p ++ (rand_s ++ (field_with_length list ++ (suite ++ field_with_length pd)))),
      length-append rand_p (rand_s ++ (field_with_length list ++ (suite ++ field_with_length pd))),
      length-append rand_s (field_with_length list ++ (suite ++ field_with_length pd)),
      length-append list (suite ++ field_with_length pd),
      length-append suite (field_with_length pd),
      length-append rand_p'
          (rand_s' ++ (field_with_length id_s ++ (suite' ++ field_with_length []))),
      length-append rand_s' (field_with_length id_s ++ (suite' ++ field_with_length [])),
      length-append id_s (suite' ++ field_with_length []),
      length-append suite' (field_with_length []),
      p,
      s,
      p',
      s',
      c,
      c',
    ))

module _ (setup : ServerSetup) (nonce : List ℕ) (login : gpsk.Login) (barred : Bool) (pd : List ℕ)
    (facts : GpskChecked (record setup { nonce = nonce }) login barred)
    (size : length login.nonce ≡ 32) where
  abbrev gpsk2_tag : TagRecord
  gpsk2_tag = sk_record login.psk (gpsk2_of_login login pd)

  not_gpsk3 : (other : List ℕ) (theirs : gpsk.Login) (their_barred : Bool) → length other ≡ 32
      → GpskChecked (record setup { nonce = other }) theirs their_barred
      → covered_of (gpsk2_of_login login pd) ≡ covered_of (gpsk.gpsk3_of theirs) → ⊥
  unfolding covered_of
  not_gpsk3 other theirs their_barred other_size checked e =
      gpsk2_longer login.id_p login.own.id_s login.rand_p login.nonce (suite_list login.own.suites)
      (suite_octets login.suite) pd theirs.rand_p theirs.nonce
      (suite_octets theirs.suite) facts.size size checked.size
      (ap length checked.nonce ∙ other_size) refl refl
      (e
      ∙ ap (λ (name : List ℕ). theirs.rand_p ++ (theirs.nonce
      ++ (field_with_length name ++ (suite_octets theirs.suite ++ field_with_length []))))
      (gpsk_name setup other theirs their_barred checked
      ∙ sym (gpsk_name setup nonce login barred facts)))

  not_their_bars : (theirs : gpsk.Login) → covered_of (gpsk2_of_login login pd)
      ≡ covered_of (gpsk.bars_with theirs) → ⊥
  unfolding covered_of
  not_their_bars theirs e =
      long login.id_p login.own.id_s login.rand_p _ (to_be_bytes w32 3) facts.size (omega arith) e

  gpsk2_not_in : (other : List ℕ) (view : gpsk.View) (accepted made : List TagRecord)
      → length other ≡ 32
      → GpskServerTags (record setup { nonce = other }) view accepted made
      → IsIn gpsk2_tag made → ⊥
  gpsk2_not_in other _ _ _ o (gpsk_asked ordered) is = elim is [ ]
  gpsk2_not_in other _ _ _ o gpsk_refusing is = elim is [ ]
  gpsk2_not_in other _ _ _ o gpsk_refused is = elim is [ ]
  gpsk2_not_in other _ _ _ o (gpsk_barring theirs their_pd checked) is =
      not_their_bars theirs (ap (λ (r : TagRecord). r.octets) (among_one _ _ is))
  gpsk2_not_in other _ _ _ o (gpsk_checked theirs their_pd checked) is =
      not_gpsk3 other theirs false o checked (ap (λ (r : TagRecord). r.octets) (among_one _ _ is))
  gpsk2_not_in other _ _ _ o (gpsk_barred theirs their_pd checked) is =
      not_their_bars theirs (ap (λ (r : TagRecord). r.octets) (among_one _ _ is))
  gpsk2_not_in other _ _ _ o (gpsk_confirmed theirs their_pd last_pd checked) is =
      not_gpsk3 other theirs false o checked (ap (λ (r : TagRecord). r.octets) (among_one _ _ is))

  gpsk2_alien : NotByServer setup gpsk2_tag
  gpsk2_alien = record {
    none = λ other held accepted made o told is.
        (let by = created_by_gpsk (record setup { nonce = other })
        told.current told.views accepted made gpsk2_tag told.tags is refl in
        gpsk2_not_in other by.view accepted made o by.told is);
  }

-- ---- the first tags

module _ (setup : ServerSetup) (nonce foreign : List ℕ) (size : length nonce ≡ 32) where
  abbrev own : ServerSetup
  own = record setup { nonce = nonce }

  gpsk_asks : (login : gpsk.Login) (barred : Bool) (pd : List ℕ) (rest : List TagRecord)
      → GpskChecked own login barred → Some (rand_of login.rand_p) ≡ Some foreign
      → AsksPeer setup nonce foreign (sk_record login.psk (gpsk2_of_login login pd) ∷ rest)
  gpsk_asks login barred pd rest facts holds =
      let tag = sk_record login.psk (gpsk2_of_login login pd) in
      let made = gpsk2_created login pd facts.size (ap length facts.nonce ∙ size) in
      record {
        tag = tag;
        rest = rest;
        first = refl;
        made = subst (λ (x : List ℕ). OnlyByPeer tag x (rand_of nonce)) (some_is _ _ holds)
            (subst (λ (x : List ℕ). OnlyByPeer tag (rand_of login.rand_p) x)
            (ap rand_of facts.nonce) made);
        alien = gpsk2_alien setup nonce login barred pd facts (ap length facts.nonce ∙ size);
      }

  pub gpsk_view_asks : (view : gpsk.View) (accepted made : List TagRecord)
      → GpskServerTags own view accepted made → gpsk_rand_p view ≡ Some foreign
      → AsksPeer setup nonce foreign accepted
  gpsk_view_asks _ _ _ (gpsk_asked ordered) holds = absurd cc
  gpsk_view_asks _ _ _ gpsk_refusing holds = absurd cc
  gpsk_view_asks _ _ _ gpsk_refused holds = absurd cc
  gpsk_view_asks _ _ _ (gpsk_barring login pd facts) holds = gpsk_asks login true pd _ facts holds
  gpsk_view_asks _ _ _ (gpsk_checked login pd facts) holds = gpsk_asks login false pd _ facts holds
  gpsk_view_asks _ _ _ (gpsk_barred login pd facts) holds = gpsk_asks login true pd _ facts holds
  gpsk_view_asks _ _ _ (gpsk_confirmed login pd last_pd facts) holds =
      gpsk_asks login false pd _ facts holds

pub gpsk3_asks : (setup : PeerSetup) (nonce : List ℕ) (login : gpsk_peer.Login) (list pd : List ℕ)
    → length nonce ≡ 32
    → GpskStarted (record setup { nonce = nonce }) login list
    → AsksServer nonce (sk_record login.cred.psk (gpsk3_of_login login pd) ∷ [])
gpsk3_asks setup nonce login list pd size facts =
    let tag = gpsk3_tag login pd (ap length facts.nonce ∙ size) in
    record {
      tag = tag;
      rest = _;
      first = refl;
      made = subst (λ (x : List ℕ). OnlyByServer tag (rand_of x)) facts.nonce
          (gpsk3_created login pd (ap length facts.nonce ∙ size));
    }
