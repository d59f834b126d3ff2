-- Each tag that a conversation accepted or made is the right MAC of its octets, under a key that
-- the conversation derives.
use Rattle.std.proofs.Common.{◌≡◌, ℕ, Bool, true, false, List, [], ◌∷◌, Option, Some, refl, sym, ap}
use Rattle.std.proofs.Common.{subst, ◌∙◌, inl, inr}
use Rattle.std.specs.Prelude.{slice_index}
use Rattle.std.proofs.lemmas.Slice.Eq.{bytes_eq-Decides}
use Rattle.login_setup.specs.declared.setup.PeerSetup.{PeerSetup}
use Rattle.login_setup.specs.Setup.{ServerSetup}
use Rattle.octet_lists.specs.Among.{gpsk_kind, psk_kind}
use Rattle.octet_lists.specs.declared.suite.Suite.{Suite}
use Rattle.gpsk_messages.specs.Message.{covered_of}
use Rattle.eax_mode.specs.Eax.{eax_accepts, eax_tag}
use Rattle.eap_method.specs.BothServers.{gpsk_at, psk_at}
use Rattle.eap_method.specs.declared.tags.TagRecord.{TagRecord}
use Rattle.eap_method.specs.GpskPeer as gpsk_peer
use Rattle.eap_method.specs.GpskServer as gpsk_server
use Rattle.eap_method.specs.PskPeer as psk_peer
use Rattle.eap_method.specs.PskServer as psk_server
use Rattle.eap_method.specs.declared.tags.Label.TheVariants.{Sk}
use Rattle.eap_method.specs.GpskTags.{sk_record}
use Rattle.login_keys.specs.Gpsk.{gpsk_tag_of}
use Rattle.eap_method.specs.Peer.{PeerViews, key_for}
use Rattle.eap_method.specs.PskTags.{ak_record, channel_nonce, sealed_result, tek_record, rand_of}
use Rattle.eap_method.specs.Server.{ServerViews, side_of}
use Rattle.eap_method.specs.declared.values.ServerSide.{ServerSide}
use Rattle.method_laws.proofs.PskChannel.{sealed_accepted}
use Rattle.method_laws.specs.ByMethod.{PeerTags, ServerTags, gpsk_current, gpsk_selected}
use Rattle.method_laws.specs.ByMethod.{identity_current, none_current, none_selected, peer_login}
use Rattle.method_laws.specs.ByMethod.{psk_current, psk_selected, server_login}
use Rattle.method_laws.specs.RightMacs as right_macs
use Rattle.method_laws.specs.RightMacs.{IsPeersMac, IsRightMac, IsServersMac, OfEach}
use Rattle.method_laws.specs.RightMacs.{PeerTagsAreRight, ServerTagsAreRight, gpsk_inputs}
use Rattle.method_laws.specs.RightMacs.{psk_inputs, under_ak, under_sk, under_tek}
use Rattle.method_laws.specs.GpskPeerInvariant.{GpskPeerTags, GpskStarted, gpsk_peer_login}
use Rattle.method_laws.specs.GpskPeerInvariant.{gpsk_whole_rand_s}
use Rattle.method_laws.specs.GpskPeerInvariant as gpsk_of_peer
use Rattle.method_laws.specs.GpskServerInvariant.{GpskChecked, GpskServerTags, gpsk_server_login}
use Rattle.method_laws.specs.GpskServerInvariant.{gpsk_whole_rand_p_in}
use Rattle.method_laws.specs.GpskServerInvariant as gpsk_of_server
use Rattle.method_laws.specs.PskPeerInvariant.{PskPeerTags, PskStarted, psk_peer_login}
use Rattle.method_laws.specs.PskPeerInvariant as psk_of_peer
use Rattle.method_laws.specs.PskServerInvariant.{PskChecked, PskServerTags, psk_rand_p_in}
use Rattle.method_laws.specs.PskServerInvariant.{psk_server_login}
use Rattle.method_laws.specs.PskServerInvariant as psk_of_server
use Rattle.method_laws.specs.Records.{IsIn}
use Rattle.method_laws.proofs.Among.{among_one, among_two}
use Rattle.method_laws.proofs.Credentials.{own_key, own_name}
use Rattle.eap_method.specs.BothPeers.{gpsk_in}
use Rattle.eap_method.specs.BothPeers.{psk_in}

module _ (P : TagRecord → Type 0) where
  none_so : (t : TagRecord) → IsIn t [] → P t
  none_so t is = elim is [ ]

  one_so : (a : TagRecord) → P a → (t : TagRecord) → IsIn t (a ∷ []) → P t
  one_so a holds t is = subst P (sym (among_one t a is)) holds

  two_so : (a b : TagRecord) → P a → P b → (t : TagRecord) → IsIn t (a ∷ b ∷ []) → P t
  two_so a b holds also t is =
      elim (among_two t a b is) [ inl e ↦ subst P (sym e) holds | inr e ↦ subst P (sym e) also ]

-- what is sealed has the right tag
sealed_tag : (tek : List ℕ) (number : ℕ) (header : List ℕ) (r : ℕ)
    → eax_tag tek (channel_nonce number) header (slice_index (sealed_result tek number header
    r).ciphertext 0 ∷ []) ≡ (sealed_result tek number header r).tag
unfolding eax_accepts
sealed_tag tek number header r = (bytes_eq-Decides _ _).0 (sealed_accepted tek number header r)

-- inputs that are the same
psk_moved : (p q r s : List ℕ) (t : TagRecord) → p ≡ q → r ≡ s → IsRightMac (psk_inputs p r) t
    → IsRightMac (psk_inputs q s) t
psk_moved p q r s t e f right = subst (λ (x : List ℕ). IsRightMac (psk_inputs q x) t) f
    (subst (λ (x : List ℕ). IsRightMac (psk_inputs x r) t) e right)

gpsk_moved : (suite : Suite) (p q a b c d x y u v : List ℕ) (t : TagRecord) → p ≡ q → a ≡ b → c ≡ d
    → x ≡ y → u ≡ v
    → IsRightMac (gpsk_inputs suite p a c x u) t → IsRightMac (gpsk_inputs suite q b d y v) t
gpsk_moved suite p q a b c d x y u v t e f g h i right =
    subst (λ (z : List ℕ). IsRightMac (gpsk_inputs suite q b d y z) t) i
    (subst (λ (z : List ℕ). IsRightMac (gpsk_inputs suite q b d z u) t) h
    (subst (λ (z : List ℕ). IsRightMac (gpsk_inputs suite q b z x u) t) g
    (subst (λ (z : List ℕ). IsRightMac (gpsk_inputs suite q z c x u) t) f
    (subst (λ (z : List ℕ). IsRightMac (gpsk_inputs suite z a c x u) t) e right))))

-- ---- the peer by EAP-PSK

module _ (login : psk_peer.Login) where
  abbrev peer_psk_right : TagRecord → Type 0
  peer_psk_right t = IsRightMac (psk_inputs login.cred.psk (psk_peer.rand_p_of login)) t

  mac_p_at_peer : peer_psk_right (psk_of_peer.psk2_record login)
  unfolding psk_peer.mac_p_of psk_peer.ak_of
  mac_p_at_peer = under_ak login.cred.psk (psk_peer.rand_p_of login) (psk_peer.mac_p_covers login)

  mac_s_at_peer : peer_psk_right
      (ak_record login.cred.psk (psk_peer.mac_s_covers login) (psk_peer.mac_s_of login))
  unfolding psk_peer.mac_s_of psk_peer.ak_of
  mac_s_at_peer = under_ak login.cred.psk (psk_peer.rand_p_of login) (psk_peer.mac_s_covers login)

  channel_at_peer : (number : ℕ) (header : List ℕ) (sealed : ℕ)
      → peer_psk_right (tek_record login.cred.psk number header sealed
      (eax_tag (psk_peer.keys_of login).tek (channel_nonce number) header (sealed ∷ [])))
  unfolding psk_peer.keys_of
  channel_at_peer number header sealed =
      under_tek login.cred.psk (psk_peer.rand_p_of login) header number sealed

  psk4_at_peer : (id r : ℕ)
      → peer_psk_right (tek_record login.cred.psk 1 (psk_peer.psk4_header login id)
      (psk_peer.psk4_octet login id r) (psk_peer.psk4_sealed login id r).tag)
  unfolding psk_peer.psk4_sealed
  psk4_at_peer id r =
      subst (λ (tag : List ℕ). peer_psk_right (tek_record login.cred.psk 1
      (psk_peer.psk4_header login id) (psk_peer.psk4_octet login id r) tag))
      (sealed_tag (psk_peer.keys_of login).tek 1 (psk_peer.psk4_header login id) r)
      (channel_at_peer 1 (psk_peer.psk4_header login id) (psk_peer.psk4_octet login id r))

-- ---- the peer by EAP-GPSK

module _ (login : gpsk_peer.Login) where
  abbrev peer_gpsk_right : TagRecord → Type 0
  peer_gpsk_right t = IsRightMac
      (gpsk_inputs login.suite login.cred.psk login.nonce login.cred.id_p login.rand_s login.id_s) t

  at_peer : (octets : List ℕ)
      → peer_gpsk_right (record {
        method = gpsk_kind;
        label = Sk;
        psk = login.cred.psk;
        octets = octets;
        tag = gpsk_tag_of login.suite (gpsk_peer.keys_of login).sk octets;
      })
  unfolding gpsk_peer.keys_of
  at_peer octets =
      under_sk login.suite login.cred.psk login.nonce login.cred.id_p login.rand_s login.id_s octets

  gpsk2_at_peer : (list : List ℕ) → peer_gpsk_right (gpsk_of_peer.gpsk2_record login list)
  unfolding covered_of
  gpsk2_at_peer list = at_peer _

  gpsk3_at_peer : (pd : List ℕ)
      → peer_gpsk_right (sk_record login.cred.psk (gpsk_of_peer.gpsk3_of_login login pd))
  unfolding covered_of
  gpsk3_at_peer pd = at_peer _

  gpsk4_at_peer : peer_gpsk_right (sk_record login.cred.psk (gpsk_peer.gpsk4_of login))
  unfolding covered_of
  gpsk4_at_peer = at_peer _

  fail_at_peer : (code : ℕ)
      → peer_gpsk_right (sk_record login.cred.psk (gpsk_peer.protected_fail_of login code))
  unfolding covered_of
  fail_at_peer code = at_peer _

-- ---- the peer

module _ (setup : PeerSetup) (nonce : List ℕ) where
  abbrev peer_own : PeerSetup
  peer_own = record setup { nonce = nonce }

  -- by EAP-PSK
  module _ (selected : Option ℕ) (views : PeerViews) where
    abbrev peer_right : TagRecord → Type 0
    peer_right t = IsPeersMac setup nonce selected views t

    psk_peer_right : (login : psk_peer.Login) → PskStarted peer_own login
        → peer_login selected views ≡ Some (psk_peer.report_of login)
        → (t : TagRecord) → peer_psk_right login t → peer_right t
    unfolding psk_peer.report_of
    psk_peer_right login facts leads t right = record {
      report = psk_peer.report_of login;
      leads = leads;
      inputs = psk_inputs (key_for setup psk_kind) (rand_of nonce);
      derives = right_macs.psk_peer refl;
      right = psk_moved _ _ _ _ t (own_key peer_own psk_kind login.cred facts.cred)
          (ap rand_of facts.nonce) right;
    }

    psk_peer_tags : (view : psk_peer.View) (accepted made : List TagRecord)
        → PskPeerTags peer_own view accepted made
        → peer_login selected views ≡ psk_peer_login view → OfEach peer_right accepted made
    psk_peer_tags _ _ _ psk_of_peer.psk_unset leads =
        record { accepted_so = none_so peer_right; made_so = none_so peer_right }
    psk_peer_tags _ _ _ (psk_of_peer.psk_fresh allowed) leads =
        record { accepted_so = none_so peer_right; made_so = none_so peer_right }
    psk_peer_tags _ _ _ (psk_of_peer.psk_waits login facts) leads =
        record {
          accepted_so = none_so peer_right;
          made_so = one_so peer_right _ (psk_peer_right login facts leads _ (mac_p_at_peer login));
        }
    psk_peer_tags _ _ _ (psk_of_peer.psk_over login good header sealed id facts) leads = record {
      accepted_so = two_so peer_right _ _ (psk_peer_right login facts leads _ (mac_s_at_peer login))
          (psk_peer_right login facts leads _ (channel_at_peer login 0 header sealed));
      made_so = two_so peer_right _ _ (psk_peer_right login facts leads _ (mac_p_at_peer login))
          (psk_peer_right login facts leads _
          (psk4_at_peer login id (psk_of_peer.result_for good)));
    }

    -- by EAP-GPSK
    gpsk_peer_right : (login : gpsk_peer.Login) (list : List ℕ) → GpskStarted peer_own login list
        → peer_login selected views ≡ Some (gpsk_peer.report_of login)
        → gpsk_whole_rand_s (gpsk_in views) ≡ Some login.rand_s → (t : TagRecord)
        → peer_gpsk_right login t → peer_right t
    unfolding gpsk_peer.report_of
    gpsk_peer_right login list facts leads knows t right = record {
      report = gpsk_peer.report_of login;
      leads = leads;
      inputs = gpsk_inputs login.suite (key_for setup gpsk_kind)
          nonce setup.name login.rand_s login.id_s;
      derives = right_macs.gpsk_peer refl login.suite refl login.rand_s knows;
      right = gpsk_moved login.suite _ _ _ _ _ _ _ _ _ _ t
          (own_key peer_own gpsk_kind login.cred facts.cred) facts.nonce
          (own_name peer_own gpsk_kind login.cred facts.cred) refl refl right;
    }

    gpsk_peer_tags : (view : gpsk_peer.View) (accepted made : List TagRecord)
        → GpskPeerTags peer_own view accepted made
        → peer_login selected views ≡ gpsk_peer_login view → gpsk_whole_rand_s (gpsk_in views)
        ≡ gpsk_whole_rand_s view → OfEach peer_right accepted made
    gpsk_peer_tags _ _ _ gpsk_of_peer.gpsk_unset leads knows =
        record { accepted_so = none_so peer_right; made_so = none_so peer_right }
    gpsk_peer_tags _ _ _ (gpsk_of_peer.gpsk_fresh allowed) leads knows =
        record { accepted_so = none_so peer_right; made_so = none_so peer_right }
    gpsk_peer_tags _ _ _ (gpsk_of_peer.gpsk_waits login list facts) leads knows =
        let so = gpsk_peer_right login list facts leads knows in
        record {
          accepted_so = none_so peer_right;
          made_so = one_so peer_right _ (so _ (gpsk2_at_peer login list));
        }
    gpsk_peer_tags _ _ _ (gpsk_of_peer.gpsk_confirmed login list pd facts) leads knows =
        let so = gpsk_peer_right login list facts leads knows in
        record {
          accepted_so = one_so peer_right _ (so _ (gpsk3_at_peer login pd));
          made_so =
              two_so peer_right _ _ (so _ (gpsk2_at_peer login list)) (so _ (gpsk4_at_peer login));
        }
    gpsk_peer_tags _ _ _ (gpsk_of_peer.gpsk_failed login list facts) leads knows =
        let so = gpsk_peer_right login list facts leads knows in
        record {
          accepted_so = none_so peer_right;
          made_so = one_so peer_right _ (so _ (gpsk2_at_peer login list));
        }
    gpsk_peer_tags _ _ _ (gpsk_of_peer.gpsk_barred login list code facts) leads knows =
        let so = gpsk_peer_right login list facts leads knows in
        record {
          accepted_so = one_so peer_right _ (so _ (fail_at_peer login code));
          made_so = two_so peer_right _ _ (so _ (gpsk2_at_peer login list))
              (so _ (fail_at_peer login code));
        }

    selected_is : (kind : ℕ) → selected ≡ Some kind
        → peer_login selected views ≡ peer_login (Some kind) views
    selected_is kind e = ap (λ (o : Option ℕ). peer_login o views) e

    pub peer_tags_right : (accepted made : List TagRecord)
        → PeerTags peer_own selected views accepted made → OfEach peer_right accepted made
    peer_tags_right _ _ (none_selected none psk_none gpsk_none) =
        record { accepted_so = none_so peer_right; made_so = none_so peer_right }
    peer_tags_right accepted made (psk_selected _ _ is told) =
        psk_peer_tags (psk_in views) accepted made told (selected_is psk_kind is)
    peer_tags_right accepted made (gpsk_selected _ _ is told) =
        gpsk_peer_tags (gpsk_in views) accepted made told (selected_is gpsk_kind is) refl

-- ---- the server by EAP-PSK

module _ (login : psk_server.Login) where
  abbrev server_psk_right : TagRecord → Type 0
  server_psk_right t = IsRightMac (psk_inputs login.psk login.rand_p) t

  mac_p_at_server : server_psk_right (psk_of_server.psk2_record login)
  unfolding psk_server.mac_p_of psk_server.ak_of
  mac_p_at_server = under_ak login.psk login.rand_p (psk_server.mac_p_covers login)

  mac_s_at_server : server_psk_right
      (ak_record login.psk (psk_server.mac_s_covers login) (psk_server.mac_s_of login))
  unfolding psk_server.mac_s_of psk_server.ak_of
  mac_s_at_server = under_ak login.psk login.rand_p (psk_server.mac_s_covers login)

  channel_at_server : (number : ℕ) (header : List ℕ) (sealed : ℕ)
      → server_psk_right (tek_record login.psk number header sealed
      (eax_tag (psk_server.keys_of login).tek (channel_nonce number) header (sealed ∷ [])))
  unfolding psk_server.keys_of
  channel_at_server number header sealed = under_tek login.psk login.rand_p header number sealed

  psk3_at_server : (id : ℕ)
      → server_psk_right (tek_record login.psk 0 (psk_server.psk3_header login id)
      (psk_server.psk3_octet login id) (psk_server.psk3_sealed login id).tag)
  unfolding psk_server.psk3_sealed
  psk3_at_server id =
      subst (λ (tag : List ℕ). server_psk_right (tek_record login.psk 0
      (psk_server.psk3_header login id) (psk_server.psk3_octet login id) tag))
      (sealed_tag (psk_server.keys_of login).tek 0 (psk_server.psk3_header login id) login.r)
      (channel_at_server 0 (psk_server.psk3_header login id) (psk_server.psk3_octet login id))

-- ---- the server by EAP-GPSK

module _ (login : gpsk_server.Login) where
  abbrev server_gpsk_right : TagRecord → Type 0
  server_gpsk_right t = IsRightMac
      (gpsk_inputs login.suite login.psk login.rand_p login.id_p login.nonce login.own.id_s) t

  at_server : (octets : List ℕ)
      → server_gpsk_right (record {
        method = gpsk_kind;
        label = Sk;
        psk = login.psk;
        octets = octets;
        tag = gpsk_tag_of login.suite (gpsk_server.keys_of login).sk octets;
      })
  unfolding gpsk_server.keys_of
  at_server octets =
      under_sk login.suite login.psk login.rand_p login.id_p login.nonce login.own.id_s octets

  gpsk2_at_server : (pd : List ℕ)
      → server_gpsk_right (sk_record login.psk (gpsk_of_server.gpsk2_of_login login pd))
  unfolding covered_of
  gpsk2_at_server pd = at_server _

  gpsk3_at_server : server_gpsk_right (sk_record login.psk (gpsk_server.gpsk3_of login))
  unfolding covered_of
  gpsk3_at_server = at_server _

  gpsk4_at_server : (pd : List ℕ)
      → server_gpsk_right (sk_record login.psk (gpsk_of_server.gpsk4_of_login login pd))
  unfolding covered_of
  gpsk4_at_server pd = at_server _

  bars_at_server : server_gpsk_right (sk_record login.psk (gpsk_server.bars_with login))
  unfolding covered_of
  bars_at_server = at_server _

-- ---- the server

side_name : (setup : ServerSetup) (own : ServerSide) → own ≡ side_of setup → own.id_s ≡ setup.name
unfolding side_of
side_name setup own e = ap (λ (s : ServerSide). s.id_s) e

module _ (setup : ServerSetup) (nonce : List ℕ) (current : Option ℕ) (views : ServerViews) where
  abbrev server_own : ServerSetup
  server_own = record setup { nonce = nonce }

  abbrev server_right : TagRecord → Type 0
  server_right t = IsServersMac setup nonce current views t

  -- by EAP-PSK
  psk_server_right : (login : psk_server.Login) → PskChecked server_own login
      → server_login current views ≡ Some (psk_server.report_of login)
      → psk_rand_p_in (psk_at views) ≡ Some login.rand_p → (t : TagRecord)
      → server_psk_right login t → server_right t
  unfolding psk_server.report_of
  psk_server_right login facts leads knows t right = record {
    report = psk_server.report_of login;
    leads = leads;
    user = facts.user;
    known = facts.known;
    inputs = psk_inputs facts.user.psk login.rand_p;
    derives = right_macs.psk_server refl login.rand_p knows;
    right = psk_moved _ _ _ _ t facts.key refl right;
  }

  psk_server_tags : (view : psk_server.View) (accepted made : List TagRecord)
      → PskServerTags server_own view accepted made
      → server_login current views ≡ psk_server_login (Some view)
      → psk_rand_p_in (psk_at views) ≡ psk_rand_p_in (Some view) → OfEach server_right accepted made
  psk_server_tags _ _ _ (psk_of_server.psk_asked ordered) leads knows =
      record { accepted_so = none_so server_right; made_so = none_so server_right }
  psk_server_tags _ _ _ psk_of_server.psk_refused leads knows =
      record { accepted_so = none_so server_right; made_so = none_so server_right }
  psk_server_tags _ _ _ (psk_of_server.psk_checked login id facts) leads knows =
      let so = psk_server_right login facts leads knows in
      record {
        accepted_so = one_so server_right _ (so _ (mac_p_at_server login));
        made_so =
            two_so server_right _ _ (so _ (mac_s_at_server login)) (so _ (psk3_at_server login id));
      }
  psk_server_tags _ _ _
      (psk_of_server.psk_over login good header sealed id facts r_sent rand_in r_came) leads knows =
      let so = psk_server_right login facts leads knows in
      record {
        accepted_so = two_so server_right _ _ (so _ (mac_p_at_server login))
            (so _ (channel_at_server login 1 header sealed));
        made_so =
            two_so server_right _ _ (so _ (mac_s_at_server login)) (so _ (psk3_at_server login id));
      }

  -- by EAP-GPSK
  gpsk_server_right : (login : gpsk_server.Login) (barred : Bool)
      → GpskChecked server_own login barred
      → server_login current views ≡ Some (gpsk_server.report_of login)
      → gpsk_whole_rand_p_in (gpsk_at views) ≡ Some login.rand_p
      → (t : TagRecord) → server_gpsk_right login t → server_right t
  unfolding gpsk_server.report_of
  gpsk_server_right login barred facts leads knows t right = record {
    report = gpsk_server.report_of login;
    leads = leads;
    user = facts.user;
    known = facts.known;
    inputs = gpsk_inputs login.suite facts.user.psk login.rand_p login.id_p nonce setup.name;
    derives = right_macs.gpsk_server refl login.suite refl login.rand_p knows;
    right = gpsk_moved login.suite _ _ _ _ _ _ _ _ _ _ t facts.key refl refl facts.nonce
        (side_name server_own login.own facts.own) right;
  }

  gpsk_server_tags : (view : gpsk_server.View) (accepted made : List TagRecord)
      → GpskServerTags server_own view accepted made
      → server_login current views ≡ gpsk_server_login (Some view)
      → gpsk_whole_rand_p_in (gpsk_at views) ≡ gpsk_whole_rand_p_in (Some view)
      → OfEach server_right accepted made
  gpsk_server_tags _ _ _ (gpsk_of_server.gpsk_asked ordered) leads knows =
      record { accepted_so = none_so server_right; made_so = none_so server_right }
  gpsk_server_tags _ _ _ gpsk_of_server.gpsk_refusing leads knows =
      record { accepted_so = none_so server_right; made_so = none_so server_right }
  gpsk_server_tags _ _ _ gpsk_of_server.gpsk_refused leads knows =
      record { accepted_so = none_so server_right; made_so = none_so server_right }
  gpsk_server_tags _ _ _ (gpsk_of_server.gpsk_barring login pd facts) leads knows =
      let so = gpsk_server_right login true facts leads knows in
      record {
        accepted_so = one_so server_right _ (so _ (gpsk2_at_server login pd));
        made_so = one_so server_right _ (so _ (bars_at_server login));
      }
  gpsk_server_tags _ _ _ (gpsk_of_server.gpsk_checked login pd facts) leads knows =
      let so = gpsk_server_right login false facts leads knows in
      record {
        accepted_so = one_so server_right _ (so _ (gpsk2_at_server login pd));
        made_so = one_so server_right _ (so _ (gpsk3_at_server login));
      }
  gpsk_server_tags _ _ _ (gpsk_of_server.gpsk_barred login pd facts) leads knows =
      let so = gpsk_server_right login true facts leads knows in
      record {
        accepted_so =
            two_so server_right _ _ (so _ (gpsk2_at_server login pd)) (so _ (bars_at_server login));
        made_so = one_so server_right _ (so _ (bars_at_server login));
      }
  gpsk_server_tags _ _ _ (gpsk_of_server.gpsk_confirmed login pd last_pd facts) leads knows =
      let so = gpsk_server_right login false facts leads knows in
      record {
        accepted_so = two_so server_right _ _ (so _ (gpsk2_at_server login pd))
            (so _ (gpsk4_at_server login last_pd));
        made_so = one_so server_right _ (so _ (gpsk3_at_server login));
      }

  current_is : (kind : ℕ) → current ≡ Some kind
      → server_login current views ≡ server_login (Some kind) views
  current_is kind e = ap (λ (o : Option ℕ). server_login o views) e

  pub server_tags_right : (accepted made : List TagRecord)
      → ServerTags server_own current views accepted made → OfEach server_right accepted made
  server_tags_right _ _ (none_current none) =
      record { accepted_so = none_so server_right; made_so = none_so server_right }
  server_tags_right _ _ (identity_current is) =
      record { accepted_so = none_so server_right; made_so = none_so server_right }
  server_tags_right accepted made (psk_current view _ _ is in_view told) =
      psk_server_tags view accepted made told (current_is psk_kind is ∙ ap psk_server_login in_view)
      (ap psk_rand_p_in in_view)
  server_tags_right accepted made (gpsk_current view _ _ is in_view told) =
      gpsk_server_tags view accepted made told
      (current_is gpsk_kind is ∙ ap gpsk_server_login in_view) (ap gpsk_whole_rand_p_in in_view)

pub peer_tags_are_right : PeerTagsAreRight
peer_tags_are_right setup nonce selected views accepted made told =
    peer_tags_right setup nonce selected views accepted made told

pub server_tags_are_right : ServerTagsAreRight
server_tags_are_right setup nonce current views accepted made told =
    server_tags_right setup nonce current views accepted made told
