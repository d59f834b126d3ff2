-- The login of an end that has succeeded by EAP-PSK is that of the other end's conversation on
-- whose tags it rests.
use Rattle.std.proofs.Common.{◌≡◌, ℕ, Bool, true, false, List, ◌∷◌, ◌++◌, length, Option, Some}
use Rattle.std.proofs.Common.{refl, sym, ap, subst, ◌∙◌, arith, inl, inr}
use Rattle.login_setup.specs.declared.setup.PeerSetup.{PeerSetup}
use Rattle.login_setup.specs.Setup.{ServerSetup}
use Rattle.octet_lists.specs.Among.{psk_kind, gpsk_kind}
use Rattle.login_setup.specs.Users.{user_of}
use Rattle.eap_method.specs.BothServers.{psk_at}
use Rattle.eap_method.specs.declared.values.ServerSide.{ServerSide}
use Rattle.eap_method.specs.declared.tags.TagRecord.{TagRecord}
use Rattle.eap_method.specs.declared.values.Report.{Report}
use Rattle.eap_method.specs.PskPeer as peer
use Rattle.eap_method.specs.PskServer as server
use Rattle.eap_method.specs.PskTags.{ak_record, rand_of, mac_p_octets, hidden_octet, octet_with}
use Rattle.eap_method.specs.PskTags.{result_of, done_success}
use Rattle.eap_method.specs.Server.{side_of}
use Rattle.method_laws.proofs.PskChannel.{sealed_opened}
use Rattle.peer_machine.specs.PeerTable.{PeerNow}
use Rattle.server_machine.specs.ServerTable.{ServerNow}
use Rattle.login_laws.specs.Alone.{SameKeys}
use Rattle.login_laws.specs.Matching.{RestsOn}
use Rattle.method_laws.specs.PskPeerInvariant.{psk_peer_login, PskPeerTags, PskStarted}
use Rattle.method_laws.specs.PskPeerInvariant as psk_peer_stands
use Rattle.method_laws.specs.PskServerInvariant.{psk_server_login, PskServerTags, PskChecked}
use Rattle.method_laws.specs.PskServerInvariant as psk_server_stands
use Rattle.method_laws.specs.Records.{IsIn, here}
use Rattle.method_laws.proofs.Among.{among_one, among_two, first_is, no_tag}
use Rattle.method_laws.proofs.Fields.{ends}
use Rattle.login_laws.proofs.Results.{ResultsIn, LoginOf, PeersLogin, ServersLogin}
use Rattle.method_laws.proofs.Credentials.{own_key, own_name}
use Rattle.login_laws.proofs.Results.{peer_report_is}
use Rattle.login_laws.proofs.Results.{server_report_is}
use Rattle.method_laws.proofs.PskAgrees as agrees
use Rattle.method_laws.proofs.PskFields.{front_size}
use Rattle.method_laws.proofs.PskHeaders.{same_sealed}
use Rattle.method_laws.proofs.PskPeerOwners.{labels_apart}
use Rattle.method_laws.proofs.Among.{FirstIn, first_in}
use Rattle.eap_method.specs.BothPeers.{psk_in}

-- the first tag that a conversation of the server accepted is one of this method
pub first_method : (setup : ServerSetup) (view : server.View) (accepted made : List TagRecord)
    → PskServerTags setup view accepted made
    → (tag : TagRecord) (more : List TagRecord) → accepted ≡ tag ∷ more → tag.method ≡ psk_kind
first_method setup _ _ _ (psk_server_stands.psk_asked ordered) tag more first =
    no_tag tag more first
first_method setup _ _ _ psk_server_stands.psk_refused tag more first = no_tag tag more first
first_method setup _ _ _ (psk_server_stands.psk_checked login id facts) tag more first =
    ap (λ (t : TagRecord). t.method) (first_is _ tag _ more first)
first_method setup _ _ _ (psk_server_stands.psk_over login good header sealed id facts r_sent
    rand_in r_came) tag more first =
    ap (λ (t : TagRecord). t.method) (first_is _ tag _ more first)

-- equal octets under MAC_P
record SameMacP (p : peer.Login) (s : server.Login) : Type 0 where
  pub rand_p : rand_of p.nonce ≡ s.rand_p
  pub joined : s.id_p ++ s.own.id_s ≡ p.cred.id_p ++ p.id_s

same_mac_p : (p : peer.Login) (s : server.Login) → length (rand_of p.nonce) ≡ 16
    → length s.rand_p ≡ 16 → length p.rand_s ≡ 16 → length (rand_of s.nonce) ≡ 16
    → server.mac_p_covers s ≡ peer.mac_p_covers p → SameMacP p s
unfolding server.mac_p_covers peer.mac_p_covers mac_p_octets
same_mac_p p s size_1 size_2 size_3 size_4 e =
    let t0 = ends 16 _ s.rand_p _ (rand_of p.nonce) size_2 size_1 e in
    let t1 = ends 16 _ (rand_of s.nonce) _ p.rand_s size_4 size_3 t0.0 in
    record { rand_p = sym t0.1; joined = t1.0 }

same_keys : (p : peer.Login) (s : server.Login) → p.cred.psk ≡ s.psk → SameMacP p s
    → SameKeys (server.report_of s) (peer.report_of p)
unfolding peer.report_of server.report_of peer.keys_of server.keys_of
same_keys p s key same = record {
  method = refl;
  suite = refl;
  msk = rw (key, same.rand_p) refl;
  emsk = rw (key, same.rand_p) refl;
  joined = same.joined;
  whole = λ (e : psk_kind ≡ gpsk_kind). absurd (omega (arith, e));
}

module _ (peer_setup : PeerSetup) (server_setup : ServerSetup) (peer_nonce : length peer_setup.nonce
    ≡ 32) (server_nonce : length server_setup.nonce ≡ 32) where
  -- ---- a peer that has succeeded, and a conversation of the server that made the first tag that
  -- it accepted

  module _ (login : peer.Login) (facts : PskStarted peer_setup login) (id : ℕ) where
    abbrev mac_s : TagRecord
    mac_s = ak_record login.cred.psk (peer.mac_s_covers login) (peer.mac_s_of login)

    abbrev initial_peer : List TagRecord
    initial_peer = psk_peer_stands.psk2_record login ∷ peer.psk4_record login id 2

    abbrev Results : Option Report → Type 0
    Results o = LoginOf server_setup o (peer.report_of login) login.cred.psk

    checked_reaches : (other : server.Login) (other_id : ℕ) → PskChecked server_setup other
        → IsIn mac_s (server.psk3_records other other_id)
        → IsIn (psk_server_stands.psk2_record other) initial_peer
        → Results (Some (server.report_of other))
    unfolding peer.report_of side_of
    checked_reaches other other_id checked is first =
        let same = agrees.same_login peer_setup server_setup login facts other checked peer_nonce
        server_nonce id other_id first is in
        record {
          same = ap Some (sym (agrees.same_reports login other same));
          id_s = same.id_s ∙ ap (λ (own : ServerSide). own.id_s) checked.own;
          user = checked.user;
          known = ap (λ (name : List ℕ). user_of server_setup.users name psk_kind) same.id_p
              ∙ checked.known;
          key = sym checked.key ∙ sym same.psk;
        }

    pub server_reaches : (view : server.View) (accepted made : List TagRecord)
        → PskServerTags server_setup view accepted made → IsIn mac_s made
        → FirstIn accepted initial_peer → Results (psk_server_login (Some view))
    server_reaches _ _ _ (psk_server_stands.psk_asked ordered) is first = elim is [ ]
    server_reaches _ _ _ (psk_server_stands.psk_checked other other_id checked) is first =
        checked_reaches other other_id checked is (first.is _ _ refl)
    server_reaches _ _ _ psk_server_stands.psk_refused is first = elim is [ ]
    server_reaches _ _ _ (psk_server_stands.psk_over other good header sealed other_id checked
        r_sent rand_in r_came) is first =
        checked_reaches other other_id checked is (first.is _ _ refl)

  pub peers_login : (now : PeerNow) (login : peer.Login) → PskStarted peer_setup login
      → now.vars.selected ≡ Some psk_kind → psk_in now.views ≡ peer.over login true
      → (theirs : Option Report) → LoginOf server_setup theirs (peer.report_of login) login.cred.psk
      → PeersLogin peer_setup server_setup now theirs
  unfolding peer.report_of
  peers_login now login facts is_selected in_view theirs found = record {
    report = peer.report_of login;
    holds = peer_report_is now psk_kind _ is_selected
        (agrees.peer_reported now.views login in_view);
    id_p = own_name peer_setup psk_kind login.cred facts.cred;
    login = subst (λ (k : List ℕ). LoginOf server_setup theirs (peer.report_of login) k)
        (own_key peer_setup psk_kind login.cred facts.cred) found;
  }

  -- ---- a server that has succeeded, and a conversation of the peer that made the first tag that
  -- it accepted

  module _ (login : server.Login) (checked : PskChecked server_setup login) where
    by_psk2 : (other : peer.Login) → PskStarted peer_setup other
        → psk_server_stands.psk2_record login ≡ psk_peer_stands.psk2_record other
        → ResultsIn peer_setup (Some (peer.report_of other)) (server.report_of login) login.psk
    unfolding peer.report_of server.report_of
    by_psk2 other facts e = record {
      theirs = peer.report_of other;
      leads = refl;
      same = same_keys other login (sym (ap (λ (r : TagRecord). r.psk) e))
          (same_mac_p other login (front_size other.nonce
          (omega (arith, ap length facts.nonce, peer_nonce))) checked.size facts.size
          (front_size login.nonce (omega (arith, ap length checked.nonce, server_nonce)))
          (ap (λ (r : TagRecord). r.octets) e));
      id_p = own_name peer_setup psk_kind other.cred facts.cred;
      key = ap (λ (r : TagRecord). r.psk) e ∙ own_key peer_setup psk_kind other.cred facts.cred;
    }

    pub peer_reaches : (view : peer.View) (accepted made : List TagRecord)
        → PskPeerTags peer_setup view accepted made
        → IsIn (psk_server_stands.psk2_record login) made
        → ResultsIn peer_setup (psk_peer_login view) (server.report_of login) login.psk
    peer_reaches _ _ _ psk_peer_stands.psk_unset is = elim is [ ]
    peer_reaches _ _ _ (psk_peer_stands.psk_fresh allowed) is = elim is [ ]
    peer_reaches _ _ _ (psk_peer_stands.psk_waits other facts) is =
        by_psk2 other facts (among_one _ _ is)
    peer_reaches _ _ _ (psk_peer_stands.psk_over other good header sealed id facts) is =
        elim (among_two _ _ _ is) [
          | inl e ↦ by_psk2 other facts e
          | inr e ↦ labels_apart (ap (λ (r : TagRecord). r.label) e)
        ]

  pub servers_login : (now : ServerNow) (login : server.Login) → PskChecked server_setup login
      → login.r ≡ 2 → now.vars.current ≡ Some psk_kind
      → psk_at now.views ≡ Some (server.over login true) → (theirs : Option Report)
      → ResultsIn peer_setup theirs (server.report_of login) login.psk
      → ServersLogin peer_setup server_setup now theirs
  unfolding server.report_of side_of
  servers_login now login checked r_sent is_current in_view theirs found = record {
    report = server.report_of login;
    holds = server_report_is now psk_kind _ is_current
        (agrees.server_reported now.views login in_view);
    user = checked.user;
    id_s = ap (λ (own : ServerSide). own.id_s) checked.own;
    known = checked.known;
    results_to = subst (λ (k : List ℕ). ResultsIn peer_setup theirs (server.report_of login) k)
        checked.key found;
  }

  -- ---- as MAC_S covers ID_S, the peer's leads to just what the server reports, where it rests on
  -- the server's in its turn

  module _ (login : server.Login) (checked : PskChecked server_setup login) (id : ℕ) where
    over_reaches : (other : peer.Login) → PskStarted peer_setup other
        → psk_server_stands.psk2_record login ≡ psk_peer_stands.psk2_record other
        → IsIn (ak_record other.cred.psk (peer.mac_s_covers other) (peer.mac_s_of other))
        (server.psk3_records login id)
        → ◌≡◌ {A = Option Report} (Some (peer.report_of other)) (Some (server.report_of login))
    over_reaches other facts e is =
        elim (among_two _ _ _ is) [
          | inl f ↦ ap Some (agrees.same_reports other login
              (agrees.covers_same other login (front_size other.nonce
              (omega (arith, ap length facts.nonce, peer_nonce))) checked.size facts.size
              (front_size login.nonce (omega (arith, ap length checked.nonce, server_nonce)))
              (sym (ap (λ (r : TagRecord). r.psk) e)) (ap (λ (r : TagRecord). r.octets) e)
              (ap (λ (r : TagRecord). r.octets) f)))
          | inr f ↦ labels_apart (ap (λ (r : TagRecord). r.label) f)
        ]

    pub rests_reaches : (view : peer.View) (accepted made : List TagRecord)
        → PskPeerTags peer_setup view accepted made
        → IsIn (psk_server_stands.psk2_record login) made
        → RestsOn accepted (server.psk3_records login id)
        → psk_peer_login view ≡ Some (server.report_of login)
    rests_reaches _ _ _ psk_peer_stands.psk_unset is back = elim is [ ]
    rests_reaches _ _ _ (psk_peer_stands.psk_fresh allowed) is back = elim is [ ]
    rests_reaches _ _ _ (psk_peer_stands.psk_waits other facts) is back =
        no_tag back.tag back.more back.first
    rests_reaches _ _ _
        (psk_peer_stands.psk_over other good their_header their_sealed their_id facts) is back =
        elim (among_two _ _ _ is) [
          | inl e ↦ over_reaches other facts e
              ((first_in _ _ back.tag back.more back.first back.is_made).is _ _ refl)
          | inr e ↦ labels_apart (ap (λ (r : TagRecord). r.label) e)
        ]

  -- ---- where PSK-4 says DONE_SUCCESS, the login of the peer that made it has succeeded

  -- a view of a peer whose login has succeeded
  pub record HasUnconditionalSuccess (view : peer.View) : Type 0 where
    pub login : peer.Login
    pub in_view : view ≡ peer.over login true
    pub facts : PskStarted peer_setup login

  module _ (login : server.Login) (checked : PskChecked server_setup login) (header : List ℕ)
      (sealed : ℕ)
      (r_came : result_of (hidden_octet (server.keys_of login).tek 1 sealed) ≡ done_success) where
    same_tek : (other : peer.Login) → other.cred.psk ≡ login.psk
        → rand_of other.nonce ≡ login.rand_p → (server.keys_of login).tek ≡ (peer.keys_of other).tek
    unfolding peer.keys_of server.keys_of
    same_tek other key rand = rw (key, rand) refl

    their_octet : (other : peer.Login) (id r : ℕ)
        → hidden_octet (peer.keys_of other).tek 1 (peer.psk4_octet other id r) ≡ octet_with r
    unfolding peer.psk4_sealed
    their_octet other id r = sealed_opened _ _ _ _

    -- the result in it is the one with which the peer's login ended
    their_result : (other : peer.Login) (id r : ℕ) → other.cred.psk ≡ login.psk
        → rand_of other.nonce ≡ login.rand_p → sealed ≡ peer.psk4_octet other id r
        → result_of (octet_with r) ≡ done_success
    their_result other id r key rand same =
        ap result_of
        (sym (their_octet other id r)
        ∙ ap (λ (octet : ℕ). hidden_octet (peer.keys_of other).tek 1 octet) (sym same)
        ∙ ap (λ (tek : List ℕ). hidden_octet tek 1 sealed) (sym (same_tek other key rand)))
        ∙ r_came

    by_result : (other : peer.Login) (good : Bool) (id : ℕ) → PskStarted peer_setup other
        → other.cred.psk ≡ login.psk → rand_of other.nonce ≡ login.rand_p
        → sealed ≡ peer.psk4_octet other id (psk_peer_stands.result_for good)
        → HasUnconditionalSuccess (peer.over other good)
    by_result other true id facts key rand same =
        record { login = other; in_view = refl; facts = facts }
    by_result other false id facts key rand same =
        absurd (omega (arith, their_result other id 3 key rand same))

    by_both : (other : peer.Login) (good : Bool) (id : ℕ) → PskStarted peer_setup other
        → psk_server_stands.psk2_record login ≡ psk_peer_stands.psk2_record other
        → IsIn (psk_server_stands.psk4_taken login header sealed) (psk_peer_stands.psk2_record other
        ∷ peer.psk4_record other id (psk_peer_stands.result_for good))
        → HasUnconditionalSuccess (peer.over other good)
    by_both other good id facts e last =
        let macs = same_mac_p other login (front_size other.nonce
        (omega (arith, ap length facts.nonce, peer_nonce))) checked.size facts.size
        (front_size login.nonce (omega (arith, ap length checked.nonce, server_nonce)))
        (ap (λ (r : TagRecord). r.octets) e) in
        elim (among_two _ _ _ last) [
          | inl f ↦ labels_apart (sym (ap (λ (r : TagRecord). r.label) f))
          | inr f ↦
              by_result other good id facts (sym (ap (λ (r : TagRecord). r.psk) e)) macs.rand_p
              (same_sealed header (peer.psk4_header other id) _ _
              (ap (λ (r : TagRecord). r.octets) f))
        ]

    pub confirms : (view : peer.View) (accepted made : List TagRecord)
        → PskPeerTags peer_setup view accepted made
        → IsIn (psk_server_stands.psk2_record login) made → IsIn (psk_server_stands.psk4_taken login
        header sealed) made → HasUnconditionalSuccess view
    confirms _ _ _ psk_peer_stands.psk_unset is last = elim is [ ]
    confirms _ _ _ (psk_peer_stands.psk_fresh allowed) is last = elim is [ ]
    confirms _ _ _ (psk_peer_stands.psk_waits other facts) is last =
        labels_apart (sym (ap (λ (r : TagRecord). r.label) (among_one _ _ last)))
    confirms _ _ _
        (psk_peer_stands.psk_over other good their_header their_sealed their_id facts) is last =
        elim (among_two _ _ _ is) [
          | inl e ↦ by_both other good their_id facts e last
          | inr e ↦ labels_apart (ap (λ (r : TagRecord). r.label) e)
        ]

  -- one that has made PSK-4 rests on those among which all are that it accepted
  pub psk4_rests : (login : server.Login) (header : List ℕ) (sealed : ℕ) (view : peer.View)
      (accepted made others : List TagRecord)
      → PskPeerTags peer_setup view accepted made
      → IsIn (psk_server_stands.psk4_taken login header sealed) made
      → ((t : TagRecord) → IsIn t accepted → IsIn t others) → RestsOn accepted others
  psk4_rests login header sealed _ _ _ others psk_peer_stands.psk_unset last back = elim last [ ]
  psk4_rests login header sealed _ _ _ others (psk_peer_stands.psk_fresh allowed) last back =
      elim last [ ]
  psk4_rests login header sealed _ _ _ others (psk_peer_stands.psk_waits other facts) last back =
      labels_apart (sym (ap (λ (r : TagRecord). r.label) (among_one _ _ last)))
  psk4_rests login header sealed _ _ _ others
      (psk_peer_stands.psk_over other good their_header their_sealed their_id facts) last back =
      record { tag = _; more = _; first = refl; is_made = back _ (here _) }
