-- The login of an end that has succeeded by EAP-GPSK is that of the other end's conversation on
-- whose tags it rests.
use Rattle.std.proofs.Common.{◌≡◌, ℕ, true, false, List, [], ◌∷◌, ◌++◌, length, Option, Some, refl}
use Rattle.std.proofs.Common.{sym, ap, subst, ◌∙◌, inl, inr}
use Rattle.login_setup.specs.declared.setup.PeerSetup.{PeerSetup}
use Rattle.login_setup.specs.Setup.{ServerSetup}
use Rattle.octet_lists.specs.Among.{gpsk_kind}
use Rattle.login_setup.specs.Users.{user_of}
use Rattle.eap_method.specs.BothServers.{gpsk_at}
use Rattle.eap_method.specs.declared.values.ServerSide.{ServerSide}
use Rattle.eap_method.specs.declared.tags.TagRecord.{TagRecord}
use Rattle.eap_method.specs.declared.values.Report.{Report}
use Rattle.eap_method.specs.GpskPeer as peer
use Rattle.eap_method.specs.GpskServer as server
use Rattle.eap_method.specs.GpskTags.{sk_record}
use Rattle.eap_method.specs.Server.{side_of}
use Rattle.peer_machine.specs.PeerTable.{PeerNow}
use Rattle.server_machine.specs.ServerTable.{ServerNow}
use Rattle.login_laws.specs.Alone.{SameKeys}
use Rattle.method_laws.specs.GpskPeerInvariant.{gpsk_peer_login, GpskPeerTags, GpskStarted}
use Rattle.method_laws.specs.GpskPeerInvariant.{gpsk2_record, gpsk3_of_login}
use Rattle.method_laws.specs.GpskPeerInvariant as gpsk_peer_stands
use Rattle.method_laws.specs.GpskServerInvariant.{gpsk_server_login, GpskServerTags, GpskChecked}
use Rattle.method_laws.specs.GpskServerInvariant.{gpsk2_of_login}
use Rattle.method_laws.specs.GpskServerInvariant as gpsk_server_stands
use Rattle.method_laws.specs.Records.{IsIn}
use Rattle.method_laws.proofs.Among.{among_one, among_two}
use Rattle.method_laws.proofs.GpskAgrees as agrees
use Rattle.method_laws.proofs.GpskPeerOwners.{not_fail, not_gpsk4}
use Rattle.method_laws.proofs.GpskServerOwners.{not_bars}
use Rattle.login_laws.proofs.Results.{ResultsIn, LoginOf, PeersLogin, ServersLogin}
use Rattle.method_laws.proofs.Credentials.{own_key, own_name}
use Rattle.login_laws.proofs.Results.{peer_report_is}
use Rattle.login_laws.proofs.Results.{server_report_is}
use Rattle.method_laws.proofs.Among.{FirstIn}
use Rattle.eap_method.specs.BothPeers.{gpsk_in}

equal_keys : (one other : Report) → one ≡ other → SameKeys one other
equal_keys one other e = record {
  method = ap (λ (r : Report). r.method) e;
  suite = ap (λ (r : Report). r.suite) e;
  msk = ap (λ (r : Report). r.msk) e;
  emsk = ap (λ (r : Report). r.emsk) e;
  joined = ap (λ (r : Report). r.id_p ++ r.id_s) e;
  whole = λ is_gpsk. e;
}

module _ (peer_setup : PeerSetup) (server_setup : ServerSetup) (peer_nonce : length peer_setup.nonce
    ≡ 32) (server_nonce : length server_setup.nonce ≡ 32) where
  -- ---- a peer that has succeeded, and a conversation of the server that made the first tag that
  -- it accepted

  module _ (login : peer.Login) (list pd : List ℕ) (facts : GpskStarted peer_setup login list) where
    abbrev gpsk3 : TagRecord
    gpsk3 = sk_record login.cred.psk (gpsk3_of_login login pd)

    abbrev initial_peer : List TagRecord
    initial_peer = gpsk2_record login list ∷ sk_record login.cred.psk (peer.gpsk4_of login) ∷ []

    abbrev Results : Option Report → Type 0
    Results o = LoginOf server_setup o (peer.report_of login) login.cred.psk

    checked_reaches : (other : server.Login) (their_pd : List ℕ)
        → GpskChecked server_setup other false
        → IsIn (sk_record other.psk (gpsk2_of_login other their_pd)) initial_peer
        → Results (Some (server.report_of other))
    unfolding peer.report_of side_of
    checked_reaches other their_pd checked first =
        let same = agrees.same_login peer_setup server_setup login list facts other their_pd checked
        peer_nonce server_nonce first in
        record {
          same = ap Some (sym (agrees.same_reports login list other same));
          id_s = same.id_s ∙ ap (λ (own : ServerSide). own.id_s) checked.own;
          user = checked.user;
          known = ap (λ (name : List ℕ). user_of server_setup.users name gpsk_kind) same.id_p
              ∙ checked.known;
          key = sym checked.key ∙ sym same.psk;
        }

    no_bars : {A : Type 0} (other : server.Login)
        → IsIn gpsk3 (sk_record other.psk (server.bars_with other) ∷ []) → A
    no_bars other is = absurd (not_bars login pd other (ap length facts.nonce ∙ peer_nonce)
        (ap (λ (r : TagRecord). r.octets) (among_one _ _ is)))

    pub server_reaches : (view : server.View) (accepted made : List TagRecord)
        → GpskServerTags server_setup view accepted made → IsIn gpsk3 made
        → FirstIn accepted initial_peer → Results (gpsk_server_login (Some view))
    server_reaches _ _ _ (gpsk_server_stands.gpsk_asked ordered) is first = elim is [ ]
    server_reaches _ _ _ gpsk_server_stands.gpsk_refusing is first = elim is [ ]
    server_reaches _ _ _ gpsk_server_stands.gpsk_refused is first = elim is [ ]
    server_reaches _ _ _ (gpsk_server_stands.gpsk_barring other their_pd checked) is first =
        no_bars other is
    server_reaches _ _ _ (gpsk_server_stands.gpsk_checked other their_pd checked) is first =
        checked_reaches other their_pd checked (first.is _ _ refl)
    server_reaches _ _ _ (gpsk_server_stands.gpsk_barred other their_pd checked) is first =
        no_bars other is
    server_reaches _ _ _ (gpsk_server_stands.gpsk_confirmed other their_pd last_pd checked)
        is first = checked_reaches other their_pd checked (first.is _ _ refl)

  pub peers_login : (now : PeerNow) (login : peer.Login) (list : List ℕ)
      → GpskStarted peer_setup login list → now.vars.selected ≡ Some gpsk_kind
      → gpsk_in now.views ≡ peer.over login true
      → (theirs : Option Report) → LoginOf server_setup theirs (peer.report_of login) login.cred.psk
      → PeersLogin peer_setup server_setup now theirs
  unfolding peer.report_of
  peers_login now login list facts is_selected in_view theirs found = record {
    report = peer.report_of login;
    holds = peer_report_is now gpsk_kind _ is_selected
        (agrees.peer_reported now.views login in_view);
    id_p = own_name peer_setup gpsk_kind login.cred facts.cred;
    login = subst (λ (k : List ℕ). LoginOf server_setup theirs (peer.report_of login) k)
        (own_key peer_setup gpsk_kind login.cred facts.cred) found;
  }

  -- ---- a server that has succeeded, and a conversation of the peer that made the first tag that
  -- it accepted

  module _ (login : server.Login) (pd : List ℕ)
      (checked : GpskChecked server_setup login false) where
    abbrev gpsk2 : TagRecord
    gpsk2 = sk_record login.psk (gpsk2_of_login login pd)

    by_gpsk2 : (other : peer.Login) (list : List ℕ) → GpskStarted peer_setup other list
        → gpsk2 ≡ gpsk2_record other list
        → ResultsIn peer_setup (Some (peer.report_of other)) (server.report_of login) login.psk
    unfolding peer.report_of server.report_of
    by_gpsk2 other list facts e =
        let same = agrees.covers_same other login list pd (ap length facts.nonce ∙ peer_nonce)
        checked.size facts.size (ap length checked.nonce ∙ server_nonce)
        (sym (ap (λ (r : TagRecord). r.psk) e)) (ap (λ (r : TagRecord). r.octets) e) in
        record {
          theirs = peer.report_of other;
          leads = refl;
          same = equal_keys _ _ (sym (agrees.same_reports other list login same));
          id_p = own_name peer_setup gpsk_kind other.cred facts.cred;
          key = ap (λ (r : TagRecord). r.psk) e
              ∙ own_key peer_setup gpsk_kind other.cred facts.cred;
        }

    pub peer_reaches : (view : peer.View) (accepted made : List TagRecord)
        → GpskPeerTags peer_setup view accepted made → IsIn gpsk2 made
        → ResultsIn peer_setup (gpsk_peer_login view) (server.report_of login) login.psk
    peer_reaches _ _ _ gpsk_peer_stands.gpsk_unset is = elim is [ ]
    peer_reaches _ _ _ (gpsk_peer_stands.gpsk_fresh allowed) is = elim is [ ]
    peer_reaches _ _ _ (gpsk_peer_stands.gpsk_waits other list facts) is =
        by_gpsk2 other list facts (among_one _ _ is)
    peer_reaches _ _ _ (gpsk_peer_stands.gpsk_confirmed other list _ facts) is =
        elim (among_two _ _ _ is) [
          | inl e ↦ by_gpsk2 other list facts e
          | inr e ↦
              absurd (not_gpsk4 login other pd checked.size (ap (λ (r : TagRecord). r.octets) e))
        ]
    peer_reaches _ _ _ (gpsk_peer_stands.gpsk_failed other list facts) is =
        by_gpsk2 other list facts (among_one _ _ is)
    peer_reaches _ _ _ (gpsk_peer_stands.gpsk_barred other list code facts) is =
        elim (among_two _ _ _ is) [
          | inl e ↦ by_gpsk2 other list facts e
          | inr e ↦ absurd (not_fail login other pd code checked.size
              (ap (λ (r : TagRecord). r.octets) e))
        ]

  pub servers_login : (now : ServerNow) (login : server.Login)
      → GpskChecked server_setup login false → now.vars.current ≡ Some gpsk_kind
      → gpsk_at now.views ≡ Some (server.over login true) → (theirs : Option Report)
      → ResultsIn peer_setup theirs (server.report_of login) login.psk
      → ServersLogin peer_setup server_setup now theirs
  unfolding server.report_of side_of
  servers_login now login checked is_current in_view theirs found = record {
    report = server.report_of login;
    holds = server_report_is now gpsk_kind _ is_current
        (agrees.server_reported now.views login in_view);
    user = checked.user;
    id_s = ap (λ (own : ServerSide). own.id_s) checked.own;
    known = checked.known;
    results_to = subst (λ (k : List ℕ). ResultsIn peer_setup theirs (server.report_of login) k)
        checked.key found;
  }

  -- the peer's leads to just what the server reports
  pub reaches_whole : (login : server.Login) (theirs : Option Report)
      → ResultsIn peer_setup theirs (server.report_of login) login.psk
      → theirs ≡ Some (server.report_of login)
  unfolding server.report_of
  reaches_whole login theirs found = found.leads ∙ ap Some (sym (found.same.whole refl))
