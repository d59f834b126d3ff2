-- Two ends that have succeeded by EAP-GPSK agree, and what they report is their own.
use Rattle.std.proofs.Common.{◌≡◌, ℕ, true, false, List, [], ◌∷◌, ◌++◌, length, Some, refl, sym, ap}
use Rattle.std.proofs.Common.{◌∙◌, length-append, arith, inl, inr, Option, None}
use Rattle.std.proofs.lemmas.Option.{same_Some}
use Rattle.login_setup.specs.declared.setup.PeerSetup.{PeerSetup}
use Rattle.login_setup.specs.Setup.{ServerSetup}
use Rattle.login_setup.specs.declared.setup.Setup.{Setup}
use Rattle.octet_lists.specs.Among.{gpsk_kind, is_among}
use Rattle.octet_lists.specs.Suite.{suite_number, suite_octets}
use Rattle.octet_lists.specs.declared.suite.Suite.{Suite}
use Rattle.gpsk_messages.specs.Message.{field_with_length, covered_of}
use Rattle.login_setup.specs.Users.{user_of}
use Rattle.login_policy.proofs.Choices.{picked_is_allowed}
use Rattle.login_policy.specs.Policy.{picked_suite}
use Rattle.eap_method.specs.BothServers as at_server
use Rattle.eap_method.specs.BothServers.{gpsk_at}
use Rattle.eap_method.specs.declared.tags.TagRecord.{TagRecord}
use Rattle.eap_method.specs.declared.values.Report.{Report}
use Rattle.eap_method.specs.GpskPeer as peer
use Rattle.eap_method.specs.GpskServer as server
use Rattle.eap_method.specs.GpskTags.{sk_record, suite_list}
use Rattle.eap_method.specs.Peer.{peer_report_of}
use Rattle.eap_method.specs.Server as servers
use Rattle.eap_method.specs.Server.{ServerViews, server_report_of, side_of}
use Rattle.method_laws.specs.Agreeing.{Agrees}
use Rattle.method_laws.specs.GpskLogins.{PicksFirstSuite}
use Rattle.method_laws.specs.GpskPeerInvariant.{GpskStarted, gpsk2_record}
use Rattle.method_laws.specs.GpskServerInvariant.{GpskChecked, gpsk2_of_login}
use Rattle.method_laws.specs.Records.{IsIn}
use Rattle.method_laws.proofs.Among.{among_one, among_two}
use Rattle.method_laws.proofs.Fields.{fronts, sized_fronts, suite_fronts}
use Rattle.method_laws.proofs.Credentials.{own_key, own_name}
use Rattle.eap_method.specs.BothPeers.{gpsk_in, gpsk_of, gpsk_shown}
use Rattle.eap_method.specs.Peer.{Method, by_psk, by_gpsk, by_other, View, report, PeerShown}
use Rattle.eap_method.specs.Peer.{PeerViews, peer_report, reported}

-- both ends speak of the same login
pub record IsSame (p : peer.Login) (list : List ℕ) (s : server.Login) : Type 0 where
  pub psk : p.cred.psk ≡ s.psk
  pub id_p : p.cred.id_p ≡ s.id_p
  pub id_s : p.id_s ≡ s.own.id_s
  pub rand_p : p.nonce ≡ s.rand_p
  pub rand_s : p.rand_s ≡ s.nonce
  pub suite : p.suite ≡ s.suite
  pub offered : list ≡ suite_list s.own.suites

-- equal octets before the MACs of two GPSK-2
pub covers_same : (p : peer.Login) (s : server.Login) (list pd : List ℕ) → length p.nonce ≡ 32
    → length s.rand_p ≡ 32 → length p.rand_s ≡ 32 → length s.nonce ≡ 32
    → p.cred.psk ≡ s.psk → covered_of (gpsk2_of_login s pd) ≡ covered_of (peer.gpsk2_of p list)
    → IsSame p list s
unfolding covered_of
covers_same p s list pd size_1 size_2 size_3 size_4 psk e =
    let t0 = sized_fronts p.cred.id_p _ s.id_p _ (sym e) in
    let t1 = sized_fronts p.id_s _ s.own.id_s _ t0.1 in
    let t2 = fronts 32 p.nonce _ s.rand_p _ size_1 size_2 t1.1 in
    let t3 = fronts 32 p.rand_s _ s.nonce _ size_3 size_4 t2.1 in
    let t4 = sized_fronts list _ (suite_list s.own.suites) _ t3.1 in
    record {
      psk = psk;
      id_p = t0.0;
      id_s = t1.0;
      rand_p = t2.0;
      rand_s = t3.0;
      suite = suite_fronts p.suite s.suite _ _ t4.1;
      offered = t4.0;
    }

-- what the MAC of GPSK-4 covers is shorter than what that of GPSK-2 covers
longer : (first second rest : List ℕ) → [] ≡ first ++ (field_with_length second ++ rest) → ⊥
longer first second rest e =
    let sizes : length {A = ℕ} [] ≡ length (first ++ (field_with_length second ++ rest)) =
    ap length e in
    absurd (omega (arith, length-append first (field_with_length second ++ rest)))

not_gpsk4 : (p : peer.Login) (s : server.Login) (pd : List ℕ) → covered_of (gpsk2_of_login s pd)
    ≡ covered_of (peer.gpsk4_of p) → ⊥
unfolding covered_of
not_gpsk4 p s pd e =
    let rest :
    s.id_p ++ (field_with_length s.own.id_s ++ (s.rand_p ++ (s.nonce ++ (field_with_length
    (suite_list s.own.suites) ++ (suite_octets s.suite ++ field_with_length pd))))) ≡ [] = cc in
    longer s.id_p s.own.id_s _ (sym rest)

-- what the MAC of GPSK-3 covers is shorter than what that of GPSK-2 with the same names, nonces and
-- suite covers, by ID_Peer with its length, CSuite_List with its length, and the PD block
covers_more : (id_p id_s rand_p rand_s list suite pd : List ℕ)
    → field_with_length id_p ++ (field_with_length id_s
    ++ (rand_p ++ (rand_s ++ (field_with_length list ++ (suite ++ field_with_length pd)))))
    ≡ rand_p ++ (rand_s ++ (field_with_length id_s ++ (suite ++ field_with_length []))) → ⊥
covers_more id_p id_s rand_p rand_s list suite pd e =
    let sizes : length (field_with_length id_p ++ (field_with_length id_s
    ++ (rand_p ++ (rand_s ++ (field_with_length list ++ (suite ++ field_with_length pd))))))
    ≡ length (rand_p ++ (rand_s ++ (field_with_length id_s ++ (suite ++ field_with_length [])))) =
    ap length e in
    absurd (omega (
      arith,
      length-append id_p (field_with_length id_s
          ++ (rand_p ++ (rand_s ++ (field_with_length list ++ (suite ++ field_with_length pd))))),
      length-append id_s
          (rand_p ++ (rand_s ++ (field_with_length list ++ (suite ++ field_with_length pd)))),
      length-append rand_p (rand_s ++ (field_with_length list ++ (suite ++ field_with_length pd))),
      length-append rand_s (field_with_length list ++ (suite ++ field_with_length pd)),
      length-append list (suite ++ field_with_length pd),
      length-append suite (field_with_length pd),
      length-append rand_p (rand_s ++ (field_with_length id_s ++ (suite ++ field_with_length []))),
      length-append rand_s (field_with_length id_s ++ (suite ++ field_with_length [])),
      length-append id_s (suite ++ field_with_length []),
      length-append suite (field_with_length []),
    ))

-- the GPSK-2 that the server accepted isn't the GPSK-3 that it made itself
pub not_own : (s : server.Login) (pd : List ℕ)
    → IsIn (sk_record s.psk (gpsk2_of_login s pd)) (sk_record s.psk (server.gpsk3_of s) ∷ []) → ⊥
unfolding covered_of
not_own s pd is_in =
    covers_more s.id_p s.own.id_s s.rand_p s.nonce (suite_list s.own.suites)
    (suite_octets s.suite) pd (ap (λ (tag : TagRecord). tag.octets) (among_one _ _ is_in))

pub same_reports : (p : peer.Login) (list : List ℕ) (s : server.Login) → IsSame p list s
    → peer.report_of p ≡ server.report_of s
unfolding peer.report_of server.report_of peer.keys_of server.keys_of
same_reports p list s same =
    rw (same.psk, same.id_p, same.id_s, same.rand_p, same.rand_s, same.suite) refl

gpsk_method_reported : (m : Method) (view : View m) (login : peer.Login)
    → gpsk_of m view ≡ peer.over login true → report m view ≡ Some (peer.report_of login)
gpsk_method_reported by_psk view login in_view = absurd cc
gpsk_method_reported by_gpsk view login in_view = ap peer.report in_view
gpsk_method_reported (by_other custom) view login in_view = absurd cc

gpsk_reported : (found : Option PeerShown) (login : peer.Login)
    → gpsk_shown found ≡ peer.over login true → reported found ≡ Some (peer.report_of login)
unfolding peer_report
gpsk_reported None login in_view = absurd cc
gpsk_reported (Some s) login in_view = gpsk_method_reported s.method s.view login in_view

pub peer_reported : (views : PeerViews) (login : peer.Login) → gpsk_in views ≡ peer.over login true
    → peer_report_of gpsk_kind views ≡ Some (peer.report_of login)
unfolding peer_report_of
peer_reported views login in_view = gpsk_reported (views gpsk_kind) login in_view

server_method_reported : (m : servers.Method) (view : servers.View m) (login : server.Login)
    → at_server.gpsk_of m view ≡ Some (server.over login true)
    → servers.report m view ≡ Some (server.report_of login)
server_method_reported servers.by_psk view login in_view = absurd cc
server_method_reported servers.by_gpsk view login in_view = ap server.report (same_Some _ _ in_view)
server_method_reported (servers.by_other custom) view login in_view = absurd cc

server_gpsk_reported : (found : Option servers.ServerShown) (login : server.Login)
    → at_server.gpsk_shown found ≡ Some (server.over login true)
    → servers.reported found ≡ Some (server.report_of login)
unfolding servers.server_report
server_gpsk_reported None login in_view = absurd cc
server_gpsk_reported (Some s) login in_view = server_method_reported s.method s.view login in_view

pub server_reported : (views : ServerViews) (login : server.Login)
    → gpsk_at views ≡ Some (server.over login true)
    → server_report_of gpsk_kind views ≡ Some (server.report_of login)
unfolding server_report_of
server_reported views login in_view = server_gpsk_reported (views gpsk_kind) login in_view

module _ (peer_setup : PeerSetup) (server_setup : ServerSetup) (p : peer.Login) (list : List ℕ)
    (begun : GpskStarted peer_setup p list) (s : server.Login) (pd : List ℕ)
    (checked : GpskChecked server_setup s false) (peer_nonce : length peer_setup.nonce ≡ 32)
    (server_nonce : length server_setup.nonce ≡ 32) where
  -- the GPSK-2 that the server accepted is one that the peer made
  pub same_login : IsIn (sk_record s.psk (gpsk2_of_login s pd)) (gpsk2_record p list
      ∷ sk_record p.cred.psk (peer.gpsk4_of p) ∷ []) → IsSame p list s
  same_login is_in =
      elim (among_two _ _ _ is_in) [
        | inl first ↦ covers_same p s list pd
            (ap length begun.nonce ∙ peer_nonce) checked.size begun.size
            (ap length checked.nonce ∙ server_nonce) (sym (ap (λ (tag : TagRecord). tag.psk) first))
            (ap (λ (tag : TagRecord). tag.octets) first)
        | inr second ↦ absurd (not_gpsk4 p s pd (ap (λ (tag : TagRecord). tag.octets) second))
      ]

-- what both report is one and the same, and their own: names, key and suite
module _ (setup : Setup) (login : peer.Login) (list : List ℕ)
    (facts : GpskStarted setup.peer login list) (other : server.Login) (pd : List ℕ)
    (checked : GpskChecked setup.server other false) (same : IsSame login list other) where
  server_name : login.id_s ≡ setup.server.name
  unfolding side_of
  server_name = same.id_s ∙ ap (λ own. own.id_s) checked.own

  -- the list that the peer read is the server's own
  own_list : list ≡ suite_list setup.server.suites
  unfolding side_of
  own_list = same.offered ∙ ap (λ own. suite_list own.suites) checked.own

  gpsk_suite : PicksFirstSuite setup (peer.report_of login)
  unfolding peer.report_of
  gpsk_suite = record {
    suite = login.suite;
    picked = ap (picked_suite setup.peer.suites) (sym own_list) ∙ facts.picked;
    is_suite = refl;
  }

  pub gpsk_agree : (one theirs : Option Report) → one ≡ Some (peer.report_of login)
      → theirs ≡ Some (server.report_of other) → Agrees setup one theirs
  unfolding peer.report_of
  gpsk_agree one theirs is are =
      let name : login.cred.id_p ≡ setup.peer.name =
      own_name setup.peer gpsk_kind login.cred facts.cred in
      record {
        report = peer.report_of login;
        reported = is;
        same = are ∙ ap Some (sym (same_reports login list other same));
        id_p = name;
        id_s = server_name;
        user = checked.user;
        known = ap (λ (id : List ℕ). user_of setup.server.users id gpsk_kind) (sym name ∙ same.id_p)
            ∙ checked.known;
        key = sym checked.key ∙ (sym same.psk ∙ own_key setup.peer gpsk_kind login.cred facts.cred);
        welcome = checked.standing;
        allowed = facts.allowed;
        ordered = checked.ordered;
        accepted = facts.accepted;
        allowed_suite = λ e. picked_is_allowed setup.peer.suites list login.suite facts.picked;
        ordered_suite = λ e. ap (λ (s : Suite). is_among setup.server.suites (suite_number s))
            same.suite ∙ checked.offered;
        first_suite = λ e. gpsk_suite;
      }
