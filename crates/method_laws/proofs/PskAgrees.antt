-- Two ends that have succeeded by EAP-PSK agree, and what they report is their own.
use Rattle.std.proofs.Common.{◌≡◌, ℕ, true, false, Bool, List, ◌∷◌, ◌++◌, length, Some, refl, sym}
use Rattle.std.proofs.Common.{ap, ◌∙◌, length-append, arith, inl, inr, Option, None}
use Rattle.std.proofs.lemmas.Option.{same_Some}
use Rattle.login_setup.specs.declared.setup.PeerSetup.{PeerSetup}
use Rattle.login_setup.specs.Setup.{ServerSetup}
use Rattle.login_setup.specs.declared.setup.Setup.{Setup}
use Rattle.octet_lists.specs.Among.{psk_kind, gpsk_kind}
use Rattle.login_setup.specs.Users.{user_of}
use Rattle.eap_method.specs.BothServers as at_server
use Rattle.eap_method.specs.BothServers.{psk_at}
use Rattle.eap_method.specs.declared.tags.Label.TheVariants.{Ak, Tek}
use Rattle.eap_method.specs.declared.tags.TagRecord.{TagRecord}
use Rattle.eap_method.specs.declared.values.Report.{Report}
use Rattle.eap_method.specs.PskPeer as peer
use Rattle.eap_method.specs.PskServer as server
use Rattle.eap_method.specs.PskTags.{ak_record, rand_of, mac_p_octets, mac_s_octets}
use Rattle.eap_method.specs.Peer.{peer_report_of}
use Rattle.eap_method.specs.Server as servers
use Rattle.eap_method.specs.Server.{ServerViews, server_report_of, side_of}
use Rattle.method_laws.specs.Agreeing.{Agrees}
use Rattle.method_laws.specs.PskPeerInvariant.{PskStarted}
use Rattle.method_laws.specs.PskPeerInvariant as psk_peer_stands
use Rattle.method_laws.specs.PskServerInvariant.{PskChecked}
use Rattle.method_laws.specs.PskServerInvariant as psk_server_stands
use Rattle.method_laws.specs.Records.{IsIn}
use Rattle.method_laws.proofs.Among.{among_two}
use Rattle.method_laws.proofs.Fields.{ends}
use Rattle.method_laws.proofs.Credentials.{own_key, own_name}
use Rattle.method_laws.proofs.PskFields.{front_size}
use Rattle.eap_method.specs.BothPeers.{psk_in, psk_of, psk_shown}
use Rattle.eap_method.specs.Peer.{Method, by_psk, by_gpsk, by_other, View, report, PeerShown}
use Rattle.eap_method.specs.Peer.{PeerViews, peer_report, reported}

-- both ends speak of the same login
pub record IsSame (p : peer.Login) (s : server.Login) : Type 0 where
  pub psk : p.cred.psk ≡ s.psk
  pub id_p : p.cred.id_p ≡ s.id_p
  pub id_s : p.id_s ≡ s.own.id_s
  pub rand_p : rand_of p.nonce ≡ s.rand_p
  pub rand_s : p.rand_s ≡ rand_of s.nonce

-- equal octets under both MACs
pub covers_same : (p : peer.Login) (s : server.Login) → length (rand_of p.nonce) ≡ 16
    → length s.rand_p ≡ 16 → length p.rand_s ≡ 16 → length (rand_of s.nonce) ≡ 16
    → p.cred.psk ≡ s.psk → server.mac_p_covers s ≡ peer.mac_p_covers p
    → peer.mac_s_covers p ≡ server.mac_s_covers s → IsSame p s
unfolding peer.mac_p_covers server.mac_p_covers peer.mac_s_covers server.mac_s_covers mac_p_octets
    mac_s_octets
covers_same p s size_1 size_2 size_3 size_4 psk first second =
    let t0 = ends 16 _ (rand_of p.nonce) _ s.rand_p size_1 size_2 (sym first) in
    let t1 = ends 16 _ p.rand_s _ (rand_of s.nonce) size_3 size_4 t0.0 in
    let names = ends 16 p.id_s (rand_of p.nonce) s.own.id_s s.rand_p size_1 size_2 second in
    let users =
    ends (length s.own.id_s) p.cred.id_p p.id_s s.id_p s.own.id_s (ap length names.0) refl t1.0 in
    record { psk = psk; id_p = users.0; id_s = names.0; rand_p = t0.1; rand_s = t1.1 }

pub same_reports : (p : peer.Login) (s : server.Login) → IsSame p s
    → peer.report_of p ≡ server.report_of s
unfolding peer.report_of server.report_of peer.keys_of server.keys_of
same_reports p s same = rw (same.psk, same.id_p, same.id_s, same.rand_p) refl

other_label : Ak ≡ Tek → ⊥
other_label e = absurd cc

-- MAC_P covers more than MAC_S of the same names and nonces, by ID_P and RAND_S
covers_more : (id_p id_s rand_s rand_p : List ℕ) → length rand_s ≡ 16
    → mac_p_octets id_p id_s rand_s rand_p ≡ mac_s_octets id_s rand_p → ⊥
unfolding mac_p_octets mac_s_octets
covers_more id_p id_s rand_s rand_p size e =
    let sizes : length (((id_p ++ id_s) ++ rand_s) ++ rand_p) ≡ length (id_s ++ rand_p) =
    ap length e in
    absurd
    (omega (
      arith,
      length-append ((id_p ++ id_s) ++ rand_s) rand_p,
      length-append (id_p ++ id_s) rand_s,
      length-append id_p id_s,
      length-append id_s rand_p,
      size,
    ))

-- the MAC_S that the peer accepted is none of the tags that it made itself
pub peer_not_own : (setup : PeerSetup) (p : peer.Login) → PskStarted setup p → (id : ℕ)
    → IsIn (ak_record p.cred.psk (peer.mac_s_covers p)
    (peer.mac_s_of p)) (psk_peer_stands.psk2_record p ∷ peer.psk4_record p id 2) → ⊥
unfolding peer.mac_p_covers peer.mac_s_covers
peer_not_own setup p begun id is_in =
    elim (among_two _ _ _ is_in) [
      | inl one ↦ covers_more p.cred.id_p p.id_s p.rand_s (rand_of p.nonce) begun.size
          (sym (ap (λ (tag : TagRecord). tag.octets) one))
      | inr other ↦ other_label (ap (λ (tag : TagRecord). tag.label) other)
    ]

-- the MAC_P that the server accepted is none of the tags that it made itself
pub server_not_own : (setup : ServerSetup) (s : server.Login) → PskChecked setup s
    → length setup.nonce ≡ 32 → (id : ℕ)
    → IsIn (psk_server_stands.psk2_record s) (server.psk3_records s id) → ⊥
unfolding server.mac_p_covers server.mac_s_covers
server_not_own setup s checked nonce id is_in =
    elim (among_two _ _ _ is_in) [
      | inl one ↦ covers_more s.id_p s.own.id_s (rand_of s.nonce) s.rand_p
          (front_size s.nonce (omega (arith, ap length checked.nonce, nonce)))
          (ap (λ (tag : TagRecord). tag.octets) one)
      | inr other ↦ other_label (ap (λ (tag : TagRecord). tag.label) other)
    ]

-- only a user who is not barred is sent a success
pub not_barred : (barred : Bool) (r : ℕ) → r ≡ server.r_for barred → r ≡ 2 → barred ≡ false
not_barred true r is_sent is_success = absurd (omega arith)
not_barred false r is_sent is_success = refl

psk_method_reported : (m : Method) (view : View m) (login : peer.Login)
    → psk_of m view ≡ peer.over login true → report m view ≡ Some (peer.report_of login)
psk_method_reported by_psk view login in_view = ap peer.report in_view
psk_method_reported by_gpsk view login in_view = absurd cc
psk_method_reported (by_other custom) view login in_view = absurd cc

psk_reported : (found : Option PeerShown) (login : peer.Login)
    → psk_shown found ≡ peer.over login true → reported found ≡ Some (peer.report_of login)
unfolding peer_report
psk_reported None login in_view = absurd cc
psk_reported (Some s) login in_view = psk_method_reported s.method s.view login in_view

pub peer_reported : (views : PeerViews) (login : peer.Login) → psk_in views ≡ peer.over login true
    → peer_report_of psk_kind views ≡ Some (peer.report_of login)
unfolding peer_report_of
peer_reported views login in_view = psk_reported (views psk_kind) login in_view

server_method_reported : (m : servers.Method) (view : servers.View m) (login : server.Login)
    → at_server.psk_of m view ≡ Some (server.over login true)
    → servers.report m view ≡ Some (server.report_of login)
server_method_reported servers.by_psk view login in_view = ap server.report (same_Some _ _ in_view)
server_method_reported servers.by_gpsk view login in_view = absurd cc
server_method_reported (servers.by_other custom) view login in_view = absurd cc

server_psk_reported : (found : Option servers.ServerShown) (login : server.Login)
    → at_server.psk_shown found ≡ Some (server.over login true)
    → servers.reported found ≡ Some (server.report_of login)
unfolding servers.server_report
server_psk_reported None login in_view = absurd cc
server_psk_reported (Some s) login in_view = server_method_reported s.method s.view login in_view

pub server_reported : (views : ServerViews) (login : server.Login)
    → psk_at views ≡ Some (server.over login true)
    → server_report_of psk_kind views ≡ Some (server.report_of login)
unfolding server_report_of
server_reported views login in_view = server_psk_reported (views psk_kind) login in_view

module _ (peer_setup : PeerSetup) (server_setup : ServerSetup) (p : peer.Login)
    (begun : PskStarted peer_setup p) (s : server.Login) (checked : PskChecked server_setup s)
    (peer_nonce : length peer_setup.nonce ≡ 32)
    (server_nonce : length server_setup.nonce ≡ 32) where
  -- the MAC_P that the server accepted is one that the peer made, the MAC_S that the peer accepted
  -- one that the server made
  pub same_login : (peer_id server_id : ℕ)
      → IsIn (psk_server_stands.psk2_record s)
      (psk_peer_stands.psk2_record p ∷ peer.psk4_record p peer_id 2)
      → IsIn (ak_record p.cred.psk (peer.mac_s_covers p)
      (peer.mac_s_of p)) (server.psk3_records s server_id) → IsSame p s
  same_login peer_id server_id first second =
      elim (among_two _ _ _ first) [
        | inl one ↦ elim (among_two _ _ _ second) [
          | inl other ↦ covers_same p s
              (front_size p.nonce (omega (arith, ap length begun.nonce, peer_nonce))) checked.size
              begun.size (front_size s.nonce (omega (arith, ap length checked.nonce, server_nonce)))
              (sym (ap (λ (tag : TagRecord). tag.psk) one)) (ap (λ (tag : TagRecord). tag.octets)
              one) (ap (λ (tag : TagRecord). tag.octets) other)
          | inr other ↦ absurd (other_label (ap (λ (tag : TagRecord). tag.label) other))
        ]
        | inr one ↦ absurd (other_label (ap (λ (tag : TagRecord). tag.label) one))
      ]

-- what both report is one and the same, and their own: names and key
module _ (setup : Setup) (login : peer.Login) (facts : PskStarted setup.peer login)
    (other : server.Login) (checked : PskChecked setup.server other) (r_sent : other.r ≡ 2)
    (same : IsSame login other) where
  server_name : login.id_s ≡ setup.server.name
  unfolding side_of
  server_name = same.id_s ∙ ap (λ own. own.id_s) checked.own

  pub psk_agree : (one theirs : Option Report) → one ≡ Some (peer.report_of login)
      → theirs ≡ Some (server.report_of other) → Agrees setup one theirs
  unfolding peer.report_of
  psk_agree one theirs is are =
      let name : login.cred.id_p ≡ setup.peer.name =
      own_name setup.peer psk_kind login.cred facts.cred in
      record {
        report = peer.report_of login;
        reported = is;
        same = are ∙ ap Some (sym (same_reports login other same));
        id_p = name;
        id_s = server_name;
        user = checked.user;
        known = ap (λ (id : List ℕ). user_of setup.server.users id psk_kind) (sym name ∙ same.id_p)
            ∙ checked.known;
        key = sym checked.key ∙ (sym same.psk ∙ own_key setup.peer psk_kind login.cred facts.cred);
        welcome = not_barred checked.user.barred other.r checked.r r_sent;
        allowed = facts.allowed;
        ordered = checked.ordered;
        accepted = facts.accepted;
        allowed_suite = λ (e : psk_kind ≡ gpsk_kind). absurd (omega (arith, e));
        ordered_suite = λ (e : psk_kind ≡ gpsk_kind). absurd (omega (arith, e));
        first_suite = λ (e : psk_kind ≡ gpsk_kind). absurd (omega (arith, e));
      }
