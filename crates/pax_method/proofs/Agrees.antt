-- Two ends of EAP-PAX that have succeeded agree: the first tag that the server accepted covers A, B
-- and CID, and only the peer can have made it.
use Rattle.std.proofs.Common.{◌≡◌, ℕ, List, [], ◌∷◌, length, true, Some}
use Rattle.std.proofs.Common.{refl, sym, ap, subst, ◌∙◌, arith, inl, inr}
use Rattle.std.proofs.lemmas.List.{length-append}
use Rattle.login_setup.specs.Setup.{ServerSetup}
use Rattle.login_setup.specs.Users.{user_of}
use Rattle.login_setup.specs.declared.setup.PeerSetup.{PeerSetup}
use Rattle.login_setup.specs.declared.setup.Setup.{Setup}
use Rattle.octet_lists.specs.Among.{gpsk_kind}
use Rattle.eap_method.specs.declared.tags.Label.TheVariants.{Ak, Tek}
use Rattle.eap_method.specs.declared.tags.TagRecord.{TagRecord}
use Rattle.eap_method.specs.Peer as peer
use Rattle.eap_method.specs.Peer.{peer_report}
use Rattle.eap_method.specs.Server as server
use Rattle.eap_method.specs.Server.{server_report}
use Rattle.method_laws.specs.Agreeing.{Agrees}
use Rattle.method_laws.specs.Records.{FirstInEither, IsIn, here, later}
use Rattle.method_laws.proofs.Among.{among_two}
use Rattle.pax_method.specs.Agreement.{PaxAgrees}
use Rattle.pax_method.specs.Messages.{joined, peer_joined, login_in, ck_record, ick_record, mac_2}
use Rattle.pax_method.specs.Messages.{std_2_of, ack_of}
use Rattle.pax_method.specs.Packets.{pax_kind}
use Rattle.pax_method.specs.PaxPeer.{pax_peer, report_of}
use Rattle.pax_method.specs.PaxPeer as pax_peer
use Rattle.pax_method.specs.PaxServer.{pax_server}
use Rattle.pax_method.specs.PaxServer as pax_server
use Rattle.pax_method.specs.PeerTags as peer_tags
use Rattle.pax_method.specs.PeerTags.{PeerTags, PeerSucceeds}
use Rattle.pax_method.specs.ServerTags as server_tags
use Rattle.pax_method.specs.ServerTags.{ServerTags, ServerSucceeds, std_3_records}
use Rattle.pax_method.specs.declared.login.Login.{Login}
use Rattle.pax_method.specs.declared.peer.Phase.TheVariants as peer_phase
use Rattle.pax_method.specs.declared.server.Phase.TheVariants as server_phase
use Rattle.pax_method.proofs.PeerImplied.{peer_implied}
use Rattle.pax_method.proofs.ServerImplied.{server_implied}
use Rattle.pax_method.proofs.Steps.{login_is_in}

-- ---- which record it is

other_label : {A : Type 0} → Ak ≡ Tek → A
other_label e = absurd cc

-- the record of a MAC under CK, among those that the peer made
only_first : (ak octets tag own other sent last : List ℕ) (mac_ck : List ℕ)
    → IsIn (ck_record ak octets tag)
    (ck_record own other mac_ck ∷ ick_record own sent ∷ ick_record own last ∷ [])
    → ck_record ak octets tag ≡ ck_record own other mac_ck
only_first ak octets tag own other sent last mac_ck (here rest) = refl
only_first ak octets tag own other sent last mac_ck (later first rest is) =
    elim (among_two _ _ _ is) [
      | inl e ↦ other_label (ap (λ (t : TagRecord). t.label) e)
      | inr e ↦ other_label (ap (λ (t : TagRecord). t.label) e)
    ]

-- the server's own MAC covers fewer octets
shorter : {A : Type 0} (login : Login) → length login.a ≡ 32 → joined login ≡ peer_joined login → A
shorter login size same = absurd (omega (
  arith,
  ap length same,
  length-append login.a (peer_joined login),
  size,
))

not_own : {A : Type 0} (ak : List ℕ) (login : Login) (id : ℕ) (mac_ck : List ℕ)
    → length login.a ≡ 32
    → IsIn (ck_record ak (joined login) mac_ck) (std_3_records ak login id) → A
not_own ak login id mac_ck size is = elim (among_two _ _ _ is) [
  | inl e ↦ shorter login size (ap (λ (t : TagRecord). t.octets) e)
  | inr e ↦ other_label (ap (λ (t : TagRecord). t.label) e)
]

-- ---- what both succeed with

pub record PeerSide (setup : PeerSetup) (ak name state : List ℕ) (made : List TagRecord)
    : Type 0 where
  pub login : Login
  pub of_settings : peer_tags.IsOfSettings setup name login
  pub in_state : state ≡ pax_peer.state_of peer_phase.Over login
  pub id : ℕ
  pub last : ℕ
  pub records : made ≡ ck_record ak (joined login) (mac_2 ak login)
      ∷ ick_record ak (std_2_of ak login id) ∷ ick_record ak (ack_of ak login last) ∷ []

pub record ServerSide (setup : ServerSetup) (ak name state : List ℕ)
    (accepted made : List TagRecord)
    : Type 0 where
  pub login : Login
  pub checked : server_tags.IsChecked setup name login
  pub in_state : state ≡ pax_server.state_of server_phase.Over login
  pub id : ℕ
  pub mac_ck : List ℕ
  pub rest : List TagRecord
  pub first_accepted : accepted ≡ ck_record ak (joined login) mac_ck ∷ rest
  pub records : made ≡ std_3_records ak login id

clash : {A : Type 0} (one other : ℕ) (rest more : List ℕ) → (one ≡ other → ⊥)
    → ◌≡◌ {A = List ℕ} (one ∷ rest) (other ∷ more) → A
clash one other rest more apart same = let e : one ≡ other = cc same in absurd (apart e)

none : {A : Type 0} (one : ℕ) (rest : List ℕ) → ◌≡◌ {A = List ℕ} [] (one ∷ rest) → A
none one rest same = absurd cc

peer_side : (setup : PeerSetup) (ak name state : List ℕ) (accepted made : List TagRecord)
    → PeerTags setup ak name state accepted made → PeerSucceeds state
    → PeerSide setup ak name state made
peer_side setup ak name _ _ _ peer_tags.unset_tags won = none 2 (joined won.0) won.1
peer_side setup ak name _ _ _ (peer_tags.initial_tags of_settings) won =
    clash 0 2 _ (joined won.0) (λ e. absurd (omega (arith, e))) won.1
peer_side setup ak name _ _ _ (peer_tags.waiting_tags login id of_settings) won =
    clash 1 2 _ (joined won.0) (λ e. absurd (omega (arith, e))) won.1
peer_side setup ak name _ _ _ (peer_tags.over_tags login id last octets mac_ck of_settings) won =
    record {
      login = login;
      of_settings = of_settings;
      in_state = refl;
      id = id;
      last = last;
      records = refl;
    }

server_side : (setup : ServerSetup) (ak name state : List ℕ) (accepted made : List TagRecord)
    → ServerTags setup ak name state accepted made → ServerSucceeds state
    → ServerSide setup ak name state accepted made
server_side setup ak name _ _ _ server_tags.unset_tags won = none 4 (joined won.0) won.1
server_side setup ak name _ _ _ (server_tags.asked_tags of_settings) won =
    clash 2 4 _ (joined won.0) (λ e. absurd (omega (arith, e))) won.1
server_side setup ak name _ _ _ (server_tags.checked_tags login id octets mac_ck checked) won =
    clash 3 4 _ (joined won.0) (λ e. absurd (omega (arith, e))) won.1
server_side setup ak name _ _ _ (server_tags.over_tags login id octets mac_ck last checked) won =
    record {
      login = login;
      checked = checked;
      in_state = refl;
      id = id;
      mac_ck = mac_ck;
      rest = _;
      first_accepted = refl;
      records = refl;
    }

-- ---- they agree

module _ (setup : Setup) (ak other name : List ℕ) (peer_sized : length setup.peer.nonce ≡ 32)
    (server_sized : length setup.server.nonce ≡ 32) where
  module _ (peer_state server_state : List ℕ) (made server_accepted server_made : List TagRecord)
      (one : PeerSide setup.peer ak name peer_state made)
      (two : ServerSide setup.server other name server_state server_accepted server_made)
      (of_server : FirstInEither server_accepted made server_made) where
    a_size : length two.login.a ≡ 32
    a_size = ap length two.checked.of_settings.a ∙ server_sized

    b_size : length one.login.b ≡ 32
    b_size = ap length one.of_settings.b ∙ peer_sized

    same_record : ck_record other (joined two.login) two.mac_ck
        ≡ ck_record ak (joined one.login) (mac_2 ak one.login)
    same_record = elim (of_server.is _ two.rest two.first_accepted) [
      | inl is ↦ only_first other (joined two.login) two.mac_ck ak (joined one.login)
          (std_2_of ak one.login one.id) (ack_of ak one.login one.last) (mac_2 ak one.login)
          (subst (IsIn (ck_record other (joined two.login) two.mac_ck)) one.records is)
      | inr is ↦ not_own other two.login two.id two.mac_ck a_size
          (subst (IsIn (ck_record other (joined two.login) two.mac_ck)) two.records is)
    ]

    same_ak : other ≡ ak
    same_ak = ap (λ (t : TagRecord). t.psk) same_record

    same_login : two.login ≡ one.login
    same_login =
        sym (login_is_in two.login a_size two.checked.of_settings.size)
        ∙ ap login_in (ap (λ (t : TagRecord). t.octets) same_record)
        ∙ login_is_in one.login one.of_settings.size b_size

    peer_reports : peer_report (peer.other (pax_peer ak name) peer_state)
        ≡ Some (report_of ak name one.login)
    unfolding peer_report pax_peer.report
    peer_reports =
        ap (pax_peer.report ak name) one.in_state
        ∙ ap (λ (l : Login). Some (report_of ak name l))
        (login_is_in one.login one.of_settings.size b_size)

    server_reports : server_report (server.other (pax_server other name) server_state)
        ≡ Some (report_of ak name one.login)
    unfolding server_report pax_server.report
    server_reports =
        ap (pax_server.report other name) two.in_state
        ∙ ap (λ (l : Login). Some (report_of other name l))
        (login_is_in two.login a_size two.checked.of_settings.size ∙ same_login)
        ∙ ap (λ key. Some (report_of key name one.login)) same_ak

    pub sides_agree : Agrees setup (peer_report (peer.other (pax_peer ak name) peer_state))
        (server_report (server.other (pax_server other name) server_state))
    unfolding report_of
    sides_agree = record {
      report = report_of ak name one.login;
      reported = peer_reports;
      same = server_reports;
      id_p = one.of_settings.cid;
      id_s = sym two.checked.of_settings.named;
      user = two.checked.user;
      known = ap (λ id. user_of setup.server.users id pax_kind)
          (sym one.of_settings.cid ∙ ap (λ (l : Login). l.cid) (sym same_login))
          ∙ two.checked.known;
      key = two.checked.keyless;
      welcome = two.checked.welcome;
      allowed = one.of_settings.allowed;
      ordered = two.checked.of_settings.ordered;
      accepted = one.of_settings.accepted;
      allowed_suite = λ (e : pax_kind ≡ gpsk_kind). absurd (omega (arith, e));
      ordered_suite = λ (e : pax_kind ≡ gpsk_kind). absurd (omega (arith, e));
      first_suite = λ (e : pax_kind ≡ gpsk_kind). absurd (omega (arith, e));
    }

pub pax_agrees : PaxAgrees
pax_agrees ak other name peer_state server_state setup last accepted made server_accepted
    server_made peer_sized server_sized peer_history sure server_history of_peer of_server =
    let p = peer_implied setup.peer ak name peer_sized peer_state last accepted made peer_history in
    let s = server_implied setup.server other name server_sized server_state true server_accepted
    server_made server_history in
    sides_agree setup ak other name peer_sized server_sized peer_state server_state made
    server_accepted server_made
    (peer_side setup.peer ak name peer_state accepted made p.tags (p.decided sure))
    (server_side setup.server other name server_state server_accepted server_made s.tags
    (s.well refl))
    of_server
