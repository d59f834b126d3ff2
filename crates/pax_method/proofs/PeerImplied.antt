-- What the history of a peer of EAP-PAX tells: its tags, and of a decision other than FAIL a
-- success.
use Rattle.std.proofs.Common.{◌≡◌, ◌≢◌, ℕ, List, [], ◌++◌, length, Bool, true, false, Option}
use Rattle.std.proofs.Common.{Some, None, refl, sym, ap, subst, ◌∙◌, arith}
use Rattle.std.specs.Prelude.{◌==◌, ◌&&◌, if◌then◌else◌, drop}
use Rattle.std.specs.List.{slice_range}
use Rattle.std.specs.Str.{bytes_eq}
use Rattle.std.proofs.lemmas.Bool.{and_parts, eqb-true}
use Rattle.std.proofs.lemmas.List.{length-drop, length-take-le}
use Rattle.login_setup.specs.Setup.{accepts_name}
use Rattle.login_setup.specs.declared.setup.PeerSetup.{PeerSetup}
use Rattle.octet_lists.specs.Among.{is_among}
use Rattle.eap_packet.specs.declared.cause.Cause.TheVariants.{BadTag}
use Rattle.eap_method.specs.declared.tags.TagRecord.{TagRecord}
use Rattle.eap_method.specs.declared.values.Decision.{Decision}
use Rattle.eap_method.specs.declared.values.Decision.TheVariants as decision
use Rattle.eap_method.specs.declared.values.MethodState.{MethodState}
use Rattle.eap_method.specs.Peer.{Custom, Method, by_psk, by_gpsk, by_other, View, kind_of, fresh}
use Rattle.eap_method.specs.Peer.{step, PeerShown, peer_step, credential_for}
use Rattle.eap_method.specs.PeerTurn.{Reply}
use Rattle.eap_method.specs.Tags.{Tags}
use Rattle.eap_method.specs.Turns.{PeerOutcome, body_of, discarded, id_of}
use Rattle.method_laws.specs.PeerHistory.{PeerHistory, initiated, responded, Implied}
use Rattle.method_laws.proofs.PeerTurns.{Turned, drops, replies, after_reply}
use Rattle.pax_method.specs.Keys.{ick_of}
use Rattle.pax_method.specs.Messages.{mac_3}
use Rattle.pax_method.specs.Packets.{pax_kind, before_icv, has_icv, read_1, read_3, std_1}
use Rattle.pax_method.specs.PaxPeer as pax
use Rattle.pax_method.specs.PaxPeer.{pax_peer, state_of}
use Rattle.pax_method.specs.PeerTags.{
  IsOfSettings,
  PeerTags,
  PeerSucceeds,
  first_login,
  std_2_records,
}
use Rattle.pax_method.specs.PeerTags.{unset_tags, initial_tags, waiting_tags, over_tags}
use Rattle.pax_method.specs.declared.login.Login.{Login}
use Rattle.pax_method.specs.declared.peer.Phase.TheVariants as phase
use Rattle.pax_method.proofs.Steps.{peer_step_initial, peer_step_waiting}

-- ---- A has 32 octets

found_where : (test : Bool) (found a : List ℕ)
    → (if test then Some found else None) ≡ Some a → (test ≡ true) × (found ≡ a)
found_where true found a is = (refl, cc is)
found_where false found a is = absurd cc is

pub read_1_sized : (body a : List ℕ) → read_1 body ≡ Some a → length a ≡ 32
unfolding read_1
read_1_sized body a is =
    let found = found_where _ (slice_range body 7 39) a is in
    let size : length body ≡ 55 = eqb-true (length body) 55 (and_parts (length body == 55)
    (bytes_eq (before_icv body) (std_1 (slice_range body 7 39))) found.0).0 in
    ap length (sym found.1)
    ∙ length-take-le 32 (drop 7 body) (omega (arith, length-drop 7 body, size))

-- ---- the turns

module _ (setup : PeerSetup) (ak server : List ℕ) (sized : length setup.nonce ≡ 32) where
  module _ (accepted made : List TagRecord) where
    abbrev PaxTurned : PeerOutcome (List ℕ) → Type 0
    PaxTurned out = Turned (List ℕ) (PeerTags setup ak server) PeerSucceeds accepted made out

    by_test : (test : Bool) (out : PeerOutcome (List ℕ)) (state : List ℕ) → PaxTurned out
        → PaxTurned (if test then out else discarded state BadTag)
    by_test true out state good = good
    by_test false out state good = drops state BadTag

  not_yet : {A : Type 0} → decision.Fail ≢ decision.Fail → A
  not_yet sure = absurd (sure refl)

  asked_turned : (login : Login) (octets : List ℕ) (found : Option (List ℕ))
      → ((a : List ℕ) → found ≡ Some a → length a ≡ 32) → IsOfSettings setup server login
      → PaxTurned [] [] (pax.asked ak (state_of phase.Initial login) login octets found)
  unfolding pax.answers
  asked_turned login octets None size of_settings = drops _ _
  asked_turned login octets (Some a) size of_settings =
      let now : Login = record { a = a; b = login.b; cid = login.cid } in
      by_test [] [] (has_icv [] octets) (pax.answers ak now (id_of octets)) _
      (replies _ _ decision.Fail _ _ (waiting_tags now (id_of octets) (record {
        allowed = of_settings.allowed;
        accepted = of_settings.accepted;
        size = size a refl;
        b = of_settings.b;
        cid = of_settings.cid;
      })) (λ sure. not_yet sure))

  confirmed_turned : (login : Login) (id : ℕ) (octets : List ℕ) (found : Option (List ℕ))
      → IsOfSettings setup server login
      → PaxTurned [] (std_2_records ak login id)
      (pax.confirmed ak (state_of phase.Waiting login) login octets found)
  unfolding pax.confirms
  confirmed_turned login id octets None of_settings = drops _ _
  confirmed_turned login id octets (Some mac_ck) of_settings =
      by_test [] (std_2_records ak login id)
      (bytes_eq (mac_3 ak login) mac_ck && has_icv (ick_of ak login) octets)
      (pax.confirms ak login octets mac_ck) _
      (replies _ _ decision.UncondSucc _ _
      (over_tags login id (id_of octets) octets mac_ck of_settings) (λ sure. (login, refl)))

  b_sized : (login : Login) → IsOfSettings setup server login → length login.b ≡ 32
  b_sized login of_settings = ap length of_settings.b ∙ sized

  pub turned : (state octets : List ℕ) (accepted made : List TagRecord)
      → PeerTags setup ak server state accepted made
      → PaxTurned accepted made (pax.step ak state octets)
  unfolding pax.step pax.turn_in
  turned _ octets _ _ unset_tags = drops _ _
  turned _ octets _ _ (initial_tags of_settings) =
      subst (λ (out : PeerOutcome (List ℕ)). PaxTurned [] [] out)
      (sym (peer_step_initial ak (first_login setup) octets of_settings.size sized))
      (asked_turned (first_login setup) octets (read_1 (body_of octets))
      (λ a is. read_1_sized (body_of octets) a is) of_settings)
  turned _ octets _ _ (waiting_tags login id of_settings) =
      subst (λ (out : PeerOutcome (List ℕ)). PaxTurned [] (std_2_records ak login id) out)
      (sym (peer_step_waiting ak login octets of_settings.size (b_sized login of_settings)))
      (confirmed_turned login id octets (read_3 (body_of octets)) of_settings)
  turned _ octets _ _ (over_tags login id last request mac_ck of_settings) = drops _ _

  -- ---- by their histories

  abbrev pub Implies : List ℕ → Decision → List TagRecord → List TagRecord → Type 0
  Implies state d accepted made =
      Implied (PeerTags setup ak server) PeerSucceeds state d accepted made

  abbrev ImpliedBy : (m : Method) → View m → Decision → List TagRecord → List TagRecord → Type 0
  ImpliedBy by_psk view d accepted made = Unit {0}
  ImpliedBy by_gpsk view d accepted made = Unit {0}
  ImpliedBy (by_other custom) view d accepted made =
      custom ≡ pax_peer ak server → Implies view d accepted made

  fresh_tags : (good : Bool) → is_among setup.methods pax_kind ≡ true
      → accepts_name setup.accepts server ≡ good
      → PeerTags setup ak server (pax.fresh_if good setup.nonce setup.name) [] []
  fresh_tags true allowed is = initial_tags (record {
    allowed = allowed;
    accepted = is;
    size = refl;
    b = refl;
    cid = refl;
  })
  fresh_tags false allowed is = unset_tags

  custom_start : (custom : Custom) → is_among setup.methods custom.kind ≡ true
      → custom ≡ pax_peer ak server
      → Implies (custom.fresh (credential_for setup custom.kind) setup.nonce) decision.Fail [] []
  unfolding credential_for
  custom_start custom allowed is =
      subst (λ (c : Custom). is_among setup.methods c.kind ≡ true
      → Implies (c.fresh (credential_for setup c.kind) setup.nonce) decision.Fail [] []) (sym is)
      (λ among. record {
        tags = fresh_tags (accepts_name setup.accepts server) among refl;
        decided = λ sure. not_yet sure;
      }) allowed

  at_start : (m : Method) → is_among setup.methods (kind_of m) ≡ true
      → ImpliedBy m (fresh m (credential_for setup (kind_of m)) setup.nonce) decision.Fail [] []
  at_start by_psk allowed = tt
  at_start by_gpsk allowed = tt
  at_start (by_other custom) allowed = custom_start custom allowed

  module _ (octets packet : List ℕ) (s : MethodState) (d last : Decision) (tags : Tags)
      (accepted made : List TagRecord) where
    pax_turn : (state : List ℕ) → Implies state last accepted made
        → (pax.step ak state octets).turn ≡ Reply packet s d tags
        → Implies (pax.step ak state octets).after d (accepted ++ tags.accepted)
        (made ++ tags.made)
    pax_turn state tells turn =
        let both = after_reply accepted made _ (turned state octets accepted made tells.tags)
        packet s d tags turn in
        record { tags = both.0; decided = both.1 }

    custom_turn : (custom : Custom) (state : List ℕ)
        → (custom ≡ pax_peer ak server → Implies state last accepted made)
        → (custom.step state octets).turn ≡ Reply packet s d tags
        → custom ≡ pax_peer ak server
        → Implies (custom.step state octets).after d (accepted ++ tags.accepted) (made ++ tags.made)
    custom_turn custom state before turn is =
        subst (λ (c : Custom). (c.step state octets).turn ≡ Reply packet s d tags
        → Implies (c.step state octets).after d (accepted ++ tags.accepted) (made ++ tags.made))
        (sym is) (pax_turn state (before is)) turn

    at_turn : (m : Method) (view : View m) → ImpliedBy m view last accepted made
        → (step m view octets).turn ≡ Reply packet s d tags
        → ImpliedBy m (step m view octets).after d (accepted ++ tags.accepted) (made ++ tags.made)
    at_turn by_psk view before turn = tt
    at_turn by_gpsk view before turn = tt
    at_turn (by_other custom) view before turn = custom_turn custom view before turn

  histories_imply : (s : PeerShown) (d : Decision) (accepted made : List TagRecord)
      → PeerHistory setup s d accepted made → ImpliedBy s.method s.view d accepted made
  unfolding peer_step
  histories_imply _ _ _ _ (initiated s allowed) = at_start s.method allowed
  histories_imply _ _ _ _
      (responded s after octets packet m d last tags accepted made before turn) =
      subst (λ (t : PeerShown).
      ImpliedBy t.method t.view d (accepted ++ tags.accepted) (made ++ tags.made))
      (ap (λ (out : PeerOutcome PeerShown). out.after) turn)
      (at_turn octets packet m d last tags accepted made s.method s.view
      (histories_imply s last accepted made before)
      (ap (λ (out : PeerOutcome PeerShown). out.turn) turn))

  pub peer_implied : (state : List ℕ) (d : Decision) (accepted made : List TagRecord)
      → PeerHistory setup (record { method = by_other (pax_peer ak server); view = state }) d
      accepted made → Implies state d accepted made
  peer_implied state d accepted made history = histories_imply _ d accepted made history refl
