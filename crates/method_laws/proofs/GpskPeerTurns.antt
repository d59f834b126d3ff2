-- Each turn of a peer's method EAP-GPSK: of what came it holds RAND_Server alone, it answers the
-- Request, and its view tells the tags.
use Rattle.std.proofs.Common.{◌≡◌, ℕ, List, [], ◌∷◌, ◌++◌, true, false, Some, None, Ok, refl, sym}
use Rattle.std.proofs.Common.{ap, ◌∙◌, subst, arith, inl, inr}
use Rattle.login_setup.specs.declared.setup.PeerSetup.{PeerSetup}
use Rattle.octet_lists.specs.declared.suite.Suite.{Suite}
use Rattle.octet_lists.specs.Among.{gpsk_kind}
use Rattle.login_setup.specs.Setup.{accepts_name}
use Rattle.gpsk_messages.specs.Message.{Message, gpsk1, gpsk3, protected_fail, covered_of}
use Rattle.gpsk_messages.specs.Reading as gpsk_reading
use Rattle.login_keys.specs.Gpsk.{gpsk_tag_of}
use Rattle.login_policy.specs.Policy.{picked_suite}
use Rattle.eap_method.specs.declared.tags.TagRecord.{TagRecord}
use Rattle.eap_method.specs.declared.values.Credential.{Credential}
use Rattle.eap_method.specs.GpskPeer as gpsk
use Rattle.eap_method.specs.GpskTags.{sk_record}
use Rattle.eap_method.specs.Peer.{credential_for}
use Rattle.eap_method.specs.Turns.{PeerOutcome, body_of, id_of}
use Rattle.method_laws.specs.GpskPeerRows as gpsk_row
use Rattle.method_laws.specs.GpskPeerInvariant.{GpskPeerTags, gpsk_unset, gpsk_fresh, gpsk_waits}
use Rattle.method_laws.specs.GpskPeerInvariant.{gpsk_confirmed, gpsk_failed, gpsk_barred}
use Rattle.method_laws.specs.GpskPeerInvariant.{gpsk2_record, gpsk3_of_login, gpsk_rand_s}
use Rattle.method_laws.specs.Records.{AreFew, IsIn}
use Rattle.method_laws.proofs.Among.{among_one, among_two}
use Rattle.method_laws.proofs.GpskFields.{read_rands}
use Rattle.method_laws.proofs.GpskNonces.{read_occurs}
use Rattle.method_laws.proofs.Receiving.{Receives, as_before, receives_now}
use Rattle.method_laws.proofs.PeerTurns.{Answers, Turned, discards_none, drops, replies}
use Rattle.method_laws.proofs.PeerTurns.{replies_one}
use Rattle.method_laws.proofs.Occurrence.{front_within}

-- ---- the nonce

module _ (octets : List ℕ) where
  pub gpsk_from_sender : (view : gpsk.View) (out : PeerOutcome gpsk.View)
      → gpsk_row.GpskPeerRow view octets out
      → Receives (Some (body_of octets)) (gpsk_rand_s view) (gpsk_rand_s out.after)
  gpsk_from_sender view _ (gpsk_row.drops c) = as_before refl
  gpsk_from_sender view _
      (gpsk_row.answers cred nonce id_s rand_s list suite in_view is_read is_accepted picked) =
      receives_now (body_of octets) _ refl refl
      (front_within 16 rand_s (body_of octets) (read_occurs _ (body_of octets) _ is_read))
  gpsk_from_sender view _ (gpsk_row.confirms login _ _ _ _ _ _ in_view _ _ _ _ _ _ _ _) =
      as_before (sym (ap gpsk_rand_s in_view))
  gpsk_from_sender view _ (gpsk_row.repeats_fail login _ in_view _) =
      as_before (sym (ap gpsk_rand_s in_view))
  gpsk_from_sender view _ (gpsk_row.repeats_protected login _ _ in_view _ _ _) =
      as_before (sym (ap gpsk_rand_s in_view))

-- a view that has made no tag holds none
pub gpsk_none : (setup : PeerSetup) (view : gpsk.View) (accepted made : List TagRecord)
    → GpskPeerTags setup view accepted made → made ≡ [] → gpsk_rand_s view ≡ None
gpsk_none setup _ _ _ gpsk_unset e = refl
gpsk_none setup _ _ _ (gpsk_fresh allowed) e = refl
gpsk_none setup _ _ _ (gpsk_waits login list facts) e = absurd cc
gpsk_none setup _ _ _ (gpsk_confirmed login list pd facts) e = absurd cc
gpsk_none setup _ _ _ (gpsk_failed login list facts) e = absurd cc
gpsk_none setup _ _ _ (gpsk_barred login list code facts) e = absurd cc

-- ---- the Response

pub gpsk_responds : (view : gpsk.View) (bytes : List ℕ) (out : PeerOutcome gpsk.View)
    → gpsk_row.GpskPeerRow view bytes out → Answers (id_of bytes) out.turn
gpsk_responds view bytes _ (gpsk_row.drops c) = discards_none _ c
gpsk_responds view bytes _ (gpsk_row.answers _ _ _ _ _ _ _ _ _ _) = replies_one _ _ _ _ _ _
gpsk_responds view bytes _ (gpsk_row.confirms _ _ _ _ _ _ _ _ _ _ _ _ _ _ _ _) =
    replies_one _ _ _ _ _ _
gpsk_responds view bytes _ (gpsk_row.repeats_fail _ _ _ _) = replies_one _ _ _ _ _ _
gpsk_responds view bytes _ (gpsk_row.repeats_protected _ _ _ _ _ _ _) = replies_one _ _ _ _ _ _

-- ---- the tags

module _ (setup : PeerSetup) (accepted made : List TagRecord) where
  abbrev pub GpskTurned : PeerOutcome gpsk.View → Type 0
  GpskTurned out = Turned gpsk.View (GpskPeerTags setup)
      (λ view. (login : gpsk.Login) × (view ≡ gpsk.over login true)) accepted made out

  at_gpsk : (view seen : gpsk.View) → view ≡ seen → GpskPeerTags setup view accepted made
      → GpskPeerTags setup seen accepted made
  at_gpsk view seen in_view told =
      subst (λ (v : gpsk.View). GpskPeerTags setup v accepted made) in_view told

module _ (setup : PeerSetup) where
  gpsk_answers : (cred : Credential) (nonce id_s rand_s list body : List ℕ) (suite : Suite)
      (accepted made : List TagRecord)
      → GpskPeerTags setup (gpsk.fresh cred nonce) accepted made
      → gpsk_reading.read_of None body ≡ Ok (gpsk1 id_s rand_s list)
      → accepts_name cred.accepts id_s ≡ true → picked_suite cred.suites list ≡ Some suite
      → (let login = gpsk_row.login_from cred nonce id_s rand_s suite in
      GpskPeerTags setup (gpsk.wait login) (accepted ++ []) (made ++ gpsk2_record login list ∷ []))
  unfolding credential_for
  gpsk_answers _ _ id_s rand_s list body suite _ _ (gpsk_fresh allowed)
      is_read is_accepted is_picked =
      gpsk_waits _ list
      (record {
        allowed = allowed;
        cred = refl;
        nonce = refl;
        accepted = is_accepted;
        picked = is_picked;
        size = read_rands None body _ is_read;
      })

  module _ (login : gpsk.Login) where
    gpsk_confirms : (pd mac : List ℕ) (message : Message) (accepted made : List TagRecord)
        → GpskPeerTags setup (gpsk.wait login) accepted made
        → gpsk_tag_of login.suite (gpsk.keys_of login).sk (covered_of message) ≡ mac
        → gpsk3 login.nonce login.rand_s login.id_s login.suite pd mac ≡ message
        → GpskPeerTags setup (gpsk.over login true)
        (accepted ++ sk_record login.cred.psk message ∷ [])
        (made ++ sk_record login.cred.psk (gpsk.gpsk4_of login) ∷ [])
    unfolding covered_of
    gpsk_confirms pd mac message _ _ (gpsk_waits _ list facts) has_mac same =
        (let right =
        ap (λ (m : Message). gpsk_tag_of login.suite (gpsk.keys_of login).sk (covered_of m)) same
        ∙ has_mac in
        let taken : gpsk3_of_login login pd ≡ message = ap (λ (t : List ℕ).
        gpsk3 login.nonce login.rand_s login.id_s login.suite pd t) right ∙ same in
        subst (λ (m : Message). GpskPeerTags setup (gpsk.over login true)
        (sk_record login.cred.psk m ∷ [])
        (gpsk2_record login list ∷ sk_record login.cred.psk (gpsk.gpsk4_of login) ∷ []))
        taken (gpsk_confirmed login list pd facts))

    gpsk_fails : (accepted made : List TagRecord)
        → GpskPeerTags setup (gpsk.wait login) accepted made
        → GpskPeerTags setup (gpsk.over login false) (accepted ++ []) (made ++ [])
    gpsk_fails _ _ (gpsk_waits _ list facts) = gpsk_failed login list facts

    gpsk_bars : (code : ℕ) (mac : List ℕ) (accepted made : List TagRecord)
        → GpskPeerTags setup (gpsk.wait login) accepted made
        → gpsk_tag_of login.suite (gpsk.keys_of login).sk (covered_of (protected_fail code mac))
        ≡ mac
        → GpskPeerTags setup (gpsk.over login false)
        (accepted ++ sk_record login.cred.psk (protected_fail code mac) ∷ [])
        (made ++ sk_record login.cred.psk (gpsk.protected_fail_of login code) ∷ [])
    unfolding covered_of
    gpsk_bars code mac _ _ (gpsk_waits _ list facts) has_mac =
        subst (λ (t : List ℕ). GpskPeerTags setup (gpsk.over login false)
        (sk_record login.cred.psk (protected_fail code t) ∷ [])
        (gpsk2_record login list
        ∷ sk_record login.cred.psk (gpsk.protected_fail_of login code) ∷ []))
        has_mac (gpsk_barred login list code facts)

  module _ (octets : List ℕ) (accepted made : List TagRecord) where
    pub gpsk_turned : (view : gpsk.View) (out : PeerOutcome gpsk.View)
        → GpskPeerTags setup view accepted made → gpsk_row.GpskPeerRow view octets out
        → GpskTurned setup accepted made out
    gpsk_turned view _ told (gpsk_row.drops c) = drops view c
    gpsk_turned view _ told
        (gpsk_row.answers cred nonce id_s rand_s list suite in_view is_read is_accepted picked) =
        replies _ _ _ _ _
        (gpsk_answers cred nonce id_s rand_s list _ suite accepted made
        (at_gpsk setup accepted made view _ in_view told)
        is_read is_accepted picked)
        (λ sure. absurd (sure refl))
    gpsk_turned view _ told (gpsk_row.confirms login rand_p rand_s id_s suite pd mac in_view _ _
        setup_with_nonce their_nonce their_name one_suite _ has_mac) =
        replies _ _ _ _ _
        (gpsk_confirms login pd mac (gpsk3 rand_p rand_s id_s suite pd mac) accepted made
        (at_gpsk setup accepted made view _ in_view told) has_mac cc)
        (λ _. (login, refl))
    gpsk_turned view _ told (gpsk_row.repeats_fail login code in_view _) =
        replies _ _ _ _ _
        (gpsk_fails login accepted made (at_gpsk setup accepted made view _ in_view told))
        (λ sure. absurd (sure refl))
    gpsk_turned view _ told (gpsk_row.repeats_protected login code mac in_view _ _ has_mac) =
        replies _ _ _ _ _ (gpsk_bars login code mac accepted made
        (at_gpsk setup accepted made view _ in_view told) has_mac)
        (λ sure. absurd (sure refl))

-- at most two are accepted and at most two made
pub gpsk_few : (setup : PeerSetup) (view : gpsk.View) (accepted made : List TagRecord)
    → GpskPeerTags setup view accepted made → AreFew accepted made
gpsk_few setup _ _ _ gpsk_unset = record { few_accepted = omega arith; few_produced = omega arith }
gpsk_few setup _ _ _ told = record { few_accepted = omega arith; few_produced = omega arith }

-- each is of the method
pub gpsk_method : (setup : PeerSetup) (view : gpsk.View) (accepted made : List TagRecord)
    (t : TagRecord) → GpskPeerTags setup view accepted made → IsIn t made
    → t.method ≡ gpsk_kind
gpsk_method setup _ _ _ t gpsk_unset is = elim is [ ]
gpsk_method setup _ _ _ t (gpsk_fresh allowed) is = elim is [ ]
gpsk_method setup _ _ _ t (gpsk_waits login list facts) is =
    ap (λ (r : TagRecord). r.method) (among_one _ _ is)
gpsk_method setup _ _ _ t (gpsk_confirmed login list pd facts) is =
    elim (among_two _ _ _ is) [
      | inl e ↦ ap (λ (r : TagRecord). r.method) e
      | inr e ↦ ap (λ (r : TagRecord). r.method) e
    ]
gpsk_method setup _ _ _ t (gpsk_failed login list facts) is =
    ap (λ (r : TagRecord). r.method) (among_one _ _ is)
gpsk_method setup _ _ _ t (gpsk_barred login list code facts) is =
    elim (among_two _ _ _ is) [
      | inl e ↦ ap (λ (r : TagRecord). r.method) e
      | inr e ↦ ap (λ (r : TagRecord). r.method) e
    ]
