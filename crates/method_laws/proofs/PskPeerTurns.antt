-- Each turn of a peer's method EAP-PSK: of what came it holds RAND_S alone, it answers the Request,
-- and its view tells the tags.
use Rattle.std.proofs.Common.{◌≡◌, ℕ, List, [], ◌∷◌, ◌++◌, Bool, true, false, Some, None, Ok, refl}
use Rattle.std.proofs.Common.{sym, ap, subst, arith, inl, inr}
use Rattle.login_setup.specs.declared.setup.PeerSetup.{PeerSetup}
use Rattle.octet_lists.specs.Among.{psk_kind}
use Rattle.login_setup.specs.Setup.{accepts_name}
use Rattle.psk_messages.specs.Message.{psk1}
use Rattle.psk_messages.specs.Reading as psk_reading
use Rattle.eax_mode.specs.Eax.{eax_tag}
use Rattle.eap_method.specs.declared.tags.TagRecord.{TagRecord}
use Rattle.eap_method.specs.declared.values.Credential.{Credential}
use Rattle.eap_method.specs.Peer.{credential_for}
use Rattle.eap_method.specs.PskPeer as psk
use Rattle.eap_method.specs.PskTags.{channel_nonce}
use Rattle.eap_method.specs.Turns.{PeerOutcome, body_of, id_of}
use Rattle.method_laws.specs.PskPeerRows as psk_row
use Rattle.method_laws.specs.PskPeerInvariant.{PskPeerTags, psk_unset, psk_fresh, psk_waits}
use Rattle.method_laws.specs.PskPeerInvariant.{psk_over, psk2_record, psk3_records_of, psk_rand_s}
use Rattle.method_laws.specs.PskPeerInvariant.{result_for}
use Rattle.method_laws.specs.Records.{AreFew, IsIn}
use Rattle.method_laws.proofs.Among.{among_one, among_two}
use Rattle.method_laws.proofs.Receiving.{Receives, as_before, receives_now}
use Rattle.method_laws.proofs.PeerTurns.{Answers, Turned, discards_none, drops, replies}
use Rattle.method_laws.proofs.PeerTurns.{replies_one}
use Rattle.method_laws.proofs.PskFields.{read_rand}
use Rattle.method_laws.proofs.PskNonces.{read_occurs}

-- ---- the nonce

module _ (octets : List ℕ) where
  pub psk_from_sender : (view : psk.View) (out : PeerOutcome psk.View)
      → psk_row.PskPeerRow view octets out
      → Receives (Some (body_of octets)) (psk_rand_s view) (psk_rand_s out.after)
  psk_from_sender view _ (psk_row.drops c) = as_before refl
  psk_from_sender view _ (psk_row.answers cred nonce rand_s id_s in_view is_read is_accepted) =
      receives_now (body_of octets) rand_s refl refl (read_occurs (body_of octets) _ is_read)
  psk_from_sender view _ (psk_row.confirms_success login _ _ _ _ _ in_view _ _ _ _ _ _ _ _ _) =
      as_before (sym (ap psk_rand_s in_view))
  psk_from_sender view _ (psk_row.confirms_failure login _ _ _ _ _ in_view _ _ _ _ _ _ _ _ _ _ _) =
      as_before (sym (ap psk_rand_s in_view))

-- a view that has made no tag holds none
pub psk_none : (setup : PeerSetup) (view : psk.View) (accepted made : List TagRecord)
    → PskPeerTags setup view accepted made → made ≡ [] → psk_rand_s view ≡ None
psk_none setup _ _ _ psk_unset e = refl
psk_none setup _ _ _ (psk_fresh allowed) e = refl
psk_none setup _ _ _ (psk_waits login facts) e = absurd cc
psk_none setup _ _ _ (psk_over login good header sealed id facts) e = absurd cc

-- ---- the Response

pub psk_responds : (view : psk.View) (bytes : List ℕ) (out : PeerOutcome psk.View)
    → psk_row.PskPeerRow view bytes out → Answers (id_of bytes) out.turn
psk_responds view bytes _ (psk_row.drops c) = discards_none _ c
psk_responds view bytes _ (psk_row.answers _ _ _ _ _ _ _) = replies_one _ _ _ _ _ _
psk_responds view bytes _ (psk_row.confirms_success _ _ _ _ _ _ _ _ _ _ _ _ _ _ _ _) =
    replies_one _ _ _ _ _ _
psk_responds view bytes _ (psk_row.confirms_failure _ _ _ _ _ _ _ _ _ _ _ _ _ _ _ _ _ _) =
    replies_one _ _ _ _ _ _

-- ---- the tags

module _ (setup : PeerSetup) (accepted made : List TagRecord) where
  abbrev pub PskTurned : PeerOutcome psk.View → Type 0
  PskTurned out = Turned psk.View (PskPeerTags setup)
      (λ view. (login : psk.Login) × (view ≡ psk.over login true)) accepted made out

  at_psk : (view seen : psk.View) → view ≡ seen → PskPeerTags setup view accepted made
      → PskPeerTags setup seen accepted made
  at_psk view seen in_view told =
      subst (λ (v : psk.View). PskPeerTags setup v accepted made) in_view told

module _ (setup : PeerSetup) where
  psk_answers : (cred : Credential) (nonce rand_s id_s body : List ℕ)
      (accepted made : List TagRecord) → PskPeerTags setup (psk.fresh cred nonce) accepted made
      → psk_reading.read_of body ≡ Ok (psk1 rand_s id_s) → accepts_name cred.accepts id_s ≡ true
      → (let login = psk_row.login_from cred nonce id_s rand_s in
      PskPeerTags setup (psk.wait login) (accepted ++ []) (made ++ psk2_record login ∷ []))
  unfolding credential_for
  psk_answers _ _ rand_s id_s body _ _ (psk_fresh allowed) is_read is_accepted =
      psk_waits _ (record {
        allowed = allowed;
        cred = refl;
        nonce = refl;
        accepted = is_accepted;
        size = read_rand body _ is_read;
      })

  psk_confirms : (login : psk.Login) (good : Bool) (header mac tag : List ℕ) (sealed id : ℕ)
      (accepted made : List TagRecord)
      → PskPeerTags setup (psk.wait login) accepted made
      → psk.mac_s_of login ≡ mac
      → eax_tag (psk.keys_of login).tek (channel_nonce 0) header (sealed ∷ []) ≡ tag
      → PskPeerTags setup
      (psk.over login good) (accepted ++ psk.psk3_records login header mac tag sealed)
      (made ++ psk.psk4_record login id (result_for good))
  psk_confirms login good header mac tag sealed id _ _ (psk_waits _ facts) has_mac has_tag =
      (let same : psk3_records_of login header sealed
      ≡ psk.psk3_records login header mac tag sealed = rw (has_mac, has_tag) refl in
      subst (λ (taken : List TagRecord). PskPeerTags setup (psk.over login good) taken
      (psk2_record login ∷ psk.psk4_record login id (result_for good)))
      same (psk_over login good header sealed id facts))

  module _ (octets : List ℕ) (accepted made : List TagRecord) where
    pub psk_turned : (view : psk.View) (out : PeerOutcome psk.View)
        → PskPeerTags setup view accepted made → psk_row.PskPeerRow view octets out
        → PskTurned setup accepted made out
    psk_turned view _ told (psk_row.drops c) = drops view c
    psk_turned view _ told (psk_row.answers cred nonce rand_s id_s in_view is_read is_accepted) =
        replies _ _ _ _ _
        (psk_answers cred nonce rand_s id_s _ accepted made
        (at_psk setup accepted made view _ in_view told) is_read is_accepted)
        (λ sure. absurd (sure refl))
    psk_turned view _ told
        (psk_row.confirms_success login _ mac _ tag sealed in_view _ _ _ _ has_mac _ has_tag _ _) =
        replies _ _ _ _ _
        (psk_confirms login true _ mac tag sealed _ accepted made
        (at_psk setup accepted made view _ in_view told) has_mac has_tag)
        (λ _. (login, refl))
    psk_turned view _ told (psk_row.confirms_failure login _ mac _ tag sealed in_view _ _ _ _
        has_mac _ has_tag _ _ _ _) =
        replies _ _ _ _ _
        (psk_confirms login false _ mac tag sealed _ accepted made
        (at_psk setup accepted made view _ in_view told) has_mac has_tag)
        (λ sure. absurd (sure refl))

-- at most two are accepted and at most two made
pub psk_few : (setup : PeerSetup) (view : psk.View) (accepted made : List TagRecord)
    → PskPeerTags setup view accepted made → AreFew accepted made
psk_few setup _ _ _ psk_unset = record { few_accepted = omega arith; few_produced = omega arith }
psk_few setup _ _ _ told = record { few_accepted = omega arith; few_produced = omega arith }

-- each is of the method
pub psk_method : (setup : PeerSetup) (view : psk.View) (accepted made : List TagRecord)
    (t : TagRecord) → PskPeerTags setup view accepted made → IsIn t made
    → t.method ≡ psk_kind
psk_method setup _ _ _ t psk_unset is = elim is [ ]
psk_method setup _ _ _ t (psk_fresh allowed) is = elim is [ ]
psk_method setup _ _ _ t (psk_waits login facts) is =
    ap (λ (r : TagRecord). r.method) (among_one _ _ is)
psk_method setup _ _ _ t (psk_over login good header sealed id facts) is =
    elim (among_two _ _ _ is) [
      | inl e ↦ ap (λ (r : TagRecord). r.method) e
      | inr e ↦ ap (λ (r : TagRecord). r.method) e
    ]
