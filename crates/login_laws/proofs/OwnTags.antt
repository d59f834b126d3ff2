-- The MAC of GPSK-2 covers the length of the peer's name first, that of GPSK-3 the peer's nonce.
use Rattle.std.proofs.Common.{◌≡◌, ℕ, ◌≤◌, List, [], ◌∷◌, ◌++◌, length, take, drop, Some, refl, sym, ap}
use Rattle.std.proofs.Common.{subst, ◌∙◌, arith, inl, inr, length-append, append_assoc}
use Rattle.std.proofs.Common.{take-append-drop}
use Rattle.std.proofs.lemmas.List.{length-take-le}
use Rattle.std.specs.Int.{w32, to_be_bytes}
use Rattle.login_setup.specs.declared.setup.PeerSetup.{PeerSetup}
use Rattle.octet_lists.specs.Among.{psk_kind, gpsk_kind}
use Rattle.eap_packet.specs.Packet.{two_octets}
use Rattle.gpsk_messages.specs.Message.{covered_of, field_with_length}
use Rattle.eap_method.specs.declared.tags.TagRecord.{TagRecord}
use Rattle.eap_method.specs.GpskPeer as gpsk_peer
use Rattle.eap_method.specs.GpskTags.{sk_record}
use Rattle.method_laws.specs.GpskPeerInvariant.{GpskStarted, GpskPeerTags, gpsk_unset, gpsk_fresh}
use Rattle.method_laws.specs.GpskPeerInvariant.{gpsk_waits, gpsk_confirmed, gpsk_failed}
use Rattle.method_laws.specs.GpskPeerInvariant.{gpsk_barred, gpsk3_of_login}
use Rattle.method_laws.specs.Records.{IsIn}
use Rattle.login_laws.specs.OwnTags.{GpskPeersAcceptNoOwnTags, IsNoName}
use Rattle.login_laws.proofs.AnyEnds.{peer_known}
use Rattle.login_laws.proofs.Confirmed.{longer}
use Rattle.login_laws.proofs.Matching.{PeerKnown, peer_won}
use Rattle.login_setup.specs.declared.setup.Setup.{Setup}
use Rattle.method_laws.proofs.OneMethod.{apart as one_method}
use Rattle.peer_machine.specs.PeerTable.{setup_with_nonce}
use Rattle.world_laws.specs.EachConversation.{OfPeer, peer_nonce}
use Rattle.world_laws.proofs.EndTags.{peer_tags}
use Rattle.method_laws.proofs.Among.{among_one, among_two, first_is}
use Rattle.method_laws.proofs.Credentials.{own_name}
use Rattle.method_laws.proofs.Fields.{fronts}
use Rattle.method_laws.proofs.PeerByMethod.{created_by_gpsk}
use Rattle.method_laws.proofs.Succeeding.{PeerSucceeds, with_psk, with_gpsk}

-- the first two octets of a nonce that begins so
begins_so : (nonce rest name more : List ℕ) → length nonce ≡ 32
    → nonce ++ rest ≡ two_octets (length name) ++ more → take 2 nonce ≡ two_octets (length name)
begins_so nonce rest name more size e =
    (fronts 2 (take 2 nonce) (drop 2 nonce ++ rest) (two_octets (length name)) more
    (length-take-le 2 nonce (omega (arith, size))) refl
    (sym (append_assoc (take 2 nonce) (drop 2 nonce) rest)
    ∙ ap (λ (l : List ℕ). l ++ rest) (take-append-drop 2 nonce) ∙ e)).0

module _ (setup : PeerSetup) (login : gpsk_peer.Login) (pd : List ℕ) (size : length login.nonce ≡ 32)
    (no_name : IsNoName login.nonce setup.name) where
  not_gpsk2 : (theirs : gpsk_peer.Login) (list : List ℕ) → theirs.cred.id_p ≡ setup.name
      → covered_of (gpsk3_of_login login pd) ≡ covered_of (gpsk_peer.gpsk2_of theirs list) → ⊥
  unfolding covered_of
  not_gpsk2 theirs list name e =
      no_name (begins_so login.nonce _ theirs.cred.id_p _ size e
      ∙ ap (λ (id : List ℕ). two_octets (length id)) name)

  not_gpsk4 : (theirs : gpsk_peer.Login)
      → covered_of (gpsk3_of_login login pd) ≡ covered_of (gpsk_peer.gpsk4_of theirs) → ⊥
  unfolding covered_of
  not_gpsk4 theirs e = longer login.nonce _ (field_with_length []) size (omega arith) (sym e)

  not_fail : (theirs : gpsk_peer.Login) (code : ℕ)
      → covered_of (gpsk3_of_login login pd) ≡ covered_of (gpsk_peer.protected_fail_of theirs code)
      → ⊥
  unfolding covered_of
  not_fail theirs code e = longer login.nonce _ (to_be_bytes w32 code) size (omega arith) (sym e)

  abbrev tag : TagRecord
  tag = sk_record login.cred.psk (gpsk3_of_login login pd)

  named : (nonce : List ℕ) (theirs : gpsk_peer.Login) (list : List ℕ)
      → GpskStarted (record setup { nonce = nonce }) theirs list → theirs.cred.id_p ≡ setup.name
  named nonce theirs list facts =
      own_name (record setup { nonce = nonce }) gpsk_kind theirs.cred facts.cred

  pub alien : (nonce : List ℕ) (view : gpsk_peer.View) (accepted made : List TagRecord)
      → GpskPeerTags (record setup { nonce = nonce }) view accepted made → IsIn tag made → ⊥
  alien nonce _ _ _ gpsk_unset is = elim is [ ]
  alien nonce _ _ _ (gpsk_fresh allowed) is = elim is [ ]
  alien nonce _ _ _ (gpsk_waits theirs list facts) is =
      not_gpsk2 theirs list (named nonce theirs list facts)
      (ap (λ (r : TagRecord). r.octets) (among_one _ _ is))
  alien nonce _ _ _ (gpsk_failed theirs list facts) is =
      not_gpsk2 theirs list (named nonce theirs list facts)
      (ap (λ (r : TagRecord). r.octets) (among_one _ _ is))
  alien nonce _ _ _ (gpsk_confirmed theirs list their_pd facts) is =
      elim (among_two _ _ _ is) [
        | inl e ↦ not_gpsk2 theirs list (named nonce theirs list facts)
            (ap (λ (r : TagRecord). r.octets) e)
        | inr e ↦ not_gpsk4 theirs (ap (λ (r : TagRecord). r.octets) e)
      ]
  alien nonce _ _ _ (gpsk_barred theirs list code facts) is =
      elim (among_two _ _ _ is) [
        | inl e ↦ not_gpsk2 theirs list (named nonce theirs list facts)
            (ap (λ (r : TagRecord). r.octets) e)
        | inr e ↦ not_fail theirs code (ap (λ (r : TagRecord). r.octets) e)
      ]

module _ (setup : Setup) (p q : OfPeer) (known : PeerKnown setup.peer p)
    (theirs : PeerKnown setup.peer q)
    (no_name : IsNoName (peer_nonce p) setup.peer.name) where
  by : (accepted made : List TagRecord) (t : TagRecord) (more : List TagRecord)
      → PeerSucceeds (setup_with_nonce setup.peer (peer_nonce p)) p.now.vars.selected p.now.views
      accepted made
      → p.now.vars.selected ≡ Some gpsk_kind → accepted ≡ t ∷ more → IsIn t q.made → ⊥
  by _ _ t more (with_psk login header sealed id is_selected in_view facts) is_gpsk first is =
      one_method p.now.vars.selected psk_kind gpsk_kind refl is_selected is_gpsk
  by _ _ t more (with_gpsk login list pd is_selected in_view facts) is_gpsk first is =
      let mine = subst (λ (u : TagRecord). IsIn u q.made) (first_is _ t [] more first) is in
      let nonce_is = facts.nonce in
      let found = created_by_gpsk (setup_with_nonce setup.peer (peer_nonce q)) q.now.vars.selected
      q.now.views q.accepted q.made _ (peer_tags theirs.stands) mine refl in
      alien setup.peer login pd (ap length nonce_is ∙ known.size)
      (λ e. no_name (ap (λ (l : List ℕ). take 2 l) (sym nonce_is) ∙ e))
      (peer_nonce q) _ _ _ found.1 mine

pub gpsk_peers_accept_no_own_tags : GpskPeersAcceptNoOwnTags
gpsk_peers_accept_no_own_tags setup p q p_of q_of p_in is_gpsk no_name rests =
    let known = peer_known setup p p_of in
    by setup p q known (peer_known setup q q_of) no_name p.accepted p.made rests.tag rests.more
    (peer_won setup p known p_in) is_gpsk rests.first rests.is_made
