-- What the history of a peer's method tells, by one induction over all methods: by EAP-PSK and
-- EAP-GPSK its tags, and of a decision other than FAIL a success.
use Rattle.std.proofs.Common.{◌≡◌, ◌≢◌, ℕ, List, [], ◌++◌, true, Option, Some, None, refl, sym, ap}
use Rattle.std.proofs.Common.{subst, ◌∙◌, arith}
use Rattle.login_setup.specs.declared.setup.PeerSetup.{PeerSetup}
use Rattle.octet_lists.specs.Among.{psk_kind, gpsk_kind, is_among}
use Rattle.eap_method.specs.BothPeers.{IsOne, is_psk, is_gpsk, psk_shown}
use Rattle.eap_method.specs.BothPeers.{gpsk_shown}
use Rattle.eap_method.specs.declared.tags.TagRecord.{TagRecord}
use Rattle.eap_method.specs.declared.values.Decision.{Decision}
use Rattle.eap_method.specs.declared.values.Decision.TheVariants as decision
use Rattle.eap_method.specs.declared.values.MethodState.{MethodState}
use Rattle.eap_method.specs.Peer.{Method, by_psk, by_gpsk, by_other, View, kind_of, fresh, step}
use Rattle.eap_method.specs.Peer.{PeerShown, PeerViews, peer_step, credential_for}
use Rattle.eap_method.specs.PeerTurn.{Reply}
use Rattle.eap_method.specs.Tags.{Tags}
use Rattle.eap_method.specs.Turns.{PeerOutcome}
use Rattle.method_laws.specs.Both.{PeerHasBoth}
use Rattle.method_laws.specs.ByMethod.{PeerHasSucceeded, PeerTags, gpsk_peer_succeeded}
use Rattle.method_laws.specs.ByMethod.{gpsk_selected, none_selected, psk_peer_succeeded}
use Rattle.method_laws.specs.ByMethod.{psk_selected}
use Rattle.method_laws.specs.GpskPeerInvariant.{GpskPeerTags, gpsk_unset, gpsk_fresh}
use Rattle.method_laws.specs.PeerHistory.{PeerHistory, initiated, responded, PeerHas}
use Rattle.method_laws.specs.PeerHistory.{each_initiated, selected_has, ImpliedOf}
use Rattle.method_laws.specs.PeerHistory.{PeerHistoriesImply}
use Rattle.method_laws.specs.PskPeerInvariant.{PskPeerTags, psk_unset, psk_fresh}
use Rattle.method_laws.proofs.GpskPeerCases.{gpsk_peer_steps_are_rows}
use Rattle.method_laws.proofs.GpskPeerTurns.{gpsk_turned}
use Rattle.method_laws.proofs.PeerObjects.{is_one}
use Rattle.method_laws.proofs.PeerTurns.{after_reply}
use Rattle.method_laws.proofs.PskPeerCases.{psk_peer_steps_are_rows}
use Rattle.method_laws.proofs.PskPeerTurns.{psk_turned}

at_start : (setup : PeerSetup) (m : Method) → is_among setup.methods (kind_of m) ≡ true
    → ImpliedOf setup m (fresh m (credential_for setup (kind_of m)) setup.nonce) decision.Fail [] []
at_start setup by_psk allowed =
    record { tags = psk_fresh allowed; decided = λ sure. absurd (sure refl) }
at_start setup by_gpsk allowed =
    record { tags = gpsk_fresh allowed; decided = λ sure. absurd (sure refl) }
at_start setup (by_other custom) allowed = tt

at_turn : (setup : PeerSetup) (m : Method) (view : View m) (octets packet : List ℕ)
    (state : MethodState) (d last : Decision) (tags : Tags) (accepted made : List TagRecord)
    → ImpliedOf setup m view last accepted made
    → (step m view octets).turn ≡ Reply packet state d tags
    → ImpliedOf setup m (step m view octets).after d (accepted ++ tags.accepted) (made ++ tags.made)
at_turn setup by_psk view octets packet state d last tags accepted made tells turn =
    let both = after_reply accepted made _ (psk_turned setup octets accepted made view _ tells.tags
    (psk_peer_steps_are_rows view octets)) packet state d tags turn in
    record { tags = both.0; decided = both.1 }
at_turn setup by_gpsk view octets packet state d last tags accepted made tells turn =
    let both = after_reply accepted made _ (gpsk_turned setup octets accepted made view _ tells.tags
    (gpsk_peer_steps_are_rows view octets)) packet state d tags turn in
    record { tags = both.0; decided = both.1 }
at_turn setup (by_other custom) view octets packet state d last tags accepted made tells turn = tt

pub peer_histories_imply : PeerHistoriesImply
unfolding peer_step
peer_histories_imply setup _ _ _ _ (initiated s allowed) = at_start setup s.method allowed
peer_histories_imply setup _ _ _ _
    (responded s after octets packet m d last tags accepted made before turn) =
    subst (λ (t : PeerShown).
    ImpliedOf setup t.method t.view d (accepted ++ tags.accepted) (made ++ tags.made))
    (ap (λ (out : PeerOutcome PeerShown). out.after) turn)
    (at_turn setup s.method s.view octets packet m d last tags accepted made
    (peer_histories_imply setup s last accepted made before)
    (ap (λ (out : PeerOutcome PeerShown). out.turn) turn))

-- ---- by the selected method

module _ (setup : PeerSetup) where
  psk_initial : (found : Option PeerShown) → ((s : PeerShown) → found ≡ Some s → IsOne psk_kind s)
      → ((s : PeerShown) → found ≡ Some s → PeerHistory setup s decision.Fail [] [])
      → PskPeerTags setup (psk_shown found) [] []
  psk_initial None one history = psk_unset
  psk_initial (Some s) one history = of_one s (one s refl) (history s refl)
    where
      of_one : (s : PeerShown) → IsOne psk_kind s → PeerHistory setup s decision.Fail [] []
          → PskPeerTags setup (psk_shown (Some s)) [] []
      of_one _ (is_psk same view) history = (peer_histories_imply setup _ _ _ _ history).tags
      of_one _ (is_gpsk same view) history = absurd (omega (arith, same))

  gpsk_initial : (found : Option PeerShown) → ((s : PeerShown) → found ≡ Some s → IsOne gpsk_kind s)
      → ((s : PeerShown) → found ≡ Some s → PeerHistory setup s decision.Fail [] [])
      → GpskPeerTags setup (gpsk_shown found) [] []
  gpsk_initial None one history = gpsk_unset
  gpsk_initial (Some s) one history = of_one s (one s refl) (history s refl)
    where
      of_one : (s : PeerShown) → IsOne gpsk_kind s → PeerHistory setup s decision.Fail [] []
          → GpskPeerTags setup (gpsk_shown (Some s)) [] []
      of_one _ (is_psk same view) history = absurd (omega (arith, same))
      of_one _ (is_gpsk same view) history = (peer_histories_imply setup _ _ _ _ history).tags

  module _ (selected : Option ℕ) (views : PeerViews) (d : Decision) (accepted made : List TagRecord)
      (kind : ℕ) (is_selected : selected ≡ Some kind) where
    selected_tags : (s : PeerShown) → IsOne kind s → views kind ≡ Some s
        → PeerHistory setup s d accepted made → PeerTags setup selected views accepted made
    selected_tags _ (is_psk same view) in_view history =
        psk_selected accepted made (is_selected ∙ ap (λ (k : ℕ). Some k) same)
        (subst (λ (v : _). PskPeerTags setup v accepted made)
        (sym (ap psk_shown (ap views (sym same) ∙ in_view)))
        (peer_histories_imply setup _ _ _ _ history).tags)
    selected_tags _ (is_gpsk same view) in_view history =
        gpsk_selected accepted made (is_selected ∙ ap (λ (k : ℕ). Some k) same)
        (subst (λ (v : _). GpskPeerTags setup v accepted made)
        (sym (ap gpsk_shown (ap views (sym same) ∙ in_view)))
        (peer_histories_imply setup _ _ _ _ history).tags)

    selected_succeeds : (s : PeerShown) → IsOne kind s → views kind ≡ Some s
        → PeerHistory setup s d accepted made → d ≢ decision.Fail → PeerHasSucceeded selected views
    selected_succeeds _ (is_psk same view) in_view history sure =
        let won = (peer_histories_imply setup _ _ _ _ history).decided sure in
        psk_peer_succeeded won.0 (is_selected ∙ ap (λ (k : ℕ). Some k) same)
        (ap psk_shown (ap views (sym same) ∙ in_view) ∙ won.1)
    selected_succeeds _ (is_gpsk same view) in_view history sure =
        let won = (peer_histories_imply setup _ _ _ _ history).decided sure in
        gpsk_peer_succeeded won.0 (is_selected ∙ ap (λ (k : ℕ). Some k) same)
        (ap gpsk_shown (ap views (sym same) ∙ in_view) ∙ won.1)

  -- the tags of the peer are those that its selected method tells
  pub has_tags : (selected : Option ℕ) (views : PeerViews) (d : Decision)
      (accepted made : List TagRecord) → PeerHasBoth setup.methods views
      → PeerHas setup selected views d accepted made → PeerTags setup selected views accepted made
  has_tags selected views d _ _ both (each_initiated unselected fails history) =
      none_selected unselected
      (psk_initial (views psk_kind) (is_one both psk_kind) (history psk_kind))
      (gpsk_initial (views gpsk_kind) (is_one both gpsk_kind) (history gpsk_kind))
  has_tags selected views d _ _ both
      (selected_has kind s accepted made is_selected in_view history) =
      selected_tags selected views d accepted made kind is_selected s (is_one both kind s in_view)
      in_view history

  -- a decision other than FAIL comes from a success
  pub has_succeeded : (selected : Option ℕ) (views : PeerViews) (d : Decision)
      (accepted made : List TagRecord) → PeerHasBoth setup.methods views
      → PeerHas setup selected views d accepted made → d ≢ decision.Fail
      → PeerHasSucceeded selected views
  has_succeeded selected views d _ _ both (each_initiated unselected fails history) sure =
      absurd (sure fails)
  has_succeeded selected views d _ _ both
      (selected_has kind s accepted made is_selected in_view history) sure =
      selected_succeeds selected views d accepted made kind is_selected s
      (is_one both kind s in_view) in_view history sure
