-- A peer's object that has begun, or has made one Response more, has a history, whatever its
-- method.
use Rattle.std.proofs.Common.{◌≡◌, ℕ, List, [], ◌++◌, true, Option, Some, None, refl, sym, ap}
use Rattle.std.proofs.Common.{subst, ◌∙◌}
use Rattle.std.specs.Prelude.{option_map}
use Rattle.std.proofs.lemmas.Bool.{cond-true, eq-eqb}
use Rattle.login_setup.specs.declared.setup.PeerSetup.{PeerSetup}
use Rattle.octet_lists.specs.Among.{is_among}
use Rattle.eap_method.specs.declared.tags.TagRecord.{TagRecord}
use Rattle.eap_method.specs.declared.values.Decision.{Decision}
use Rattle.eap_method.specs.declared.values.Decision.TheVariants as decision
use Rattle.eap_method.specs.declared.values.MethodState.{MethodState}
use Rattle.eap_method.specs.Tags.{Tags}
use Rattle.eap_method.specs.PeerTurn.{PeerTurn, Reply}
use Rattle.eap_method.specs.Peer.{PeerShown, PeerViews, peer_kind, peer_step, peer_turn, turned}
use Rattle.eap_method.specs.Peer.{views_started, peer_started_in, started_peer, credential_for}
use Rattle.eap_method.specs.Turns.{PeerOutcome}
use Rattle.method_laws.specs.PeerHistory.{PeerHistory, initiated, responded, PeerHas}
use Rattle.method_laws.specs.PeerHistory.{each_initiated, selected_has}

-- each object at a Type is of a method that the peer allows
pub record AreAllowed (setup : PeerSetup) (views : PeerViews) : Type 0 where
  pub each : (kind : ℕ) (s : PeerShown) → views kind ≡ Some s
      → is_among setup.methods (peer_kind s) ≡ true

-- ---- the begin

some_shown : (one other : PeerShown) → Some one ≡ Some other → one ≡ other
some_shown one other same = cc

found_initiated : (setup : PeerSetup) (found : Option PeerShown)
    → ((s : PeerShown) → found ≡ Some s → is_among setup.methods (peer_kind s) ≡ true)
    → (s : PeerShown) → option_map (peer_started_in setup) found ≡ Some s
    → PeerHistory setup s decision.Fail [] []
unfolding peer_started_in
found_initiated setup None allowed s e = absurd cc
found_initiated setup (Some t) allowed s e =
    let is = allowed t refl in
    let same : started_peer (credential_for setup (peer_kind t)) setup.nonce t ≡ s =
    sym (cond-true _ _ _ is) ∙ some_shown _ s e in
    subst (λ (o : PeerShown). PeerHistory setup o decision.Fail [] []) same (initiated t is)

pub initiated_has : (setup : PeerSetup) (views : PeerViews) → AreAllowed setup views
    → PeerHas setup None (views_started setup views) decision.Fail [] []
unfolding views_started
initiated_has setup views allowed = each_initiated refl refl
    (λ kind s found. found_initiated setup (views kind) (allowed.each kind) s found)

-- ---- a Response more

module _ (setup : PeerSetup) (selected : Option ℕ) (views : PeerViews) (last : Decision) where
  history_called : (accepted made : List TagRecord) (kind : ℕ) (s : PeerShown)
      → PeerHas setup selected views last accepted made
      → ((other : ℕ) → selected ≡ Some other → kind ≡ other) → views kind ≡ Some s
      → (d : Decision) × PeerHistory setup s d accepted made
  history_called _ _ kind s (each_initiated unselected fails history) alone in_view =
      (decision.Fail, history kind s in_view)
  history_called _ _ kind s (selected_has k t accepted made is_selected at_view history) alone
      in_view =
      let same = some_shown t s (sym at_view ∙ (ap views (sym (alone k is_selected)) ∙ in_view)) in
      (last, subst (λ (o : PeerShown). PeerHistory setup o last accepted made) same history)

  module _ (accepted made : List TagRecord) (kind : ℕ) (octets packet : List ℕ) (m : MethodState)
      (d : Decision) (tags : Tags) (after : PeerViews)
      (has : PeerHas setup selected views last accepted made)
      (alone : (other : ℕ) → selected ≡ Some other → kind ≡ other) where
    found_responds : (found : Option PeerShown) → views kind ≡ found
        → turned kind views octets found ≡ record { turn = Reply packet m d tags; after = after }
        → PeerHas setup (Some kind) after d (accepted ++ tags.accepted) (made ++ tags.made)
    found_responds None is e =
        let clash : _ ≡ _ = ap (λ (o : PeerOutcome PeerViews). o.turn) e in absurd (cc clash)
    found_responds (Some s) is e =
        let before = history_called accepted made kind s has alone is in
        let turn = ap (λ (t : PeerTurn). (let one : PeerOutcome PeerShown =
        record { turn = t; after = (peer_step s octets).after } in one))
        (ap (λ (o : PeerOutcome PeerViews). o.turn) e) in
        selected_has kind _ _ _ refl
        (ap (λ (v : PeerViews). v kind) (sym (ap (λ (o : PeerOutcome PeerViews). o.after) e))
        ∙ cond-true _ _ _ (eq-eqb kind kind refl))
        (responded s _ octets packet m d before.0 tags accepted made before.1 turn)

    -- of the method that is selected, or of any before one is
    pub responds_has : peer_turn kind views octets
        ≡ record { turn = Reply packet m d tags; after = after }
        → PeerHas setup (Some kind) after d (accepted ++ tags.accepted) (made ++ tags.made)
    unfolding peer_turn
    responds_has e = found_responds (views kind) refl e
