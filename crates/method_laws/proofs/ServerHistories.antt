-- A server's object that has made its first Request, has made one more or has ended, has a history,
-- whatever its method.
use Rattle.std.proofs.Common.{◌≡◌, ℕ, List, [], ◌++◌, Bool, false, Option, Some, None, refl}
use Rattle.std.proofs.Common.{sym, ap, subst, ◌∙◌}
use Rattle.std.specs.Prelude.{◌==◌}
use Rattle.std.proofs.lemmas.Bool.{cond-true, eq-eqb, false≢true}
use Rattle.login_setup.specs.Setup.{ServerSetup}
use Rattle.octet_lists.specs.Among.{identity_kind}
use Rattle.eap_method.specs.declared.tags.TagRecord.{TagRecord}
use Rattle.eap_method.specs.Server.{Offer, ServerShown, ServerViews, offered}
use Rattle.eap_method.specs.Server.{server_offer, server_step, server_turn, side_of}
use Rattle.eap_method.specs.Server.{turned}
use Rattle.eap_method.specs.ServerTurn.{ServerTurn}
use Rattle.eap_method.specs.ServerTurn as turn
use Rattle.eap_method.specs.Tags.{Tags}
use Rattle.eap_method.specs.Turns.{ServerOutcome}
use Rattle.eap_method.proofs.ServerViews.{not_identity}
use Rattle.method_laws.specs.Objects.{ServerHasMethods}
use Rattle.method_laws.specs.Records.{AreNone, untagged}
use Rattle.method_laws.specs.ServerHistory.{ServerHistory, initiated, requested, ended, ServerHas}
use Rattle.method_laws.specs.ServerHistory.{unproposed, identity_round, current_has}
use Rattle.method_laws.proofs.OneMethod.{some_same}
use Rattle.method_laws.proofs.ServerObjects.{are_ordered, is_of_kind, offered_found}

-- ---- the offer

-- the offer of a method: its object then has begun and made its first Request, and the objects are
-- as they were; without an object of it all views stay
pub data Offers (setup : ServerSetup) (first : ServerViews) (kind : ℕ) (views : ServerViews)
    : Offer → Type 0 where
  asks : (packet : List ℕ) (after : ServerViews)
      (objects : ServerHasMethods setup.methods first after)
      (has : ServerHas setup (Some kind) after false [] [])
      → Offers setup first kind views (record { packet = Some packet; after = after })
  lacks : Offers setup first kind views (record { packet = None; after = views })

module _ (setup : ServerSetup) (kind id : ℕ) (first views : ServerViews)
    (objects : ServerHasMethods setup.methods first views) where
  found_offers : (found : Option ServerShown) → views kind ≡ found
      → Offers setup first kind views (offered (side_of setup) setup.nonce kind id views found)
  found_offers None is = lacks
  found_offers (Some s) is =
      asks _ _ (offered_found objects (side_of setup) setup.nonce kind id (Some s) is)
      (current_has kind _ false [] [] refl
      (ap (λ (k : ℕ). k == identity_kind) (sym (is_of_kind objects kind s is)) ∙ not_identity s)
      (cond-true _ _ _ (eq-eqb kind kind refl))
      (initiated s id (are_ordered objects kind s is)))

  pub offers_so : Offers setup first kind views (server_offer
      (side_of setup) setup.nonce kind id views)
  unfolding server_offer
  offers_so = found_offers (views kind) refl

-- ---- a Request more, or the end

some_shown : (one other : ServerShown) → Some one ≡ Some other → one ≡ other
some_shown one other same = cc

module _ (setup : ServerSetup) (current : Option ℕ) (views : ServerViews) where
  history_called : (last : Bool) (accepted made : List TagRecord) (kind : ℕ) (s : ServerShown)
      → ServerHas setup current views last accepted made → current ≡ Some kind
      → (kind == identity_kind) ≡ false → views kind ≡ Some s
      → (good : Bool) × ServerHistory setup s good accepted made
  history_called _ _ _ kind s (unproposed none) called no_identity in_view =
      let clash : None ≡ Some kind = sym none ∙ called in absurd (cc clash)
  history_called _ _ _ kind s (identity_round is_current) called no_identity in_view =
      absurd (false≢true (sym no_identity ∙ eq-eqb kind identity_kind
      (some_same kind identity_kind (sym called ∙ is_current))))
  history_called _ _ _ kind s
      (current_has k t good accepted made is_current _ at_view history) called no_identity in_view =
      let one : kind ≡ k = some_same kind k (sym called ∙ is_current) in
      let same = some_shown t s (sym at_view ∙ (ap views (sym one) ∙ in_view)) in
      (good, subst (λ (o : ServerShown). ServerHistory setup o good accepted made) same history)

  -- there is no tag in the Identity round, nor before it
  pub in_identity : (last : Bool) (accepted made : List TagRecord) → current ≡ Some identity_kind
      → ServerHas setup current views last accepted made → AreNone accepted made
  in_identity _ _ _ is_identity (unproposed none) = untagged
  in_identity _ _ _ is_identity (identity_round is_current) = untagged
  in_identity _ _ _ is_identity
      (current_has kind s good accepted made is_current no_identity in_view history) =
      absurd (false≢true (sym no_identity ∙ eq-eqb kind identity_kind
      (some_same kind identity_kind (sym is_current ∙ is_identity))))

  pub in_none : (last : Bool) (accepted made : List TagRecord) → current ≡ None
      → ServerHas setup current views last accepted made → AreNone accepted made
  in_none _ _ _ none (unproposed _) = untagged
  in_none _ _ _ none (identity_round is_current) = untagged
  in_none _ _ _ none
      (current_has kind s good accepted made is_current no_identity in_view history) =
      let clash : Some kind ≡ None = sym is_current ∙ none in absurd (cc clash)

  module _ (last : Bool) (accepted made : List TagRecord) (id kind : ℕ) (octets : List ℕ)
      (tags : Tags) (after : ServerViews) (has : ServerHas setup current views last accepted made)
      (called : current ≡ Some kind) (no_identity : (kind == identity_kind) ≡ false) where
    found_requests : (packet : List ℕ) (found : Option ServerShown) → views kind ≡ found
        → turned setup.users id kind views octets found
        ≡ record { turn = turn.Request packet tags; after = after }
        → ServerHas setup current after false (accepted ++ tags.accepted) (made ++ tags.made)
    found_requests packet None is e =
        let clash : _ ≡ _ = ap (λ (o : ServerOutcome ServerViews). o.turn) e in absurd (cc clash)
    found_requests packet (Some s) is e =
        let before = history_called last accepted made kind s has called no_identity is in
        let turned_so = ap (λ (t : ServerTurn). (let one : ServerOutcome ServerShown =
        record { turn = t; after = (server_step setup.users id s octets).after } in one))
        (ap (λ (o : ServerOutcome ServerViews). o.turn) e) in
        current_has kind _ _ _ _ called no_identity
        (ap (λ (v : ServerViews). v kind) (sym (ap (λ (o : ServerOutcome ServerViews). o.after) e))
        ∙ cond-true _ _ _ (eq-eqb kind kind refl))
        (requested s _ id octets packet before.0 tags accepted made before.1 turned_so)

    found_ends : (good : Bool) (found : Option ServerShown) → views kind ≡ found
        → turned setup.users id kind views octets found
        ≡ record { turn = turn.Done good tags; after = after }
        → ServerHas setup current after good (accepted ++ tags.accepted) (made ++ tags.made)
    found_ends good None is e =
        let clash : _ ≡ _ = ap (λ (o : ServerOutcome ServerViews). o.turn) e in absurd (cc clash)
    found_ends good (Some s) is e =
        let before = history_called last accepted made kind s has called no_identity is in
        let turned_so = ap (λ (t : ServerTurn). (let one : ServerOutcome ServerShown =
        record { turn = t; after = (server_step setup.users id s octets).after } in one))
        (ap (λ (o : ServerOutcome ServerViews). o.turn) e) in
        current_has kind _ _ _ _ called no_identity
        (ap (λ (v : ServerViews). v kind) (sym (ap (λ (o : ServerOutcome ServerViews). o.after) e))
        ∙ cond-true _ _ _ (eq-eqb kind kind refl))
        (ended s _ id octets before.0 good tags accepted made before.1 turned_so)

    pub requests_has : (packet : List ℕ) → server_turn setup.users id kind views octets
        ≡ record { turn = turn.Request packet tags; after = after }
        → ServerHas setup current after false (accepted ++ tags.accepted) (made ++ tags.made)
    unfolding server_turn
    requests_has packet e = found_requests packet (views kind) refl e

    pub ends_has : (good : Bool) → server_turn setup.users id kind views octets
        ≡ record { turn = turn.Done good tags; after = after }
        → ServerHas setup current after good (accepted ++ tags.accepted) (made ++ tags.made)
    unfolding server_turn
    ends_has good e = found_ends good (views kind) refl e
