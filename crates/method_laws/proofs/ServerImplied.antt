-- What the history of a server's method tells, by one induction over all methods: by EAP-PSK and
-- EAP-GPSK its tags, and of a good end a success.
use Rattle.std.proofs.Common.{◌≡◌, ℕ, List, [], ◌++◌, Bool, true, false, Option, Some, sym}
use Rattle.std.proofs.Common.{ap, subst, ◌∙◌}
use Rattle.std.proofs.lemmas.Bool.{false≢true}
use Rattle.login_setup.specs.Setup.{ServerSetup}
use Rattle.octet_lists.specs.Among.{is_among}
use Rattle.eap_method.specs.BothServers.{IsOne, gpsk_shown, is_gpsk, is_psk, psk_shown}
use Rattle.eap_method.specs.declared.tags.TagRecord.{TagRecord}
use Rattle.eap_method.specs.GpskServer as gpsk
use Rattle.eap_method.specs.PskServer as psk
use Rattle.eap_method.specs.Server.{Method, by_psk, by_gpsk, by_other, View, kind_of, fresh, step}
use Rattle.eap_method.specs.Server.{ServerShown, ServerViews, first_step, server_first_step}
use Rattle.eap_method.specs.Server.{server_step, side_of}
use Rattle.eap_method.specs.ServerTurn as turn
use Rattle.eap_method.specs.Tags.{Tags}
use Rattle.eap_method.specs.Turns.{ServerOutcome}
use Rattle.method_laws.specs.Both.{ServerHasBoth}
use Rattle.method_laws.specs.ByMethod.{ServerHasSucceeded, ServerTags, gpsk_current}
use Rattle.method_laws.specs.ByMethod.{gpsk_server_succeeded, identity_current, none_current}
use Rattle.method_laws.specs.ByMethod.{psk_current, psk_server_succeeded}
use Rattle.method_laws.specs.GpskServerInvariant.{gpsk_asked}
use Rattle.method_laws.specs.PskServerInvariant.{psk_asked}
use Rattle.method_laws.specs.ServerHistory.{ServerHistory, initiated, requested, ended, ServerHas}
use Rattle.method_laws.specs.ServerHistory.{unproposed, identity_round, current_has, ImpliedOf}
use Rattle.method_laws.specs.ServerHistory.{ServerHistoriesImply}
use Rattle.method_laws.proofs.GpskServerCases.{gpsk_server_steps_are_rows}
use Rattle.method_laws.proofs.GpskServerTurns.{gpsk_turned}
use Rattle.method_laws.proofs.PskServerCases.{psk_server_steps_are_rows}
use Rattle.method_laws.proofs.PskServerTurns.{psk_turned}
use Rattle.method_laws.proofs.ServerObjects.{is_one}
use Rattle.method_laws.proofs.ServerTurns.{ended_by, requested_by}

module _ (setup : ServerSetup) where
  at_first : (m : Method) (id : ℕ) → is_among setup.methods (kind_of m) ≡ true
      → ImpliedOf setup m (first_step m (fresh m (side_of setup) setup.nonce) id).after false [] []
  unfolding psk.first_step gpsk.first_step
  at_first by_psk id ordered =
      record { tags = psk_asked ordered; well = λ e. absurd (false≢true e) }
  at_first by_gpsk id ordered =
      record { tags = gpsk_asked ordered; well = λ e. absurd (false≢true e) }
  at_first (by_other custom) id ordered = tt

  module _ (id : ℕ) (octets : List ℕ) (last : Bool) (tags : Tags)
      (accepted made : List TagRecord) where
    at_request : (m : Method) (view : View m) (packet : List ℕ)
        → ImpliedOf setup m view last accepted made
        → (step setup.users id m view octets).turn ≡ turn.Request packet tags
        → ImpliedOf setup m (step setup.users id m view octets).after false
        (accepted ++ tags.accepted) (made ++ tags.made)
    at_request by_psk view packet tells turned = record {
      tags = requested_by accepted made _ (psk_turned setup id octets accepted made view _
          tells.tags (psk_server_steps_are_rows setup.users id view octets)) packet tags turned;
      well = λ e. absurd (false≢true e);
    }
    at_request by_gpsk view packet tells turned = record {
      tags = requested_by accepted made _ (gpsk_turned setup id octets accepted made view _
          tells.tags (gpsk_server_steps_are_rows setup.users id view octets)) packet tags turned;
      well = λ e. absurd (false≢true e);
    }
    at_request (by_other custom) view packet tells turned = tt

    at_end : (m : Method) (view : View m) (good : Bool) → ImpliedOf setup m view last accepted made
        → (step setup.users id m view octets).turn ≡ turn.Done good tags
        → ImpliedOf setup m (step setup.users id m view octets).after good
        (accepted ++ tags.accepted) (made ++ tags.made)
    at_end by_psk view good tells turned =
        let both = ended_by accepted made _ (psk_turned setup id octets accepted made view _
        tells.tags (psk_server_steps_are_rows setup.users id view octets)) good tags turned in
        record { tags = both.0; well = both.1 }
    at_end by_gpsk view good tells turned =
        let both = ended_by accepted made _ (gpsk_turned setup id octets accepted made view _
        tells.tags (gpsk_server_steps_are_rows setup.users id view octets)) good tags turned in
        record { tags = both.0; well = both.1 }
    at_end (by_other custom) view good tells turned = tt

pub server_histories_imply : ServerHistoriesImply
unfolding server_first_step server_step
server_histories_imply setup _ _ _ _ (initiated s id ordered) = at_first setup s.method id ordered
server_histories_imply setup _ _ _ _
    (requested s after id octets packet last tags accepted made before turned) =
    subst (λ (t : ServerShown).
    ImpliedOf setup t.method t.view false (accepted ++ tags.accepted) (made ++ tags.made))
    (ap (λ (out : ServerOutcome ServerShown). out.after) turned)
    (at_request setup id octets last tags accepted made s.method s.view packet
    (server_histories_imply setup s last accepted made before)
    (ap (λ (out : ServerOutcome ServerShown). out.turn) turned))
server_histories_imply setup _ _ _ _
    (ended s after id octets last good tags accepted made before turned) =
    subst (λ (t : ServerShown).
    ImpliedOf setup t.method t.view good (accepted ++ tags.accepted) (made ++ tags.made))
    (ap (λ (out : ServerOutcome ServerShown). out.after) turned)
    (at_end setup id octets last tags accepted made s.method s.view good
    (server_histories_imply setup s last accepted made before)
    (ap (λ (out : ServerOutcome ServerShown). out.turn) turned))

-- ---- by the current method

module _ (setup : ServerSetup) where
  module _ (current : Option ℕ) (views : ServerViews) (good : Bool)
      (accepted made : List TagRecord) (kind : ℕ) (is_current : current ≡ Some kind) where
    current_tags : (s : ServerShown) → IsOne kind s → views kind ≡ Some s
        → ServerHistory setup s good accepted made → ServerTags setup current views accepted made
    current_tags _ (is_psk same view) in_view history =
        psk_current view accepted made (is_current ∙ ap (λ (k : ℕ). Some k) same)
        (ap psk_shown (ap views (sym same) ∙ in_view))
        (server_histories_imply setup _ _ _ _ history).tags
    current_tags _ (is_gpsk same view) in_view history =
        gpsk_current view accepted made (is_current ∙ ap (λ (k : ℕ). Some k) same)
        (ap gpsk_shown (ap views (sym same) ∙ in_view))
        (server_histories_imply setup _ _ _ _ history).tags

    current_succeeds : (s : ServerShown) → IsOne kind s → views kind ≡ Some s
        → ServerHistory setup s good accepted made → good ≡ true
        → ServerHasSucceeded current views
    current_succeeds _ (is_psk same view) in_view history well =
        let won = (server_histories_imply setup _ _ _ _ history).well well in
        psk_server_succeeded won.0 (is_current ∙ ap (λ (k : ℕ). Some k) same)
        (ap psk_shown (ap views (sym same) ∙ in_view) ∙ ap (λ (v : psk.View). Some v) won.1)
    current_succeeds _ (is_gpsk same view) in_view history well =
        let won = (server_histories_imply setup _ _ _ _ history).well well in
        gpsk_server_succeeded won.0 (is_current ∙ ap (λ (k : ℕ). Some k) same)
        (ap gpsk_shown (ap views (sym same) ∙ in_view) ∙ ap (λ (v : gpsk.View). Some v) won.1)

  -- the tags of the server are those that its current method tells
  pub has_tags : (current : Option ℕ) (views : ServerViews) (good : Bool)
      (accepted made : List TagRecord) → ServerHasBoth setup.methods views
      → ServerHas setup current views good accepted made
      → ServerTags setup current views accepted made
  has_tags current views _ _ _ both (unproposed none) = none_current none
  has_tags current views _ _ _ both (identity_round is_current) = identity_current is_current
  has_tags current views _ _ _ both
      (current_has kind s good accepted made is_current no_identity in_view history) =
      current_tags current views good accepted made kind is_current s (is_one both kind s in_view)
      in_view history

  -- a good end comes from a success
  pub has_succeeded : (current : Option ℕ) (views : ServerViews) (good : Bool)
      (accepted made : List TagRecord) → ServerHasBoth setup.methods views
      → ServerHas setup current views good accepted made → good ≡ true
      → ServerHasSucceeded current views
  has_succeeded current views _ _ _ both (unproposed none) well = absurd (false≢true well)
  has_succeeded current views _ _ _ both (identity_round is_current) well =
      absurd (false≢true well)
  has_succeeded current views _ _ _ both
      (current_has kind s good accepted made is_current no_identity in_view history) well =
      current_succeeds current views good accepted made kind is_current s
      (is_one both kind s in_view) in_view history well
