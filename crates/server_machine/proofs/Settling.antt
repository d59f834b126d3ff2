-- An offer and a turn of a method, settled in the variables, are the server's rows.
use Rattle.std.proofs.Common.{◌≡◌, ℕ, List, [], ◌∷◌, Option, Some, None, refl, ap, ◌∙◌, sym}
use Rattle.std.specs.Prelude.{◌==◌, find}
use Rattle.std.proofs.lemmas.Bool.{cond_both}
use Rattle.octet_lists.specs.Among.{identity_kind, is_among}
use Rattle.eap_packet.specs.declared.state.State.{State}
use Rattle.login_policy.specs.Policy.{next_kind}
use Rattle.eap_method.specs.declared.step.Step as brief
use Rattle.eap_method.specs.Tags.{Tags, no_tags}
use Rattle.eap_method.specs.declared.turn.ServerAnswer as short
use Rattle.eap_method.specs.Steps.{Step, step_with}
use Rattle.eap_method.specs.ServerTurn.{ServerTurn}
use Rattle.eap_method.specs.ServerTurn.{Discard, Request, Done, server_turn_with, server_tags}
use Rattle.eap_method.specs.Server.{ServerShown, ServerViews, server_views, server_turn}
use Rattle.eap_method.specs.Server.{server_offer, side_of, server_report_of, server_kind, reported}
use Rattle.eap_method.proofs.ServerViews.{not_identity}
use Rattle.eap_method.proofs.ServerObjects.{server_turn_preserves}
use Rattle.server_machine.specs.ServerTable.{ServerNow, answer, method_answers, views_after}
use Rattle.server_machine.specs.ServerTable.{server_method, select_action, offers, ends_badly}
use Rattle.server_machine.specs.ServerTable.{next_id}
use Rattle.server_machine.specs.Variables.{ServerVariables}

-- the Identity round has no report
none_found : (shown : List ServerShown) → find (λ s. server_kind s == identity_kind) shown ≡ None
none_found [] = refl
none_found (s ∷ rest) = rw (not_identity s) (none_found rest)

no_view : (order : List ℕ) (shown : List ServerShown)
    → server_views order shown identity_kind ≡ None
unfolding server_views
no_view order shown = cond_both (is_among order identity_kind) _ _
    (λ (found : Option ServerShown). found ≡ None) (λ _. none_found shown) (λ _. refl)

pub identity_reports : (order : List ℕ) (shown : List ServerShown)
    → None ≡ server_report_of identity_kind (server_views order shown)
unfolding server_report_of
identity_reports order shown = ap reported (sym (no_view order shown))

-- where there is no next method
pub none_settles : (entered : List State) (before vars : ServerVariables) (shown : List ServerShown)
    (id : ℕ) (desired : Option (List ℕ)) (step : Step)
    → None ≡ next_kind before.setup.methods before.proposed desired
    → ((views : ServerViews) → ends_badly entered before views id no_tags
    ≡ answer step (record { vars = vars; views = views }))
    → vars.setup ≡ before.setup
    → select_action entered before (server_views before.setup.methods shown) id desired
    ≡ answer step (record { vars = vars; views = server_views vars.setup.methods shown })
unfolding select_action
none_settles entered before vars shown id desired step none settles same =
    rw (← none) (settles (server_views before.setup.methods shown) ∙ rw same refl)

-- the offer of the next method
pub offer_settles : (entered : List State) (before vars : ServerVariables)
    (shown after : List ServerShown) (id kind : ℕ) (desired : Option (List ℕ))
    (first : Option (List ℕ)) (step : Step)
    → Some kind ≡ next_kind before.setup.methods before.proposed desired
    → server_offer (side_of before.setup) before.setup.nonce kind (next_id before)
    (server_views before.setup.methods shown)
    ≡ record { packet = first; after = server_views before.setup.methods after }
    → ((views : ServerViews) → offers entered before views id kind first
    ≡ answer step (record { vars = vars; views = views }))
    → vars.setup ≡ before.setup
    → select_action entered before (server_views before.setup.methods shown) id desired
    ≡ answer step (record { vars = vars; views = server_views vars.setup.methods after })
unfolding select_action
offer_settles entered before vars shown after id kind desired first step next offered settles same =
    rw (← next) (rw offered (settles (server_views before.setup.methods after) ∙ rw same refl))

settled_after : (now : ServerNow) (kind : ℕ) (after : ServerViews) (octets : List ℕ)
    (turn : ServerTurn)
    → server_turn now.vars.setup.users (next_id now.vars) kind now.views octets
    ≡ record { turn = turn; after = after }
    → views_after now.views after turn ≡ after
settled_after now kind after octets (Discard c) turned =
    sym (server_turn_preserves now.vars.setup.users (next_id now.vars)
    kind now.views after octets c turned)
settled_after now kind after octets (Request packet tags) turned = refl
settled_after now kind after octets (Done good tags) turned = refl

-- the turn of a method
pub turn_settles : (now : ServerNow) (vars : ServerVariables) (id kind : ℕ) (octets : List ℕ)
    (turn : short.ServerAnswer) (packet sent : List ℕ) (tags : Tags)
    (shown : List ServerShown) (step : brief.Step)
    → server_turn now.vars.setup.users (next_id now.vars) kind now.views octets
    ≡ record {
      turn = server_turn_with turn packet tags;
      after = server_views now.vars.setup.methods shown;
    }
    → tags ≡ server_tags (server_turn_with turn packet tags)
    → (let after = server_views now.vars.setup.methods shown in
    let whole = server_turn_with turn packet tags in
    method_answers now id after whole ≡ answer (step_with step sent
    (server_tags whole)) (record { vars = vars; views = views_after now.views after whole }))
    → vars.setup ≡ now.vars.setup
    → server_method now id kind octets ≡ answer (step_with step sent
    tags) (record { vars = vars; views = server_views vars.setup.methods shown })
unfolding server_method
turn_settles now vars id kind octets turn packet sent tags shown step turned told settles same =
    let after = server_views now.vars.setup.methods shown in
    let whole = server_turn_with turn packet tags in
    let kept = settled_after now kind after octets whole turned in
    let step_told = ap (λ (t : Tags). answer (step_with step sent t)
    (record { vars = vars; views = views_after now.views after whole })) (sym told) in
    let step_kept = ap (λ (views : ServerViews). answer (step_with step sent tags)
    (record { vars = vars; views = views })) kept in
    rw turned (settles ∙ (step_told ∙ (step_kept ∙ (rw same refl))))
