-- A method's turn, settled in the variables, is METHOD's row.
use Rattle.std.proofs.Common.{◌≡◌, ℕ, List, Bool, refl, ap, ◌∙◌, sym}
use Rattle.eap_method.specs.declared.step.Step as brief
use Rattle.eap_method.specs.Tags.{Tags}
use Rattle.eap_method.specs.declared.turn.PeerAnswer as short
use Rattle.eap_method.specs.Steps.{step_with}
use Rattle.eap_method.specs.PeerTurn.{PeerTurn}
use Rattle.eap_method.specs.PeerTurn.{Discard, Reply, peer_turn_with, peer_tags}
use Rattle.eap_method.specs.Peer.{PeerShown, PeerViews, peer_views, peer_turn}
use Rattle.eap_method.proofs.PeerObjects.{peer_turn_preserves}
use Rattle.peer_machine.specs.PeerTable.{PeerNow, answer, method_answers, views_after, peer_method}
use Rattle.peer_machine.specs.declared.variables.PeerVariables.{PeerVariables}

settled_after : (kind : ℕ) (views after : PeerViews) (octets : List ℕ) (turn : PeerTurn)
    → peer_turn kind views octets ≡ record { turn = turn; after = after }
    → views_after views after turn ≡ after
settled_after kind views after octets (Discard c) turned =
    sym (peer_turn_preserves kind views after octets c turned)
settled_after kind views after octets (Reply packet m d tags) turned = refl

pub method_settles : (selects : Bool) (now : PeerNow) (vars : PeerVariables) (kind id : ℕ)
    (octets : List ℕ) (turn : short.PeerAnswer) (packet : List ℕ) (tags : Tags)
    (shown : List PeerShown) (step : brief.Step)
    → peer_turn kind now.views octets ≡ record {
      turn = peer_turn_with turn packet tags;
      after = peer_views now.vars.setup.methods shown;
    }
    → tags ≡ peer_tags (peer_turn_with turn packet tags)
    → (let after = peer_views now.vars.setup.methods shown in
    let whole = peer_turn_with turn packet tags in
    method_answers selects now kind id after whole
    ≡ answer (step_with step packet (peer_tags whole))
    (record { vars = vars; views = views_after now.views after whole }))
    → vars.setup ≡ now.vars.setup
    → peer_method selects now kind id octets ≡ answer (step_with step packet
    tags) (record { vars = vars; views = peer_views vars.setup.methods shown })
unfolding peer_method
method_settles selects now vars kind id octets turn packet tags shown step turned told
    settles same =
    let after = peer_views now.vars.setup.methods shown in
    let whole = peer_turn_with turn packet tags in
    let kept = settled_after kind now.views after octets whole turned in
    let step_told = ap (λ (t : Tags). answer (step_with step packet t)
    (record { vars = vars; views = views_after now.views after whole })) (sym told) in
    let step_kept = ap (λ (views : PeerViews). answer (step_with step packet tags)
    (record { vars = vars; views = views })) kept in
    rw turned (settles ∙ (step_told ∙ (step_kept ∙ (rw same refl))))
