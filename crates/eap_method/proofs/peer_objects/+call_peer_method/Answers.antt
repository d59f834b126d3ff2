use Rattle.std.proofs.Common.{◌∙◌, sym, refl}
use Rattle.eap_method.proofs.Lists.{empty_of}
use Rattle.eap_method.proofs.PeerObjects.{turn_hit, turn_miss, step_kind, steps_method}
use Rattle.eap_method.proofs.PeerViews.{turn_none}
use Rattle.eap_method.proofs.Unnamed.{peer_hit, peer_miss}
use Rattle.eap_method.proofs.peer_objects.+call_peer_method.Goals as goal

pub returns-in-None-clause-turn : goal.returns-in-None-clause-turn
returns-in-None-clause-turn g t c = λ allowed is_allowed.
    rw (empty_of _ c.in-None.ensures.cases) (turn_none allowed _ _)

pub returns-then-kind-clause-turn : goal.returns-then-kind-clause-turn
returns-then-kind-clause-turn g t c = λ allowed is_allowed.
    rw c.in-Some.ensures.cases.0
    (turn_hit allowed _ _ _ _ _ _ c.peer_turn.ensures.turn
    (sym c.kind.ensures ∙ c.if-kind.true) is_allowed)

pub returns-then-kind-clause-methods : goal.returns-then-kind-clause-methods
returns-then-kind-clause-methods g t c =
    rw c.in-Some.ensures.cases.0 (rw (steps_method _ _ _ _ c.peer_turn.ensures.turn) refl)

pub returns-else-kind-clause-turn : goal.returns-else-kind-clause-turn
returns-else-kind-clause-turn g t c = λ allowed is_allowed.
    rw c.in-Some.ensures.cases.0
    (turn_miss allowed _ _ _ _ _ _ (λ same. c.if-kind.false (c.kind.ensures ∙ same))
    (c.call_peer_method.ensures.turn allowed is_allowed))

pub returns-then-kind-clause-unnamed : goal.returns-then-kind-clause-unnamed
returns-then-kind-clause-unnamed g t c = λ allowed is_allowed.
    rw c.in-Some.ensures.cases.0
    (peer_hit allowed _ _ _ _ (step_kind _ _ _ _ c.peer_turn.ensures.turn)
    (sym c.kind.ensures ∙ c.if-kind.true) is_allowed)

pub returns-else-kind-clause-unnamed : goal.returns-else-kind-clause-unnamed
returns-else-kind-clause-unnamed g t c = λ allowed is_allowed.
    rw c.in-Some.ensures.cases.0
    (peer_miss allowed _ _ _ (c.call_peer_method.ensures.unnamed allowed is_allowed))
