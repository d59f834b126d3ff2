use Rattle.std.proofs.Common.{◌∙◌, sym, refl}
use Rattle.eap_method.proofs.Lists.{empty_of}
use Rattle.eap_method.proofs.ServerObjects.{turn_hit, turn_miss, turn_none, step_kind, steps_method}
use Rattle.eap_method.proofs.Unnamed.{server_hit, server_miss}
use Rattle.eap_method.proofs.server_objects.+call_server_method.Goals as goal

pub returns-in-None-clause-turn : goal.returns-in-None-clause-turn
returns-in-None-clause-turn g t c = λ order is_proposed.
    rw (empty_of _ c.in-None.ensures.cases) (turn_none _ _ order _ _)

pub returns-then-kind-clause-turn : goal.returns-then-kind-clause-turn
returns-then-kind-clause-turn g t c = λ order is_proposed.
    rw c.in-Some.ensures.cases.0
    (turn_hit _ _ order _ _ _ _ _ _ c.server_turn.ensures.turn (sym c.kind.ensures ∙ c.if-kind.true)
    is_proposed)

pub returns-then-kind-clause-methods : goal.returns-then-kind-clause-methods
returns-then-kind-clause-methods g t c =
    rw c.in-Some.ensures.cases.0 (rw (steps_method _ _ _ _ _ _ c.server_turn.ensures.turn) refl)

pub returns-else-kind-clause-turn : goal.returns-else-kind-clause-turn
returns-else-kind-clause-turn g t c = λ order is_proposed.
    rw c.in-Some.ensures.cases.0
    (turn_miss _ _ order _ _ _ _ _ _ (λ same. c.if-kind.false (c.kind.ensures ∙ same))
    (c.call_server_method.ensures.turn order is_proposed))

pub returns-then-kind-clause-unnamed : goal.returns-then-kind-clause-unnamed
returns-then-kind-clause-unnamed g t c = λ order is_proposed.
    rw c.in-Some.ensures.cases.0
    (server_hit order _ _ _ _ (step_kind _ _ _ _ _ _ c.server_turn.ensures.turn)
    (sym c.kind.ensures ∙ c.if-kind.true) is_proposed)

pub returns-else-kind-clause-unnamed : goal.returns-else-kind-clause-unnamed
returns-else-kind-clause-unnamed g t c = λ order is_proposed.
    rw c.in-Some.ensures.cases.0
    (server_miss order _ _ _ (c.call_server_method.ensures.unnamed order is_proposed))
