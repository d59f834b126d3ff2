use Rattle.std.proofs.Common.{◌∙◌, ap, sym, refl}
use Rattle.eap_method.proofs.Lists.{empty_of}
use Rattle.eap_method.proofs.ServerObjects.{offer_hit, offer_miss, offer_none, requests_method}
use Rattle.eap_method.specs.Server.{kind_of, method_of}
use Rattle.eap_method.proofs.ServerViews.{begun_initiates}
use Rattle.eap_method.proofs.Unnamed.{server_hit, server_miss}
use Rattle.eap_method.proofs.server_objects.+offer_method.Goals as goal

pub returns-in-None-clause-offer : goal.returns-in-None-clause-offer
returns-in-None-clause-offer g t c = λ order is_proposed.
    rw (empty_of _ c.in-None.ensures.cases) (offer_none _ _ _ order _)

pub returns-then-kind-clause-offer : goal.returns-then-kind-clause-offer
returns-then-kind-clause-offer g t c = λ order is_proposed.
    rw c.in-Some.ensures.cases.0
    (offer_hit _ _ _ order _ _ _ _ _ _ c.begin.ensures c.first_into.ensures.first
    (sym c.kind.ensures ∙ c.if-kind.true) is_proposed)

pub returns-then-kind-clause-methods : goal.returns-then-kind-clause-methods
returns-then-kind-clause-methods g t c =
    rw c.in-Some.ensures.cases.0
    (rw (requests_method _ _ _ _ c.first_into.ensures.first ∙ ap method_of c.begin.ensures) refl)

pub returns-else-kind-clause-offer : goal.returns-else-kind-clause-offer
returns-else-kind-clause-offer g t c = λ order is_proposed.
    rw c.in-Some.ensures.cases.0
    (offer_miss _ _ _ order _ _ _ _ _ (λ same. c.if-kind.false (c.kind.ensures ∙ same))
    (c.offer_method.ensures.offer order is_proposed))

pub returns-then-kind-clause-unnamed : goal.returns-then-kind-clause-unnamed
returns-then-kind-clause-unnamed g t c = λ order is_proposed.
    rw c.in-Some.ensures.cases.0
    (server_hit order _ _ _ _ (ap kind_of (requests_method _ _ _ _ c.first_into.ensures.first
    ∙ ap method_of c.begin.ensures)) (sym c.kind.ensures ∙ c.if-kind.true) is_proposed)

pub returns-else-kind-clause-unnamed : goal.returns-else-kind-clause-unnamed
returns-else-kind-clause-unnamed g t c = λ order is_proposed.
    rw c.in-Some.ensures.cases.0
    (server_miss order _ _ _ (c.offer_method.ensures.unnamed order is_proposed))

pub first_into-requires : goal.first_into-requires
first_into-requires g t c = begun_initiates _ _ _ _ c.begin.ensures
