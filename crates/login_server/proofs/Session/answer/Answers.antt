-- A request for which the backend sends nothing changes nothing.
use Rattle.std.proofs.Common.{ap, sym, ◌∙◌}
use Rattle.eap_method.specs.Steps.{Step}
use Rattle.login_server.proofs.Silent.{unchanged_if_silent}
use Rattle.login_server.proofs.Session.answer.Goals as goal

pub returns-in_err-packet-clause-unchanged : goal.returns-in_err-packet-clause-unchanged
returns-in_err-packet-clause-unchanged g c =
    unchanged_if_silent _ _ _ _ _ c.deliver.ensures.step
    (ap (λ (step : Step). step.sent) (sym c.branch.view_is) ∙ c.in_err-packet.was)
