use Rattle.server_machine.proofs.outcome.settle_offer.Goals as goal

pub returns-else-has_first-clause-step : goal.returns-else-has_first-clause-step
returns-else-has_first-clause-step g c =
    λ views. rw c.if-has_first.false (c.end_badly.ensures.step views)
