use Rattle.maker.proofs.Discarded.{discarded}
use Rattle.maker.proofs.receive.receive_response.Goals as goal

pub returns-clause-unchanged : goal.returns-clause-unchanged
returns-clause-unchanged c is_discard = (discarded _ _ _ c.deliver.ensures.step is_discard).all

pub returns-clause-silent : goal.returns-clause-silent
returns-clause-silent c is_discard = (discarded _ _ _ c.deliver.ensures.step is_discard).sent
