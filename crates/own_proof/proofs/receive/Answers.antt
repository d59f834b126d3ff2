use Rattle.own_proof.proofs.Discarded.{discarded}
use Rattle.own_proof.proofs.receive.Goals as goal

pub returns-clause-unchanged : goal.returns-clause-unchanged
returns-clause-unchanged g c is_discard = (discarded _ _ _ c.deliver.ensures.step is_discard).all

pub returns-clause-silent : goal.returns-clause-silent
returns-clause-silent g c is_discard = (discarded _ _ _ c.deliver.ensures.step is_discard).sent
