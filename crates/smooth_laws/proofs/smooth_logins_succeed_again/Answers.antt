-- The lemma is the law.
use Rattle.smooth_laws.proofs.Again as again
use Rattle.smooth_laws.proofs.smooth_logins_succeed_again.Goals as goal

pub returns : goal.returns
returns c = again.smooth_logins_succeed_again
