-- The lemma is the law.
use Rattle.smooth_laws.proofs.SmoothRuns as runs
use Rattle.smooth_laws.proofs.smooth_logins_succeed.Goals as goal

pub returns : goal.returns
returns c = runs.smooth_logins_succeed
