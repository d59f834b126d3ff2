-- The lemma is the law.
use Rattle.smooth_laws.proofs.Restarts as lemmas
use Rattle.smooth_laws.proofs.restarts_start_anew.Goals as goal

pub returns : goal.returns
returns c = lemmas.restarts_start_anew
