-- The lemma is the law.
use Rattle.smooth_laws.proofs.Again as lemmas
use Rattle.smooth_laws.proofs.runs_go_on_as_their_own.Goals as goal

pub returns : goal.returns
returns c = lemmas.runs_go_on_as_their_own
