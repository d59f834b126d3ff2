-- The lemma is the law.
use Rattle.smooth_laws.proofs.LaterLogins as lemmas
use Rattle.smooth_laws.proofs.logins_succeed.Goals as goal

pub returns : goal.returns
returns c = lemmas.logins_succeed
