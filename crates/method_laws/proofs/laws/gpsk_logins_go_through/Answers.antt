-- The lemma is the law.
use Rattle.method_laws.proofs.GpskWhole as whole
use Rattle.method_laws.proofs.laws.gpsk_logins_go_through.Goals as goal

pub returns : goal.returns
returns c = whole.gpsk_logins_go_through
