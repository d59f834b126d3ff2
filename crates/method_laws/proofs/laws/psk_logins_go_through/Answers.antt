-- The lemma is the law.
use Rattle.method_laws.proofs.PskWhole as whole
use Rattle.method_laws.proofs.laws.psk_logins_go_through.Goals as goal

pub returns : goal.returns
returns c = whole.psk_logins_go_through
