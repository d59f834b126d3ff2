use Rattle.login_laws.proofs.PresentUnderKey.{one_end_implies_under}
use Rattle.login_laws.proofs.laws.one_end_implies_under_a_key.Goals as goal

pub returns : goal.returns
returns c = one_end_implies_under
