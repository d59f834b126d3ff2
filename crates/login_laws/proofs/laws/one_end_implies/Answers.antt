use Rattle.login_laws.proofs.Conversations.{one_end_implies}
use Rattle.login_laws.proofs.laws.one_end_implies.Goals as goal

pub returns : goal.returns
returns c = one_end_implies
