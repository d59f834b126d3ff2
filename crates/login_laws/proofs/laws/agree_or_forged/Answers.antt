use Rattle.login_laws.proofs.Forgery.{agree_or_forged}
use Rattle.login_laws.proofs.laws.agree_or_forged.Goals as goal

pub returns : goal.returns
returns c = agree_or_forged
