use Rattle.login_laws.proofs.PskReflected.{reflected_ends_agree}
use Rattle.login_laws.proofs.laws.reflected_ends_agree.Goals as goal

pub returns : goal.returns
returns c = reflected_ends_agree
