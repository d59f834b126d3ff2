use Rattle.login_laws.proofs.GpskReflected.{reflected_gpsk_ends_agree}
use Rattle.login_laws.proofs.laws.reflected_gpsk_ends_agree.Goals as goal

pub returns : goal.returns
returns c = reflected_gpsk_ends_agree
