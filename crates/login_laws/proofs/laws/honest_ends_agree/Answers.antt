use Rattle.login_laws.proofs.laws.honest_ends_agree.Goals as goal
use Rattle.login_laws.proofs.HonestRuns.{honest_ends_agree}

pub returns : goal.returns
returns c = honest_ends_agree
