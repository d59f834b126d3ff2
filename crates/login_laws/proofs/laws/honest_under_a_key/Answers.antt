use Rattle.login_laws.proofs.HonestUnder.{honest_under_a_key}
use Rattle.login_laws.proofs.laws.honest_under_a_key.Goals as goal

pub returns : goal.returns
returns c = honest_under_a_key
