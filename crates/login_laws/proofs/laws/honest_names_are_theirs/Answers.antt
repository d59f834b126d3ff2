use Rattle.login_laws.proofs.laws.honest_names_are_theirs.Goals as goal
use Rattle.login_laws.proofs.Owner.{honest_names_are_theirs}

pub returns : goal.returns
returns c = honest_names_are_theirs
