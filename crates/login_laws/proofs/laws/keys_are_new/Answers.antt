use Rattle.login_laws.proofs.NewKeys.{keys_are_new}
use Rattle.login_laws.proofs.laws.keys_are_new.Goals as goal

pub returns : goal.returns
returns c = keys_are_new
