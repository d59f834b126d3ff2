use Rattle.login_laws.proofs.AnyEnds.{any_server_matches}
use Rattle.login_laws.proofs.laws.any_server_matches.Goals as goal

pub returns : goal.returns
returns c = any_server_matches
