use Rattle.login_laws.proofs.SessionIds.{session_ids_match}
use Rattle.login_laws.proofs.laws.session_ids_match.Goals as goal

pub returns : goal.returns
returns c = session_ids_match
