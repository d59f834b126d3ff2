use Rattle.login_laws.proofs.AnyEnds.{any_ends_match}
use Rattle.login_laws.proofs.laws.any_ends_match.Goals as goal

pub returns : goal.returns
returns c = any_ends_match
