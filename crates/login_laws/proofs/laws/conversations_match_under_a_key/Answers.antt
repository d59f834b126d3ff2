use Rattle.login_laws.proofs.UnderKey.{conversations_match_under}
use Rattle.login_laws.proofs.laws.conversations_match_under_a_key.Goals as goal

pub returns : goal.returns
returns c = conversations_match_under
