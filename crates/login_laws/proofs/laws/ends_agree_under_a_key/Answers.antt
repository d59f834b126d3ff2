use Rattle.login_laws.proofs.PresentUnderKey.{ends_agree_under}
use Rattle.login_laws.proofs.laws.ends_agree_under_a_key.Goals as goal

pub returns : goal.returns
returns c = ends_agree_under
