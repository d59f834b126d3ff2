use Rattle.login_laws.proofs.Forgery.{each_tag_is_right}
use Rattle.login_laws.proofs.laws.each_tag_is_right.Goals as goal

pub returns : goal.returns
returns c = each_tag_is_right
