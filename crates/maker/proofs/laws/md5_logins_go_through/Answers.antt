use Rattle.maker.proofs.Logins.{md5_logins_go_through}
use Rattle.maker.proofs.laws.md5_logins_go_through.Goals as goal

pub returns : goal.returns
returns c = md5_logins_go_through
