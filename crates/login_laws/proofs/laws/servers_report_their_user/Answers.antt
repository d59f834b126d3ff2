use Rattle.login_laws.proofs.Identity.{servers_report_their_user}
use Rattle.login_laws.proofs.laws.servers_report_their_user.Goals as goal

pub returns : goal.returns
returns c = servers_report_their_user
