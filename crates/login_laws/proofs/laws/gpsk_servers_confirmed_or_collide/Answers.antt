use Rattle.login_laws.proofs.Confirmed.{gpsk_servers_confirmed_or_collide}
use Rattle.login_laws.proofs.laws.gpsk_servers_confirmed_or_collide.Goals as goal

pub returns : goal.returns
returns c = gpsk_servers_confirmed_or_collide
