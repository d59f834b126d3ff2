-- The lemma is the law.
use Rattle.login_laws.proofs.Confirmed as confirmed
use Rattle.login_laws.proofs.laws.gpsk_servers_confirmed.Goals as goal

pub returns : goal.returns
returns c = confirmed.gpsk_servers_confirmed
