use Rattle.login_laws.proofs.OwnTags.{gpsk_peers_accept_no_own_tags}
use Rattle.login_laws.proofs.laws.gpsk_peers_accept_no_own_tags.Goals as goal

pub returns : goal.returns
returns c = gpsk_peers_accept_no_own_tags
