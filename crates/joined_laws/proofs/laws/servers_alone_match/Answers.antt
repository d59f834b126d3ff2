use Rattle.joined_laws.proofs.EndsAlone.{servers_alone_match}
use Rattle.joined_laws.proofs.laws.servers_alone_match.Goals as goal

pub returns : goal.returns
returns c = servers_alone_match
