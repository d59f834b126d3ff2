use Rattle.joined_laws.proofs.EndsAlone.{ends_alone_match}
use Rattle.joined_laws.proofs.laws.ends_alone_match.Goals as goal

pub returns : goal.returns
returns c = ends_alone_match
