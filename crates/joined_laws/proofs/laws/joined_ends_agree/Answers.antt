use Rattle.joined_laws.proofs.JoinedAgreement.{joined_ends_agree}
use Rattle.joined_laws.proofs.laws.joined_ends_agree.Goals as goal

pub returns : goal.returns
returns c = joined_ends_agree
