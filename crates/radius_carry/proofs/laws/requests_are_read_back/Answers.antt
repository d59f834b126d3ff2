-- The law is the lemma of that name.
use Rattle.radius_carry.proofs.Sent.{requests_are_read_back}
use Rattle.radius_carry.proofs.laws.requests_are_read_back.Goals as goal

pub returns : goal.returns
returns c = requests_are_read_back
