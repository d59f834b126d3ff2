-- The law is the lemma of that name.
use Rattle.radius_carry.proofs.Sent.{replies_are_read_back}
use Rattle.radius_carry.proofs.laws.replies_are_read_back.Goals as goal

pub returns : goal.returns
returns c = replies_are_read_back
