-- The law is the lemma of nearly that name.
use Rattle.login_policy.proofs.Firsts.{picked_is_the_first}
use Rattle.login_policy.proofs.laws.picked_is_first.Goals as goal

pub returns : goal.returns
returns c = picked_is_the_first
