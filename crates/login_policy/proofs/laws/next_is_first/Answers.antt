-- The law is the lemma of nearly that name.
use Rattle.login_policy.proofs.Firsts.{next_is_the_first}
use Rattle.login_policy.proofs.laws.next_is_first.Goals as goal

pub returns : goal.returns
returns c = next_is_the_first
