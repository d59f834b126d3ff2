use Rattle.login_laws.proofs.Conversations.{conversations_are_all}
use Rattle.login_laws.proofs.laws.conversations_are_all.Goals as goal

pub returns : goal.returns
returns c = conversations_are_all
