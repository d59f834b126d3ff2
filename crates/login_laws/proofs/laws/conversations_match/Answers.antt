use Rattle.login_laws.proofs.Conversations.{conversations_match}
use Rattle.login_laws.proofs.laws.conversations_match.Goals as goal

pub returns : goal.returns
returns c = conversations_match
