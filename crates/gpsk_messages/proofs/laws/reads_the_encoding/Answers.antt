-- The law is the lemma of that name.
use Rattle.gpsk_messages.proofs.Grammar.{reads_the_encoding}
use Rattle.gpsk_messages.proofs.laws.reads_the_encoding.Goals as goal

pub returns : goal.returns
returns c = reads_the_encoding
