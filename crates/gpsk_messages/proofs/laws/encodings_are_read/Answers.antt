-- The law is the lemma of that name.
use Rattle.gpsk_messages.proofs.Grammar.{encodings_are_read}
use Rattle.gpsk_messages.proofs.laws.encodings_are_read.Goals as goal

pub returns : goal.returns
returns c = encodings_are_read
