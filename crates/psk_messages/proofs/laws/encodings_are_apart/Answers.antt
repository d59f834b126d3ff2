-- The law is the lemma of that name.
use Rattle.psk_messages.proofs.Grammar.{encodings_are_apart}
use Rattle.psk_messages.proofs.laws.encodings_are_apart.Goals as goal

pub returns : goal.returns
returns c = encodings_are_apart
