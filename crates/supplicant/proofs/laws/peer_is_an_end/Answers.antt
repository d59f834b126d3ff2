-- The law is the lemma of that name.
use Rattle.supplicant.proofs.Feeding.{peer_is_an_end}
use Rattle.supplicant.proofs.laws.peer_is_an_end.Goals as goal

pub returns : goal.returns
returns c = peer_is_an_end
