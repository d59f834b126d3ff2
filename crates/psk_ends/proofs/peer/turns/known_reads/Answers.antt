use Rattle.eap_method.specs.PskPeer.{step}
use Rattle.psk_ends.proofs.peer.turns.known_reads.Goals as goal

pub returns-in-Over-clause-turn : goal.returns-in-Over-clause-turn
unfolding step
returns-in-Over-clause-turn g c = rw c.in-Over.is (c.idle_cause.ensures.peer _ c.in-Over.good)
