use Rattle.psk_ends.proofs.PeerChecks.{is_discarded}
use Rattle.psk_ends.proofs.peer.psk4.handle_psk3.Goals as goal

pub returns-in-Err-clause-turn : goal.returns-in-Err-clause-turn
returns-in-Err-clause-turn g c =
    rw c.requires.waits (is_discarded _ _ _ _ _ _ c.in-Err.ensures.octet)
