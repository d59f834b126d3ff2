use Rattle.psk_ends.proofs.ServerChecks.{is_dropped}
use Rattle.psk_ends.proofs.server.psk4.handle_psk4.Goals as goal

pub returns-in-Err : goal.returns-in-Err
returns-in-Err g c = λ packet. rw c.requires.awaits (is_dropped _ _ _ _ _ c.in-Err.ensures.octet)
