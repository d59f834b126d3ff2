use Rattle.eap_method.specs.PskPeer.{step}
use Rattle.psk_ends.proofs.peer.turns.handle_request.Goals as goal

pub returns-in-Err-clause-turn : goal.returns-in-Err-clause-turn
unfolding step
returns-in-Err-clause-turn g c =
    rw (← c.stage.view_is, c.in-Fresh.is) (c.in-Err.ensures.reads c.stage.inside.nonce)
