use Rattle.std.proofs.Common.{◌∙◌}
use Rattle.pax_method.proofs.Steps.{peer_step_initial, peer_step_waiting}
use Rattle.pax_method.proofs.peer.PaxPeer.receive.Goals as goal

pub returns-in-Initial-clause-turn : goal.returns-in-Initial-clause-turn
returns-in-Initial-clause-turn c =
    rw (← c.self.view_is, c.in-Initial.is)
    (peer_step_initial c.self.inside.ak c.self.inside.login c.args.request.now c.self.invariant.0
    c.self.invariant.1
    ∙ rw c.in-Initial.is at c.receive_std_1.ensures.turn)

pub returns-in-Waiting-clause-turn : goal.returns-in-Waiting-clause-turn
returns-in-Waiting-clause-turn c =
    rw (← c.self.view_is, c.in-Waiting.is)
    (peer_step_waiting c.self.inside.ak c.self.inside.login c.args.request.now c.self.invariant.0
    c.self.invariant.1
    ∙ rw c.in-Waiting.is at c.receive_std_3.ensures.turn)
