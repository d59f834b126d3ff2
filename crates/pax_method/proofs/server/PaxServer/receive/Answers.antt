use Rattle.std.proofs.Common.{◌∙◌}
use Rattle.pax_method.proofs.Steps.{server_step_asked, server_step_checked}
use Rattle.pax_method.proofs.server.PaxServer.receive.Goals as goal

pub returns-in-Asked-clause-turn : goal.returns-in-Asked-clause-turn
returns-in-Asked-clause-turn c =
    rw (← c.self.view_is, c.in-Asked.is)
    (server_step_asked c.self.inside.ak c.self.inside.login c.args.response.now c.self.invariant.0
    c.self.invariant.1 c.args.users.now c.args.next_id
    ∙ rw c.in-Asked.is at c.receive_std_2.ensures.turn)

pub returns-in-Checked-clause-turn : goal.returns-in-Checked-clause-turn
returns-in-Checked-clause-turn c =
    rw (← c.self.view_is, c.in-Checked.is)
    (server_step_checked c.self.inside.ak c.self.inside.login c.args.response.now
    c.self.invariant.0 c.self.invariant.1 c.args.users.now c.args.next_id
    ∙ rw c.in-Checked.is at c.receive_ack.ensures.turn)
