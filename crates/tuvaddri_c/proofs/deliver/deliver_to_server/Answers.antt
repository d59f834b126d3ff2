-- The server stands, after the octets, in a state in which it waits or has ended.
use Rattle.std.proofs.Common.{◌≡◌, true, subst}
use Rattle.tuvaddri_c.proofs.Stays.{server_delivered}
use Rattle.tuvaddri_c.proofs.deliver.deliver_to_server.Goals as goal
use Rattle.tuvaddri_c.specs.Settled.{is_settled}
use Rattle.tuvaddri_c.specs.declared.session.End.{End}

pub returns-in-Server-clause-settled : goal.returns-in-Server-clause-settled
returns-in-Server-clause-settled c before =
    server_delivered c.in-Server.machine c.deliver_step-step.new.self _ c.args.octets.now
    c.deliver_step-step.ensures.step
    (subst (λ (e : End). is_settled e ≡ true) c.in-Server.is before)

pub returns-in-Backend-clause-settled : goal.returns-in-Backend-clause-settled
returns-in-Backend-clause-settled c before =
    server_delivered c.in-Backend.machine c.deliver_step-step-in-Backend.new.self _
    c.args.octets.now c.deliver_step-step-in-Backend.ensures.step
    (subst (λ (e : End). is_settled e ≡ true) c.in-Backend.is before)
