-- A server that has restarted waits, and so does a backend.
use Rattle.tuvaddri_c.proofs.Stays.{server_restarted}
use Rattle.tuvaddri_c.proofs.restart.restart_server.Goals as goal

pub returns-in-Server-clause-settled : goal.returns-in-Server-clause-settled
returns-in-Server-clause-settled c before =
    server_restarted c.in-Server.machine c.restart_step-step.new.self _ c.args.nonce.now
    c.restart_step-step.ensures.step

pub returns-in-Backend-clause-settled : goal.returns-in-Backend-clause-settled
returns-in-Backend-clause-settled c before =
    server_restarted c.in-Backend.machine c.restart_step-step-in-Backend.new.self _ c.args.nonce.now
    c.restart_step-step-in-Backend.ensures.step
