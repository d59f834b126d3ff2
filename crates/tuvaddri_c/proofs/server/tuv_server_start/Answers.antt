-- A server that has started waits.
use Rattle.tuvaddri_c.proofs.Stays.{server_started}
use Rattle.tuvaddri_c.proofs.server.tuv_server_start.Goals as goal

pub returns-in-Server-clause-settled : goal.returns-in-Server-clause-settled
returns-in-Server-clause-settled c before =
    server_started c.in-Server.machine c.start_step-step.new.self _ c.start_step-step.ensures.step
