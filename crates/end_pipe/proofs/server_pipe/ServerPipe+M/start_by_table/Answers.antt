use Rattle.server_machine.specs.ServerTable.{now_of}
use Rattle.end_pipe.proofs.Serving.{start_serves}
use Rattle.end_pipe.proofs.server_pipe.ServerPipe+M.start_by_table.Goals as goal

pub invariant_of-server : goal.invariant_of-server
invariant_of-server g c =
    let shown = g.M.ServerMethod.server_shown in
    (start_serves (now_of shown c.server.inside.machine) (now_of shown c.start_step-step.new.self)
    _ c.server.invariant c.start_step-step.ensures.step).role

pub returns-clause-started : goal.returns-clause-started
returns-clause-started g c =
    let shown = g.M.ServerMethod.server_shown in
    (start_serves (now_of shown c.server.inside.machine) (now_of shown c.start_step-step.new.self)
    _ c.server.invariant c.start_step-step.ensures.step).started
