use Rattle.end_pipe.proofs.Folding.{starts_so}
use Rattle.end_pipe.proofs.server_pipe.ServerPipe+M.start_into.Goals as goal

pub returns-clause-state : goal.returns-clause-state
returns-clause-state g c setup views first_id max_retrans unstarted =
    starts_so setup views first_id max_retrans _ _ _ c.start_by_table.ensures.start unstarted
