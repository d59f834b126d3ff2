-- A server whose timer has ended waits on, or has ended.
use Rattle.std.proofs.Common.{◌≡◌, true, subst, sym}
use Rattle.tuvaddri_c.proofs.Stays.{server_timed_out}
use Rattle.tuvaddri_c.proofs.server.tuv_server_timeout.Goals as goal
use Rattle.tuvaddri_c.specs.Settled.{is_settled}
use Rattle.tuvaddri_c.specs.declared.session.End.{End}
use Rattle.tuvaddri_c.specs.declared.session.Session.{Session}

pub returns-in-Server-clause-settled : goal.returns-in-Server-clause-settled
returns-in-Server-clause-settled c before =
    server_timed_out c.in-Server.machine c.timeout_step-step.new.self _
    c.timeout_step-step.ensures.step (subst (λ (e : End). is_settled e ≡ true) c.in-Server.is
    (subst (λ (s : Session). is_settled s.end ≡ true) (sym c.session-session.ensures.value) before))
