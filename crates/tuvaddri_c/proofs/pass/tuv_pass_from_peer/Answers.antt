-- After octets of the peer a pass-through waits, or has ended.
use Rattle.std.proofs.Common.{◌≡◌, true, subst, sym}
use Rattle.tuvaddri_c.proofs.Stays.{peer_passed}
use Rattle.tuvaddri_c.proofs.pass.tuv_pass_from_peer.Goals as goal
use Rattle.tuvaddri_c.specs.Settled.{is_settled}
use Rattle.tuvaddri_c.specs.declared.session.End.{End}
use Rattle.tuvaddri_c.specs.declared.session.Session.{Session}

pub returns-in-Pass-clause-settled : goal.returns-in-Pass-clause-settled
returns-in-Pass-clause-settled c before =
    peer_passed c.in-Pass.machine c.from_peer_step-step.new.self _ c.args.octets.now
    c.from_peer_step-step.ensures.step (subst (λ (e : End). is_settled e ≡ true) c.in-Pass.is
    (subst (λ (s : Session). is_settled s.end ≡ true) (sym c.session-session.ensures.value) before))
