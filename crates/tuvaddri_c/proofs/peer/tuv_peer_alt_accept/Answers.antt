-- A peer that is told of success has ended, or stands as it stood.
use Rattle.std.proofs.Common.{◌≡◌, [], true, subst, sym, rules}
use Rattle.eap_method.specs.Tags.{no_tags}
use Rattle.tuvaddri_c.proofs.LastResponse.{accepted}
use Rattle.tuvaddri_c.proofs.Stays.{peer_accepted}
use Rattle.tuvaddri_c.proofs.peer.tuv_peer_alt_accept.Goals as goal
use Rattle.tuvaddri_c.specs.Settled.{is_settled}
use Rattle.tuvaddri_c.specs.declared.session.End.{End}
use Rattle.tuvaddri_c.specs.declared.session.Session.{Session}

pub returns-in-Peer-clause-settled : goal.returns-in-Peer-clause-settled
returns-in-Peer-clause-settled c before =
    peer_accepted c.in-Peer.machine c.alt_accept_step-step.new.self _
    c.alt_accept_step-step.ensures.step (subst (λ (e : End). is_settled e ≡ true) c.in-Peer.is
    (subst (λ (s : Session). is_settled s.end ≡ true) (sym c.session-session.ensures.value) before))

pub returns-in-Peer-clause-peer : goal.returns-in-Peer-clause-peer
returns-in-Peer-clause-peer c = search (
  accepted c.in-Peer.machine c.alt_accept_step-step.new.self c.alt_accept_step-step.result []
      no_tags c.session-session.result.now.fresh _ c.of_peer.ensures.sent
      c.alt_accept_step-step.ensures.step,
  rules,
)
