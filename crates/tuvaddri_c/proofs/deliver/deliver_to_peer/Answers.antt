-- The peer stands, after the octets, in a state in which it waits or has ended.
use Rattle.std.proofs.Common.{◌≡◌, true, subst, rules}
use Rattle.tuvaddri_c.proofs.LastResponse.{delivered}
use Rattle.tuvaddri_c.proofs.Stays.{peer_delivered}
use Rattle.tuvaddri_c.proofs.deliver.deliver_to_peer.Goals as goal
use Rattle.tuvaddri_c.specs.Settled.{is_settled}
use Rattle.tuvaddri_c.specs.declared.session.End.{End}

pub returns-in-Peer-clause-settled : goal.returns-in-Peer-clause-settled
returns-in-Peer-clause-settled c before =
    peer_delivered c.in-Peer.machine c.deliver_step-step.new.self _ c.args.octets.now
    c.deliver_step-step.ensures.step (subst (λ (e : End). is_settled e ≡ true) c.in-Peer.is before)

pub returns-in-Peer-clause-peer : goal.returns-in-Peer-clause-peer
returns-in-Peer-clause-peer c = search (
  delivered c.in-Peer.machine c.deliver_step-step.new.self c.deliver_step-step.result
      c.deliver_step-step.new.packet c.deliver_step-step.new.tags c.args.session.now.fresh _
      c.of_peer.ensures.sent c.args.octets.now c.deliver_step-step.ensures.step,
  rules,
)
