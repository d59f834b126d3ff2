-- A peer that has restarted waits.
use Rattle.std.proofs.Common.{[], false, rules}
use Rattle.eap_method.specs.Tags.{no_tags}
use Rattle.tuvaddri_c.proofs.LastResponse.{restarted}
use Rattle.tuvaddri_c.proofs.Stays.{peer_restarted}
use Rattle.tuvaddri_c.proofs.restart.restart_peer.Goals as goal

pub returns-in-Peer-clause-settled : goal.returns-in-Peer-clause-settled
returns-in-Peer-clause-settled c before =
    peer_restarted c.in-Peer.machine c.restart_step-step.new.self _ c.args.nonce.now
    c.restart_step-step.ensures.step

pub returns-in-Peer-clause-peer : goal.returns-in-Peer-clause-peer
returns-in-Peer-clause-peer c = search (
  restarted c.in-Peer.machine c.restart_step-step.new.self c.restart_step-step.result [] no_tags
      false _ c.of_peer.ensures.sent c.args.nonce.now c.restart_step-step.ensures.step,
  rules,
)
