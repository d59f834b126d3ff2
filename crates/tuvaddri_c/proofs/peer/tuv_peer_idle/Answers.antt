-- A peer that is told of an idle lower layer has ended.
use Rattle.std.proofs.Common.{[], rules}
use Rattle.eap_method.specs.Tags.{no_tags}
use Rattle.tuvaddri_c.proofs.LastResponse.{idled}
use Rattle.tuvaddri_c.proofs.Stays.{peer_idled}
use Rattle.tuvaddri_c.proofs.peer.tuv_peer_idle.Goals as goal

pub returns-in-Peer-clause-settled : goal.returns-in-Peer-clause-settled
returns-in-Peer-clause-settled c before =
    peer_idled c.in-Peer.machine c.idle_step-step.new.self _ c.idle_step-step.ensures.step

pub returns-in-Peer-clause-peer : goal.returns-in-Peer-clause-peer
returns-in-Peer-clause-peer c = search (
  idled c.in-Peer.machine c.idle_step-step.new.self c.idle_step-step.result [] no_tags
      c.session-session.result.now.fresh _ c.of_peer.ensures.sent c.idle_step-step.ensures.step,
  rules,
)
