-- A peer that is told of failure has ended.
use Rattle.std.proofs.Common.{[], rules}
use Rattle.eap_method.specs.Tags.{no_tags}
use Rattle.tuvaddri_c.proofs.LastResponse.{rejected}
use Rattle.tuvaddri_c.proofs.Stays.{peer_rejected}
use Rattle.tuvaddri_c.proofs.peer.tuv_peer_alt_reject.Goals as goal

pub returns-in-Peer-clause-settled : goal.returns-in-Peer-clause-settled
returns-in-Peer-clause-settled c before =
    peer_rejected c.in-Peer.machine c.alt_reject_step-step.new.self _
    c.alt_reject_step-step.ensures.step

pub returns-in-Peer-clause-peer : goal.returns-in-Peer-clause-peer
returns-in-Peer-clause-peer c = search (
  rejected c.in-Peer.machine c.alt_reject_step-step.new.self c.alt_reject_step-step.result []
      no_tags c.session-session.result.now.fresh _ c.of_peer.ensures.sent
      c.alt_reject_step-step.ensures.step,
  rules,
)
