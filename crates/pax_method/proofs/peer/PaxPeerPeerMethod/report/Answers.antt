use Rattle.std.proofs.Common.{sym, []}
use Rattle.eap_method.specs.Peer.{peer_report}
use Rattle.pax_method.specs.PaxPeer.{report_of}
use Rattle.pax_method.proofs.Steps.{peer_report_over}
use Rattle.pax_method.proofs.peer.PaxPeerPeerMethod.report.Goals as goal

pub returns-in-Over : goal.returns-in-Over
unfolding peer_report report_of
returns-in-Over c =
    rw (
      ← c.self.view_is,
      c.in-Over.is,
      c.copy.ensures,
      c.copy-in-Over.ensures,
      c.msk.ensures,
      c.emsk.ensures,
    )
    (sym (peer_report_over c.self.inside.ak c.self.inside.login [] c.self.invariant.0
    c.self.invariant.1 c.self.inside.server))
