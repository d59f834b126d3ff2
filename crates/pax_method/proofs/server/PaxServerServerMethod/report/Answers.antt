use Rattle.std.proofs.Common.{sym, []}
use Rattle.eap_method.specs.Server.{server_report}
use Rattle.pax_method.specs.PaxPeer.{report_of}
use Rattle.pax_method.proofs.Steps.{server_report_over}
use Rattle.pax_method.proofs.server.PaxServerServerMethod.report.Goals as goal

pub returns-in-Over : goal.returns-in-Over
unfolding server_report report_of
returns-in-Over c =
    rw (
      ← c.self.view_is,
      c.in-Over.is,
      c.copy.ensures,
      c.copy-in-Over.ensures,
      c.msk.ensures,
      c.emsk.ensures,
    )
    (sym (server_report_over c.self.inside.ak c.self.inside.login [] c.self.invariant.0
    c.self.invariant.1 c.self.inside.server))
