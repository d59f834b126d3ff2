-- What is reported of a method that succeeded.
use Rattle.std.specs.Prelude.{◌≡◌, ◌++◌, ℕ, length, drop, Option, Some, None, if◌then◌else◌}
use Rattle.eap_method.specs.Peer.{PeerShown, peer_report}
use Rattle.eap_method.specs.Server.{ServerShown, server_report}
use Rattle.eap_method.specs.declared.values.Report.{Report}
use Rattle.end_objects.specs.Objects.{peer_object_shown, server_object_shown, peer_nonces}
use Rattle.end_objects.specs.Objects.{server_nonces}
use Rattle.end_objects.specs.declared.objects.Nonces.{Nonces}
use Rattle.tuvaddri_c.specs.Ends.{end_reports, end_nonces, is_at_peer}
use Rattle.tuvaddri_c.specs.declared.held.Object.{Object}
use Rattle.tuvaddri_c.specs.declared.held.Object.TheVariants as object
use Rattle.tuvaddri_c.specs.declared.report.TuvReport.{TuvReport}
use Rattle.tuvaddri_c.specs.declared.session.End.{End}

-- the octets of the struct of a report, on 64 bits
abbrev pub report_size : ℕ
report_size = 712

-- what an end has: the report of the method that succeeded, with its nonces
pub record EndReport : Type 0 where
  pub report : Report
  pub nonces : Nonces

abbrev pub both : Option Report → Option Nonces → Option EndReport
both None rands = None
both (Some report) None = None
both (Some report) (Some rands) = Some (record { report = report; nonces = rands })

-- what the object of a peer's selected method has; that of a server's current one
abbrev pub peer_stored : Option PeerShown → Option EndReport
peer_stored None = None
peer_stored (Some shown) = both (peer_report shown) (peer_nonces shown)

abbrev pub server_stored : Option ServerShown → Option EndReport
server_stored None = None
server_stored (Some shown) = both (server_report shown) (server_nonces shown)

abbrev pub end_stored : End → Option EndReport
end_stored e = both (end_reports e) (end_nonces e)

-- what an end on the peer's side has, and any other end
abbrev pub stored_at_peer : End → Option EndReport
stored_at_peer e = if is_at_peer e then end_stored e else None

abbrev pub stored_at_server : End → Option EndReport
stored_at_server e = if is_at_peer e then None else end_stored e

-- what an object has: its report, and its nonces
abbrev pub object_reports : Object → Option Report
object_reports object.None = None
object_reports (object.Peer o) = peer_report (peer_object_shown o.now)
object_reports (object.Server o) = server_report (server_object_shown o.now)

abbrev pub object_nonces : Object → Option Nonces
object_nonces object.None = None
object_nonces (object.Peer o) = peer_nonces (peer_object_shown o.now)
object_nonces (object.Server o) = server_nonces (server_object_shown o.now)

abbrev pub object_stored : Object → Option EndReport
object_stored o = both (object_reports o) (object_nonces o)

-- what is reported of it; behind a name and behind a nonce is what was there before
pub record IsReport (held : EndReport) (before : TuvReport) (told : TuvReport) : Type 0 where
  pub size : told.size ≡ before.size
  pub method : told.method ≡ held.report.method
  pub suite : told.suite ≡ held.report.suite
  pub peer_length : told.peer_length ≡ length held.report.id_p
  pub server_length : told.server_length ≡ length held.report.id_s
  pub peer : told.peer ≡ held.report.id_p ++ drop (length held.report.id_p) before.peer
  pub server : told.server ≡ held.report.id_s ++ drop (length held.report.id_s) before.server
  pub msk : told.msk ≡ held.report.msk
  pub emsk : told.emsk ≡ held.report.emsk
  pub rand_length : told.rand_length ≡ length held.nonces.peer
  pub peer_rand : told.peer_rand
      ≡ held.nonces.peer ++ drop (length held.nonces.peer) before.peer_rand
  pub server_rand : told.server_rand
      ≡ held.nonces.server ++ drop (length held.nonces.server) before.server_rand
