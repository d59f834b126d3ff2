-- Whether both ends agree: in method, identities, suite and keys, which both policies allow.
use Rattle.std.specs.Prelude.{Bool, true, false, ◌==◌, ◌&&◌, not, if◌then◌else◌}
use Rattle.std.specs.Prelude.{Option, Some, None}
use Rattle.std.specs.Str.{bytes_eq}
use Rattle.login_setup.specs.declared.setup.PeerSetup.{PeerSetup}
use Rattle.login_setup.specs.Setup.{ServerSetup}
use Rattle.login_setup.specs.declared.users.User.{User}
use Rattle.octet_lists.specs.Among.{is_among}
use Rattle.login_setup.specs.Setup.{accepts_name}
use Rattle.login_setup.specs.Users.{user_of}
use Rattle.eap_packet.specs.declared.state.State.{State}
use Rattle.eap_packet.specs.declared.state.State.TheVariants as state
use Rattle.eap_method.specs.Reports.{allows_suite}
use Rattle.eap_method.specs.declared.values.Report.{Report}
use Rattle.peer_machine.specs.PeerTable.{peer_reports}
use Rattle.server_machine.specs.ServerTable.{server_reports}
use Rattle.eap_world.specs.World.{WorldNow}
use Rattle.eap_world.specs.declared.verdict.Verdict.{Verdict}
use Rattle.eap_world.specs.declared.verdict.Verdict.TheVariants.{Agree, Apart, Unfinished}

-- both reports are equal
abbrev pub same_report : Report → Report → Bool
same_report one other =
    (one.method == other.method)
    && (bytes_eq one.id_p other.id_p && (bytes_eq one.id_s other.id_s
    && ((one.suite
    == other.suite) && (bytes_eq one.msk other.msk && bytes_eq one.emsk other.emsk))))

-- the peer's policy allows the method, the server's name and the suite
abbrev pub peer_agrees : PeerSetup → Report → Bool
peer_agrees setup report =
    is_among setup.methods report.method
    && (accepts_name setup.accepts report.id_s && allows_suite setup.suites report)

-- there is a user, who is not barred
abbrev pub is_welcome : Option User → Bool
is_welcome None = false
is_welcome (Some user) = not user.barred

-- the server's policy allows the method, the suite and the user
abbrev pub server_agrees : ServerSetup → Report → Bool
server_agrees setup report =
    is_among setup.methods report.method
    && (allows_suite setup.suites report && is_welcome (user_of setup.users report.id_p
    report.method))

-- what both ends report is the same, and both policies allow it
abbrev pub agree : PeerSetup → ServerSetup → Report → Report → Bool
agree peer server one other =
    same_report one other && (peer_agrees peer one && server_agrees server one)

abbrev pub agreement_of : PeerSetup → ServerSetup → Option Report → Option Report → Bool
agreement_of peer server (Some one) (Some other) = agree peer server one other
agreement_of peer server (Some one) None = false
agreement_of peer server None reported = false

abbrev pub is_success : State → Bool
is_success s = elim s [ state.Success ↦ true | _ ↦ false ]

-- unfinished until both ends are in SUCCESS
unfoldable pub verdict_of : WorldNow → Verdict
verdict_of w =
    if is_success w.parties.peer.vars.state && is_success w.parties.server.vars.state
    then (if agreement_of w.parties.peer.vars.setup w.parties.server.vars.setup
    (peer_reports w.parties.peer) (server_reports w.parties.server) then Agree else Apart)
    else Unfinished
