-- To what the login of a conversation leads, beside what the other end reports: names, user and
-- key.
use Rattle.std.proofs.Common.{◌≡◌, ℕ, List, Option, Some, ap, ◌∙◌}
use Rattle.login_setup.specs.declared.setup.PeerSetup.{PeerSetup}
use Rattle.login_setup.specs.Setup.{ServerSetup}
use Rattle.login_setup.specs.Users.{user_of}
use Rattle.login_setup.specs.declared.users.User.{User}
use Rattle.eap_method.specs.declared.values.Report.{Report}
use Rattle.eap_method.specs.Peer.{key_for}
use Rattle.peer_machine.specs.PeerTable.{PeerNow, peer_reports}
use Rattle.server_machine.specs.ServerTable.{ServerNow, server_reports}
use Rattle.login_laws.specs.Alone.{SameKeys}
use Rattle.eap_method.specs.Peer.{peer_report_of}
use Rattle.eap_method.specs.Server.{server_report_of}
use Rattle.peer_machine.specs.PeerTable.{selected_report}
use Rattle.server_machine.specs.ServerTable.{current_report}

-- an end reports what the object of its method does
pub peer_report_is : (now : PeerNow) (kind : ℕ) (report : Option Report)
    → now.vars.selected ≡ Some kind → peer_report_of kind now.views ≡ report
    → peer_reports now ≡ report
peer_report_is now kind report is_selected is = ap (selected_report now.views) is_selected ∙ is

pub server_report_is : (now : ServerNow) (kind : ℕ) (report : Option Report)
    → now.vars.current ≡ Some kind → server_report_of kind now.views ≡ report
    → server_reports now ≡ report
server_report_is now kind report is_current is = ap (current_report now.views) is_current ∙ is

-- the login of a view leads to the report, whose names and user are the server's, with this key
pub record LoginOf (setup : ServerSetup) (login : Option Report) (report : Report)
    (psk : List ℕ) : Type 0 where
  pub same : login ≡ Some report
  pub id_s : report.id_s ≡ setup.name
  pub user : User
  pub known : user_of setup.users report.id_p report.method ≡ Some user
  pub key : user.psk ≡ psk

pub login_too : (setup : ServerSetup) (one other : Option Report) (report : Report) (psk : List ℕ)
    → one ≡ other → LoginOf setup other report psk
    → LoginOf setup one report psk
login_too setup one other report psk e l =
    record { same = e ∙ l.same; id_s = l.id_s; user = l.user; known = l.known; key = l.key }

-- to what a login of the peer leads, with its own name, where the server has this key
pub record ResultsIn (setup : PeerSetup) (login : Option Report) (report : Report)
    (psk : List ℕ) : Type 0 where
  pub theirs : Report
  pub leads : login ≡ Some theirs
  pub same : SameKeys report theirs
  pub id_p : theirs.id_p ≡ setup.name
  pub key : psk ≡ key_for setup report.method

pub reaches_too : (setup : PeerSetup) (one other : Option Report) (report : Report) (psk : List ℕ)
    → one ≡ other → ResultsIn setup other report psk
    → ResultsIn setup one report psk
reaches_too setup one other report psk e l =
    record { theirs = l.theirs; leads = e ∙ l.leads; same = l.same; id_p = l.id_p; key = l.key }

-- what the peer reports is what the login of a conversation of the server leads to
pub record PeersLogin (peer_setup : PeerSetup) (server_setup : ServerSetup) (now : PeerNow)
    (theirs : Option Report) : Type 0 where
  pub report : Report
  pub holds : peer_reports now ≡ Some report
  pub id_p : report.id_p ≡ peer_setup.name
  pub login : LoginOf server_setup theirs report (key_for peer_setup report.method)

-- what the server reports has the keys to which the login of a conversation of the peer leads
pub record ServersLogin (peer_setup : PeerSetup) (server_setup : ServerSetup) (now : ServerNow)
    (theirs : Option Report) : Type 0 where
  pub report : Report
  pub holds : server_reports now ≡ Some report
  pub user : User
  pub id_s : report.id_s ≡ server_setup.name
  pub known : user_of server_setup.users report.id_p report.method ≡ Some user
  pub results_to : ResultsIn peer_setup theirs report user.psk
