-- The name in the Identity Response (RFC 3748 section 5.1), which no MAC covers. A server whose users
-- are those of this name alone reports it.
use Rattle.std.specs.Prelude.{◌≡◌, ℕ, List, true, Some}
use Rattle.login_setup.specs.declared.setup.Setup.{Setup}
use Rattle.login_setup.specs.declared.users.User.{User}
use Rattle.eap_method.specs.declared.values.Report.{Report}
use Rattle.eap_world.specs.Judgement.{is_success}
use Rattle.login_laws.specs.AnyEnds.{IsOfSomeServer}
use Rattle.server_machine.specs.ServerTable.{server_reports}
use Rattle.world_laws.specs.EachConversation.{IsOneOf, OfServer}

-- each of the users has this name
abbrev pub AreNamed : List ℕ → List User → Type 0
AreNamed name users = (u : User) → IsOneOf u users → u.name ≡ name

pub record ReportsName (name : List ℕ) (s : OfServer) : Type 0 where
  pub report : Report
  pub reported : server_reports s.now ≡ Some report
  pub named : report.id_p ≡ name

abbrev pub ServersReportTheirUser : Type 0
ServersReportTheirUser =
    (setup : Setup) (name : List ℕ) (s : OfServer) → IsOfSomeServer setup s
    → AreNamed name setup.server.users → is_success s.now.vars.state ≡ true → ReportsName name s
