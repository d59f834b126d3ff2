-- A server reports the name of one of its users.
use Rattle.std.proofs.Common.{◌≡◌, ℕ, List, [], ◌∷◌, Bool, true, false, cond, Some}
use Rattle.std.proofs.Common.{refl, sym, ◌∙◌}
use Rattle.std.specs.Prelude.{◌==◌}
use Rattle.std.specs.Str.{bytes_eq}
use Rattle.std.proofs.lemmas.Bool.{and_parts}
use Rattle.std.proofs.lemmas.Slice.Eq.{bytes_eq-Decides}
use Rattle.login_setup.specs.Users.{is_named, user_of}
use Rattle.login_setup.specs.declared.users.User.{User}
use Rattle.login_laws.specs.Identity.{AreNamed, ServersReportTheirUser}
use Rattle.login_laws.proofs.AnyEnds.{server_known}
use Rattle.login_laws.proofs.Matching.{server_won}
use Rattle.login_laws.proofs.Results.{server_report_is}
use Rattle.method_laws.proofs.OneKey.{of_user}
use Rattle.server_machine.specs.ServerTable.{setup_with_nonce}
use Rattle.world_laws.specs.EachConversation.{here, later, server_nonce}

-- a name by which a user is found is that of the users
found_name : (name : List ℕ) (users : List User) (id : List ℕ) (kind : ℕ) (user : User)
    → AreNamed name users → user_of users id kind ≡ Some user → id ≡ name
found_name name [] id kind user named e = absurd cc
found_name name (u ∷ rest) id kind user named e =
    by (is_named id kind u) refl (found_name name rest id kind user (λ v is. named v (later u rest is)))
    e
  where
    by : (b : Bool) → is_named id kind u ≡ b → (user_of rest id kind ≡ Some user → id ≡ name)
        → cond b (Some u) (user_of rest id kind) ≡ Some user → id ≡ name
    by true is behind found =
        let parts = and_parts (u.kind == kind) (bytes_eq u.name id) is in
        sym ((bytes_eq-Decides u.name id).0 parts.1) ∙ named u (here rest)
    by false is behind found = behind found

pub servers_report_their_user : ServersReportTheirUser
servers_report_their_user setup name s of named s_in =
    let known = server_known setup s of in
    let its = of_user (setup_with_nonce setup.server (server_nonce s)) s.now.vars.current
    s.now.views s.accepted s.made (server_won setup s known s_in) in
    record {
      report = its.report;
      reported = server_report_is s.now its.kind _ its.is_current its.reported;
      named = found_name name setup.server.users its.report.id_p its.report.method its.user named
          its.known;
    }
