-- A server in SUCCESS has accepted tags of its user's key.
use Rattle.std.proofs.Common.{◌≡◌, ℕ, List, Some, sym, ap, subst, ◌∙◌}
use Rattle.login_setup.specs.Setup.{ServerSetup}
use Rattle.login_setup.specs.declared.setup.Setup.{Setup}
use Rattle.login_setup.specs.declared.users.User.{User}
use Rattle.login_setup.specs.Users.{user_of}
use Rattle.eap_method.specs.declared.tags.TagRecord.{TagRecord}
use Rattle.eap_method.specs.declared.values.Report.{Report}
use Rattle.server_machine.specs.ServerTable.{ServerNow, server_reports}
use Rattle.method_laws.specs.Records.{IsIn}
use Rattle.login_laws.specs.UnderKey.{IsOfKey}
use Rattle.method_laws.proofs.OneKey.{of_user, server_tag}
use Rattle.login_laws.proofs.Results.{server_report_is}
use Rattle.method_laws.proofs.Succeeding.{ServerSucceeds}

users_same : (one other : User) → Some one ≡ Some other → one ≡ other
users_same one other e = cc

reports_same : (one other : Report) → Some one ≡ Some other → one ≡ other
reports_same one other e = cc

report_key : (setup : ServerSetup) (now : ServerNow) (accepted made : List TagRecord)
    → ServerSucceeds setup now.vars.current now.views accepted made
    → (report : Report) → server_reports now ≡ Some report → (user : User)
    → user_of setup.users report.id_p report.method ≡ Some user
    → (t : TagRecord) → IsIn t accepted → t.psk ≡ user.psk
report_key setup now accepted made won report holds user known t is =
    let its = of_user setup now.vars.current now.views accepted made won in
    let same = reports_same report its.report
    (sym holds ∙ server_report_is now its.kind _ its.is_current its.reported) in
    its.key t is ∙ ap (λ (u : User). u.psk) (users_same its.user user (sym its.known
    ∙ subst (λ (r : Report). user_of setup.users r.id_p r.method ≡ Some user) same known))

module _ (setup : Setup) (key : List ℕ) (now : ServerNow) where
  pub keyed_server : (own : ServerSetup) (accepted made : List TagRecord)
      → own.users ≡ setup.server.users
      → ServerSucceeds own now.vars.current now.views accepted made
      → IsOfKey setup key now → (t : TagRecord) → IsIn t accepted → t.psk ≡ key
  keyed_server own accepted made users won of_key t is =
      report_key own now accepted made won of_key.report of_key.holds of_key.user
      (subst (λ (all : List User). user_of all of_key.report.id_p of_key.report.method
      ≡ Some of_key.user) (sym users) of_key.known) t is
      ∙ of_key.is_key

  -- whose tags are under a key, its user is of that key
  pub server_user : (accepted made : List TagRecord)
      → ServerSucceeds setup.server now.vars.current now.views accepted made
      → ((t : TagRecord) → IsIn t accepted → t.psk ≡ key)
      → IsOfKey setup key now
  server_user accepted made won keyed =
      let its = of_user setup.server now.vars.current now.views accepted made won in
      let one = server_tag setup.server now.vars.current now.views accepted made won in
      record {
        report = its.report;
        holds = server_report_is now its.kind _ its.is_current its.reported;
        user = its.user;
        known = its.known;
        is_key = sym (its.key one.tag one.is_in) ∙ keyed one.tag one.is_in;
      }
