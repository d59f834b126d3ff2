-- Two ends in SUCCESS whose methods agree, agree, if the first tag that each accepted is one that
-- either end made; and so their reports are judged.
use Rattle.std.proofs.Common.{◌≡◌, ℕ, true, List, length, Option, refl, ap, ◌∙◌}
use Rattle.std.proofs.lemmas.Bool.{and_from, not_from_false}
use Rattle.login_setup.specs.declared.setup.Setup.{Setup}
use Rattle.login_setup.specs.Users.{user_of}
use Rattle.eap_method.specs.Peer.{PeerViews}
use Rattle.eap_method.specs.Server.{ServerViews}
use Rattle.eap_method.specs.declared.tags.TagRecord.{TagRecord}
use Rattle.eap_method.specs.declared.values.Report.{Report}
use Rattle.peer_machine.specs.PeerTable.{PeerNow, peer_reports}
use Rattle.server_machine.specs.ServerTable.{ServerNow, server_reports}
use Rattle.eap_world.specs.Judgement.{agreement_of, is_success, is_welcome, peer_agrees}
use Rattle.eap_world.specs.Judgement.{server_agrees}
use Rattle.world_laws.specs.MethodsAgree.{AllAgree}
use Rattle.method_laws.specs.Agreeing.{Agrees}
use Rattle.world_laws.specs.PeerInvariant.{PeerInvariantOf}
use Rattle.method_laws.specs.Records.{FirstInEither}
use Rattle.world_laws.specs.ServerInvariant.{ServerInvariantOf}
use Rattle.method_laws.proofs.AllowedSuites.{passes}
use Rattle.world_laws.proofs.EqualReports.{reports_agree}
use Rattle.world_laws.proofs.EndTags.{peer_done, server_done}

-- by the histories of their methods
pub ends_agree : {peers : PeerViews} {servers : ServerViews} → AllAgree peers servers
    → (setup : Setup) (p : PeerNow) (s : ServerNow)
    (peer_accepted initial_peer server_accepted initial_server : List TagRecord)
    → length setup.peer.nonce ≡ 32 → length setup.server.nonce ≡ 32
    → PeerInvariantOf peers setup.peer p peer_accepted initial_peer
    → ServerInvariantOf servers setup.server s server_accepted initial_server
    → FirstInEither peer_accepted initial_server initial_peer
    → FirstInEither server_accepted initial_peer initial_server
    → is_success p.vars.state ≡ true → is_success s.vars.state ≡ true
    → Agrees setup (peer_reports p) (server_reports s)
ends_agree all setup p s peer_accepted initial_peer server_accepted initial_server peer_nonce
    server_nonce p_in s_in of_peer of_server sure other_sure =
    let one = peer_done p_in sure in
    let other = server_done s_in other_sure in
    rw (one.reports, other.reports)
    (all.each one.kind other.kind one.shown other.shown one.began other.began setup p.vars.decision
    peer_accepted initial_peer server_accepted initial_server peer_nonce server_nonce one.history
    one.sure other.history of_peer of_server)

module _ (setup : Setup) (one other : Option Report) (are : Agrees setup one other) where
  by_peer : peer_agrees setup.peer are.report ≡ true
  by_peer = and_from _ _ are.allowed
      (and_from _ _ are.accepted (passes setup.peer.suites are.report are.allowed_suite))

  by_server : server_agrees setup.server are.report ≡ true
  by_server = and_from _ _ are.ordered
      (and_from _ _ (passes setup.server.suites are.report are.ordered_suite) (ap is_welcome
      (ap (λ (id : List ℕ). user_of setup.server.users id are.report.method) are.id_p ∙ are.known)
      ∙ not_from_false _ are.welcome))

  -- what both ends report is judged to agree
  pub agreed : agreement_of setup.peer setup.server one other ≡ true
  agreed = rw (are.reported, are.same)
      (reports_agree setup.peer setup.server are.report are.report refl by_peer by_server)
