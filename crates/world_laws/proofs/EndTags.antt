-- What stands of an end tells its tags and its success, and the history of the object that has
-- succeeded.
use Rattle.std.proofs.Common.{◌≡◌, ◌≢◌, ℕ, List, Bool, true, false, Some, subst, sym, ap, ◌∙◌}
use Rattle.std.specs.Prelude.{option_map}
use Rattle.std.proofs.lemmas.Bool.{false≢true, true≢false}
use Rattle.login_setup.specs.Setup.{ServerSetup}
use Rattle.login_setup.specs.declared.setup.PeerSetup.{PeerSetup}
use Rattle.eap_method.specs.declared.tags.TagRecord.{TagRecord}
use Rattle.eap_method.specs.declared.values.Decision.{Decision}
use Rattle.eap_method.specs.declared.values.Decision.TheVariants as decision
use Rattle.eap_method.specs.Peer as peer
use Rattle.eap_method.specs.Peer.{PeerShown, PeerViews, peer_report, peer_report_of, reported}
use Rattle.eap_method.specs.Server as server
use Rattle.eap_method.specs.Server.{ServerShown, ServerViews, server_report, server_report_of}
use Rattle.peer_machine.specs.PeerTable.{PeerNow, is_fail, peer_reports, selected_report}
use Rattle.server_machine.specs.ServerTable.{ServerNow, current_report, server_reports}
use Rattle.eap_world.specs.Judgement.{is_success}
use Rattle.method_laws.specs.ByMethod.{PeerHasSucceeded, PeerTags, ServerHasSucceeded}
use Rattle.method_laws.specs.ByMethod.{ServerTags}
use Rattle.method_laws.specs.Objects.{PeerHasMethods, ServerHasMethods}
use Rattle.method_laws.specs.PeerHistory.{PeerHas, PeerHistory, each_initiated, selected_has}
use Rattle.method_laws.specs.ServerHistory.{ServerHas, ServerHistory, current_has, identity_round}
use Rattle.method_laws.specs.ServerHistory.{unproposed}
use Rattle.method_laws.proofs.PeerImplied as peers
use Rattle.method_laws.proofs.ServerImplied as servers
use Rattle.world_laws.specs.PeerInvariant.{PeerInvariant, PeerInvariantOf}
use Rattle.world_laws.specs.ServerInvariant.{ServerInvariant, ServerInvariantOf}

not_failing : (d : Decision) → is_fail d ≡ false → d ≢ decision.Fail
not_failing decision.Fail e same = true≢false e
not_failing d e same = absurd cc

-- the object of the selected method, and of the current one, that has succeeded
pub record PeerDone (first : PeerViews) (setup : PeerSetup) (now : PeerNow)
    (accepted made : List TagRecord)
    : Type 0 where
  pub shown : PeerShown
  pub kind : ℕ
  pub began : option_map peer.method_of (first kind) ≡ Some shown.method
  pub history : PeerHistory setup shown now.vars.decision accepted made
  pub sure : now.vars.decision ≢ decision.Fail
  pub reports : peer_reports now ≡ peer_report shown

pub record ServerDone (first : ServerViews) (setup : ServerSetup) (now : ServerNow)
    (accepted made : List TagRecord)
    : Type 0 where
  pub shown : ServerShown
  pub kind : ℕ
  pub began : option_map server.method_of (first kind) ≡ Some shown.method
  pub history : ServerHistory setup shown true accepted made
  pub reports : server_reports now ≡ server_report shown

peer_by : (first : PeerViews) (setup : PeerSetup) (now : PeerNow) (accepted made : List TagRecord)
    → PeerHasMethods setup.methods first now.views → now.vars.decision ≢ decision.Fail
    → PeerHas setup now.vars.selected now.views now.vars.decision accepted made
    → PeerDone first setup now accepted made
unfolding peer_report_of
peer_by first setup now _ _ objects sure (each_initiated unselected fails history) = absurd
    (sure fails)
peer_by first setup now _ _ objects sure
    (selected_has kind s accepted made is_selected in_view history) =
    record {
      shown = s;
      kind = kind;
      began = sym (objects.same kind) ∙ ap (option_map peer.method_of) in_view;
      history = history;
      sure = sure;
      reports = ap (selected_report now.views) is_selected ∙ ap reported in_view;
    }

server_by : (first : ServerViews) (setup : ServerSetup) (now : ServerNow) (good : Bool)
    (accepted made : List TagRecord)
    → ServerHasMethods setup.methods first now.views → good ≡ true
    → ServerHas setup now.vars.current now.views good accepted made
    → ServerDone first setup now accepted made
unfolding server_report_of
server_by first setup now _ _ _ objects well (unproposed none) = absurd (false≢true well)
server_by first setup now _ _ _ objects well (identity_round is_current) = absurd (false≢true well)
server_by first setup now _ _ _ objects well
    (current_has kind s good accepted made is_current no_identity in_view history) =
    record {
      shown = s;
      kind = kind;
      began = sym (objects.same kind) ∙ ap (option_map server.method_of) in_view;
      history = subst (λ (b : Bool). ServerHistory setup s b accepted made) well history;
      reports = ap (current_report now.views) is_current ∙ ap server.reported in_view;
    }

module _ {setup : PeerSetup} {now : PeerNow} {accepted made : List TagRecord}
    (stands : PeerInvariant setup now accepted made) where
  pub peer_tags : PeerTags setup now.vars.selected now.views accepted made
  peer_tags = peers.has_tags setup now.vars.selected now.views now.vars.decision accepted made
      stands.objects stands.has

  -- a decision other than FAIL comes from a success, and SUCCESS from such a decision
  pub peer_success : is_success now.vars.state ≡ true
      → PeerHasSucceeded now.vars.selected now.views
  peer_success won =
      peers.has_succeeded setup now.vars.selected now.views now.vars.decision accepted made
      stands.objects stands.has (not_failing now.vars.decision (stands.sure won))

module _ {first : PeerViews} {setup : PeerSetup} {now : PeerNow} {accepted made : List TagRecord}
    (stands : PeerInvariantOf first setup now accepted made) where
  pub peer_done : is_success now.vars.state ≡ true → PeerDone first setup now accepted made
  peer_done won = peer_by first setup now accepted made stands.objects
      (not_failing now.vars.decision (stands.sure won)) stands.has

module _ {setup : ServerSetup} {now : ServerNow} {accepted made : List TagRecord}
    (stands : ServerInvariant setup now accepted made) where
  pub server_tags : ServerTags setup now.vars.current now.views accepted made
  server_tags = servers.has_tags setup now.vars.current now.views stands.good accepted made
      stands.objects stands.has

  -- SUCCESS comes from a good end, and that from a success
  pub server_success : is_success now.vars.state ≡ true
      → ServerHasSucceeded now.vars.current now.views
  server_success won =
      servers.has_succeeded setup now.vars.current now.views stands.good accepted made
      stands.objects stands.has (stands.sure won)

module _ {first : ServerViews} {setup : ServerSetup} {now : ServerNow}
    {accepted made : List TagRecord}
    (stands : ServerInvariantOf first setup now accepted made) where
  pub server_done : is_success now.vars.state ≡ true → ServerDone first setup now accepted made
  server_done won =
      server_by first setup now stands.good accepted made stands.objects
      (stands.sure won) stands.has
