-- What holds of the peer at every moment of a run, with the tags that it has accepted and made:
-- they are those of its method's history, which the view determines exactly, also if the login has
-- failed.
use Rattle.std.specs.Prelude.{◌≡◌, List, true, false}
use Rattle.login_setup.specs.declared.setup.PeerSetup.{PeerSetup}
use Rattle.eap_method.specs.BothPeers.{both_of}
use Rattle.eap_method.specs.Peer.{PeerViews}
use Rattle.eap_method.specs.declared.tags.TagRecord.{TagRecord}
use Rattle.peer_machine.specs.PeerTable.{PeerNow, is_fail}
use Rattle.eap_world.specs.Judgement.{is_success}
use Rattle.method_laws.specs.Objects.{PeerHasMethods}
use Rattle.method_laws.specs.PeerHistory.{PeerHas}

-- what holds of a peer that began with these objects, with the tags that it has accepted and made
pub record PeerInvariantOf (first : PeerViews) (setup : PeerSetup) (now : PeerNow)
    (accepted made : List TagRecord) : Type 0 where
  pub own : now.vars.setup ≡ setup
  pub objects : PeerHasMethods setup.methods first now.views
  pub has : PeerHas setup now.vars.selected now.views now.vars.decision accepted made
  -- SUCCESS comes from a decision other than FAIL
  pub sure : is_success now.vars.state ≡ true → is_fail now.vars.decision ≡ false

-- of one whose objects are of the two methods
abbrev pub PeerInvariant : PeerSetup → PeerNow → List TagRecord → List TagRecord → Type 0
PeerInvariant setup = PeerInvariantOf (both_of setup.methods) setup
