-- What holds of the server at every moment of a run, with the tags that it has accepted and made:
-- they are those of its method's history, which the view determines exactly, also if the login has
-- failed.
use Rattle.std.specs.Prelude.{◌≡◌, List, Bool, true, false, None}
use Rattle.login_setup.specs.Setup.{ServerSetup}
use Rattle.eap_method.specs.BothServers.{both_of}
use Rattle.eap_method.specs.Server.{ServerViews}
use Rattle.eap_method.specs.declared.tags.TagRecord.{TagRecord}
use Rattle.server_machine.specs.ServerTable.{ServerNow, is_proposed, is_started}
use Rattle.server_machine.specs.Variables.{ServerVariables}
use Rattle.eap_world.specs.Judgement.{is_success}
use Rattle.method_laws.specs.Objects.{ServerHasMethods}
use Rattle.method_laws.specs.Records.{AreNone}
use Rattle.method_laws.specs.ServerHistory.{ServerHas}

-- a server that has not started: neither a method nor an Identifier is current
pub record IsUntouched (vars : ServerVariables) : Type 0 where
  pub no_method : vars.current ≡ None
  pub no_id : vars.current_id ≡ None

-- what holds of a server that began with these objects, with the tags that it has accepted and made
pub record ServerInvariantOf (first : ServerViews) (setup : ServerSetup) (now : ServerNow)
    (accepted made : List TagRecord) : Type 0 where
  pub own : now.vars.setup ≡ setup
  pub objects : ServerHasMethods setup.methods first now.views
  -- whether its current method has ended well
  pub good : Bool
  pub has : ServerHas setup now.vars.current now.views good accepted made
  pub unstarted : is_started now.vars ≡ false → IsUntouched now.vars
  -- a method that is only proposed has none
  pub proposed : is_proposed now.vars.progress ≡ true → AreNone accepted made
  -- SUCCESS comes from a good end
  pub sure : is_success now.vars.state ≡ true → good ≡ true

-- of one whose objects are of the two methods
abbrev pub ServerInvariant : ServerSetup → ServerNow → List TagRecord → List TagRecord → Type 0
ServerInvariant setup = ServerInvariantOf (both_of setup.methods) setup
