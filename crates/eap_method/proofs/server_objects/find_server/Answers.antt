use Rattle.std.specs.Prelude.{◌==◌}
use Rattle.eap_method.specs.Server.{server_kind}
use Rattle.eap_method.proofs.Lists.{found_shown}
use Rattle.eap_method.proofs.server_objects.find_server.Goals as goal

pub returns : goal.returns
returns g c = found_shown (λ o. o.now) g.M.ServerMethod.server_shown
    (λ s. server_kind s == c.args.kind) _ c.object_of.result c.object_of.ensures
