use Rattle.std.proofs.Common.{map, ◌∙◌}
use Rattle.eap_method.proofs.Lists.{found_some}
use Rattle.eap_method.proofs.ServerObjects.{is_found}
use Rattle.eap_method.proofs.server_objects.has_server.Goals as goal

pub returns : goal.returns
returns g c =
    c.is_some.ensures ∙ found_some (λ o.
    g.M.ServerMethod.server_shown o.now) c.find_server.result _ c.find_server.ensures
    ∙ is_found c.args.kind (map g.M.ServerMethod.server_shown c.args.methods.now)
