use Rattle.std.proofs.Common.{map, ◌∙◌}
use Rattle.eap_method.proofs.Lists.{found_some}
use Rattle.eap_method.proofs.PeerObjects.{is_found}
use Rattle.eap_method.proofs.peer_objects.has_peer.Goals as goal

pub returns : goal.returns
returns g c =
    c.is_some.ensures
    ∙ found_some (λ o. g.M.PeerMethod.peer_shown o.now) c.find_peer.result _ c.find_peer.ensures
    ∙ is_found c.args.kind (map g.M.PeerMethod.peer_shown c.args.methods.now)
