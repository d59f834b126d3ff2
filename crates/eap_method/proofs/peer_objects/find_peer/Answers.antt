use Rattle.std.specs.Prelude.{◌==◌}
use Rattle.eap_method.specs.Peer.{peer_kind}
use Rattle.eap_method.proofs.Lists.{found_shown}
use Rattle.eap_method.proofs.peer_objects.find_peer.Goals as goal

pub returns : goal.returns
returns g c = found_shown (λ o. o.now) g.M.PeerMethod.peer_shown (λ s. peer_kind s == c.args.kind)
    _ c.object_of.result c.object_of.ensures
