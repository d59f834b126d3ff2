use Rattle.std.proofs.Common.{◌∙◌}
use Rattle.eap_method.proofs.PeerKeys.{credential_bounded}
use Rattle.eap_method.proofs.PeerViews.{begins, stays}
use Rattle.eap_method.proofs.peer_objects.start_one.Goals as goal

pub begin-requires : goal.begin-requires
begin-requires g c =
    rw (c.credential_for.ensures, c.kind-kind.ensures) (credential_bounded c.args.setup.now
    (g.M.PeerMethod.peer_shown c.args.method.now) c.requires.sound c.requires.keys (cc))

pub returns-then-peer_allows : goal.returns-then-peer_allows
returns-then-peer_allows g c =
    c.begin.ensures ∙ rw (c.credential_for.ensures, c.kind-kind.ensures) (begins _ _ (cc))

pub returns-else-peer_allows : goal.returns-else-peer_allows
returns-else-peer_allows g c = stays _ _ (cc)
