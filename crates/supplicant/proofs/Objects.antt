-- No step of the peer takes an object away.
use Rattle.std.proofs.Common.{◌≡◌, List, map, ap, ◌∙◌}
use Rattle.eap_method.specs.Peer.{PeerShown, have_each, peer_kinds, peer_methods, kind_of}
use Rattle.peer_machine.specs.PeerTable.{PeerValue}
use Rattle.supplicant.specs.Table.{has_objects}

pub still_complete : {M : Type 0} (shown : M → PeerShown) (before after : PeerValue M)
    → peer_methods (map shown after.methods) ≡ peer_methods (map shown before.methods)
    → after.vars.setup.methods ≡ before.vars.setup.methods
    → has_objects shown after ≡ has_objects shown before
still_complete shown before after same methods = cc
