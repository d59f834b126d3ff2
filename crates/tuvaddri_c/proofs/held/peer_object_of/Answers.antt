-- What a peer has is what the object of its selected method has.
use Rattle.std.proofs.Common.{refl}
use Rattle.tuvaddri_c.proofs.Current.{of_peer, of_peer_at}
use Rattle.tuvaddri_c.proofs.held.peer_object_of.Goals as goal

pub returns-in-Peer : goal.returns-in-Peer
returns-in-Peer c =
    rw (c.in-Peer.is, of_peer c.in-Peer.machine _ c.selected.ensures.shown c.selected.ensures.view)
    refl

pub returns-in-Supplicant : goal.returns-in-Supplicant
returns-in-Supplicant c = rw (
  c.in-Supplicant.is,
  of_peer_at c.in-Supplicant.machine.peer _ _
      c.peer.ensures c.selected-in-Supplicant.ensures.shown c.selected-in-Supplicant.ensures.view,
)
    refl
