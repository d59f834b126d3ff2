-- What a machine has is what the object of its current method has.
use Rattle.tuvaddri_c.proofs.Current.{of_peer, of_peer_at, of_server}
use Rattle.tuvaddri_c.proofs.held.object_of.Goals as goal

pub returns-in-Peer : goal.returns-in-Peer
returns-in-Peer c =
    rw (c.in-Peer.is, of_peer c.in-Peer.machine _ c.selected.ensures.shown c.selected.ensures.view)
    c.of_peer.ensures

pub returns-in-Server : goal.returns-in-Server
returns-in-Server c =
    rw (c.in-Server.is, of_server c.in-Server.machine _ c.current.ensures) c.of_server.ensures

pub returns-in-Backend : goal.returns-in-Backend
returns-in-Backend c =
    rw (c.in-Backend.is, of_server c.in-Backend.machine _ c.current-in-Backend.ensures)
    c.of_server-in-Backend.ensures

pub returns-in-Supplicant : goal.returns-in-Supplicant
returns-in-Supplicant c = rw (
  c.in-Supplicant.is,
  of_peer_at c.in-Supplicant.machine.peer _ _
      c.peer.ensures c.selected-in-Supplicant.ensures.shown c.selected-in-Supplicant.ensures.view,
)
    c.of_peer-in-Supplicant.ensures
