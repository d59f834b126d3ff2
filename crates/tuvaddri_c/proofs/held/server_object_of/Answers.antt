-- What a server has is what the object of its current method has.
use Rattle.std.proofs.Common.{refl}
use Rattle.tuvaddri_c.proofs.Current.{of_server}
use Rattle.tuvaddri_c.proofs.held.server_object_of.Goals as goal

pub returns-in-Server : goal.returns-in-Server
returns-in-Server c = rw (c.in-Server.is, of_server c.in-Server.machine _ c.current.ensures) refl

pub returns-in-Backend : goal.returns-in-Backend
returns-in-Backend c =
    rw (c.in-Backend.is, of_server c.in-Backend.machine _ c.current-in-Backend.ensures) refl
