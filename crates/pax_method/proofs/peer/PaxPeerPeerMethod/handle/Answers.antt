use Rattle.pax_method.proofs.Requests.{has_a_type, is_bounded}
use Rattle.pax_method.proofs.peer.PaxPeerPeerMethod.handle.Goals as goal

pub receive-requires-clause-size : goal.receive-requires-clause-size
receive-requires-clause-size c = has_a_type _ _ c.requires

pub receive-requires-clause-bounded : goal.receive-requires-clause-bounded
receive-requires-clause-bounded c = is_bounded _ _ c.requires
