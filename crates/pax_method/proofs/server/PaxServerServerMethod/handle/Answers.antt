use Rattle.pax_method.proofs.Requests.{response_has_a_type, response_is_bounded}
use Rattle.pax_method.proofs.server.PaxServerServerMethod.handle.Goals as goal

pub receive-requires-clause-size : goal.receive-requires-clause-size
receive-requires-clause-size c = response_has_a_type _ _ c.requires.response

pub receive-requires-clause-bounded : goal.receive-requires-clause-bounded
receive-requires-clause-bounded c = response_is_bounded _ _ c.requires.response
