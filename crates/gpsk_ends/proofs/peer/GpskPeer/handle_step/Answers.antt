use Rattle.octet_lists.specs.Among.{gpsk_kind}
use Rattle.gpsk_ends.proofs.Requests.{has_a_type, request_bounded}
use Rattle.gpsk_ends.proofs.peer.GpskPeer.handle_step.Goals as goal

pub handle_request-requires-clause-header : goal.handle_request-requires-clause-header
handle_request-requires-clause-header g c = has_a_type gpsk_kind c.args.request.now c.requires

pub handle_request-requires-clause-size : goal.handle_request-requires-clause-size
handle_request-requires-clause-size g c = request_bounded gpsk_kind c.args.request.now c.requires
