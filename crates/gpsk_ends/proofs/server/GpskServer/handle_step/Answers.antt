use Rattle.octet_lists.specs.Among.{gpsk_kind}
use Rattle.gpsk_ends.proofs.Requests.{response_has_a_type, response_bounded}
use Rattle.gpsk_ends.proofs.server.GpskServer.handle_step.Goals as goal

pub handle_response-requires-clause-header : goal.handle_response-requires-clause-header
handle_response-requires-clause-header g c =
    response_has_a_type gpsk_kind c.args.response.now c.requires.response

pub handle_response-requires-clause-size : goal.handle_response-requires-clause-size
handle_response-requires-clause-size g c =
    response_bounded gpsk_kind c.args.response.now c.requires.response
