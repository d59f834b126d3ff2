use Rattle.octet_lists.specs.Among.{psk_kind}
use Rattle.psk_ends.proofs.Requests.{response_has_a_type}
use Rattle.psk_ends.proofs.server.PskServer.handle_step.Goals as goal

pub handle_response-requires-clause-size : goal.handle_response-requires-clause-size
handle_response-requires-clause-size g c =
    response_has_a_type psk_kind c.args.response.now c.requires.response
