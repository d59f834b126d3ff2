use Rattle.octet_lists.specs.Among.{psk_kind}
use Rattle.psk_ends.proofs.Requests.{has_a_type}
use Rattle.psk_ends.proofs.peer.PskPeer.handle_step.Goals as goal

pub handle_request-requires : goal.handle_request-requires
handle_request-requires g c = has_a_type psk_kind c.args.request.now c.requires
