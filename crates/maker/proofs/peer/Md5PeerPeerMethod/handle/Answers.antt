use Rattle.maker.proofs.Requests.{has_a_type}
use Rattle.maker.proofs.peer.Md5PeerPeerMethod.handle.Goals as goal

pub answer-requires : goal.answer-requires
answer-requires c = has_a_type _ _ c.requires
