use Rattle.maker.proofs.Requests.{response_has_a_type}
use Rattle.maker.proofs.server.Md5ServerServerMethod.handle.Goals as goal

pub check-requires : goal.check-requires
check-requires c = response_has_a_type _ _ c.requires.response
