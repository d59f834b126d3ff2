use Rattle.answer_text.proofs.PacketCuts.{typed_parts}
use Rattle.answer_text.proofs.packet.put_typed.Goals as goal

pub returns : goal.returns
returns g c = rw (typed_parts) c.put_parts.ensures
