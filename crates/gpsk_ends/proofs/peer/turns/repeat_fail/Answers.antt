use Rattle.std.proofs.Common.{refl, arith}
use Rattle.eap_packet.specs.declared.packet.Code.TheVariants as code
use Rattle.gpsk_messages.specs.Message.{fail}
use Rattle.gpsk_ends.proofs.Capacities.{message_has_capacity}
use Rattle.gpsk_ends.proofs.peer.turns.repeat_fail.Goals as goal

pub returns-clause-capacity : goal.returns-clause-capacity
returns-clause-capacity g c =
    message_has_capacity code.Response c.args.id (fail c.args.code)
    c.write_gpsk_into.new.packet refl (omega arith) c.write_gpsk_into.ensures
