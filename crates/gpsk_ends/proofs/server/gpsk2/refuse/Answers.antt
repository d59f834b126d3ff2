use Rattle.std.proofs.Common.{refl, arith}
use Rattle.eap_packet.specs.declared.packet.Code.TheVariants as code
use Rattle.gpsk_messages.specs.Message.{fail}
use Rattle.eap_method.specs.GpskServer.{psk_not_found}
use Rattle.gpsk_ends.proofs.Capacities.{message_has_capacity}
use Rattle.gpsk_ends.proofs.server.gpsk2.refuse.Goals as goal

pub returns-clause-capacity : goal.returns-clause-capacity
returns-clause-capacity g c =
    message_has_capacity code.Request c.args.next_id (fail psk_not_found)
    c.write_gpsk_into.new.packet refl (omega arith) c.write_gpsk_into.ensures
