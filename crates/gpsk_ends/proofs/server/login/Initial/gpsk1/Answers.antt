use Rattle.std.proofs.Common.{refl, arith}
use Rattle.eap_packet.specs.declared.packet.Code.TheVariants as code
use Rattle.gpsk_messages.specs.Message.{gpsk1}
use Rattle.gpsk_ends.proofs.Capacities.{message_has_capacity}
use Rattle.gpsk_ends.proofs.server.login.Initial.gpsk1.Goals as goal

pub returns-clause-capacity : goal.returns-clause-capacity
returns-clause-capacity c =
    message_has_capacity code.Request c.args.id (gpsk1 c.as_slice.result.now c.args.self.now.nonce
    c.as_slice-2.result.now) c.write_gpsk_into.new.packet refl
    (omega (arith, c.as_slice.ensures.bounded, c.as_slice-2.ensures.bounded))
    c.write_gpsk_into.ensures
