use Rattle.std.proofs.Common.{arith}
use Rattle.psk_messages.specs.Message.{psk2}
use Rattle.psk_ends.proofs.Capacities.{capacity_in_response}
use Rattle.psk_ends.proofs.peer.turns.write_psk2.Goals as goal

pub returns-clause-capacity : goal.returns-clause-capacity
returns-clause-capacity c =
    capacity_in_response c.args.id (psk2 c.rand_s.result.now c.rand_p.result c.args.mac.now
    c.as_slice.result.now) c.write_psk_into.new.packet
    (omega (arith, c.rand_s.ensures.size, c.as_slice.ensures.bounded)) c.write_psk_into.ensures
