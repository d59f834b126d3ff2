use Rattle.std.proofs.Common.{arith}
use Rattle.psk_messages.specs.Message.{psk1}
use Rattle.psk_ends.proofs.Capacities.{capacity_in_request}
use Rattle.psk_ends.proofs.server.turns.write_psk1.Goals as goal

pub returns-clause-capacity : goal.returns-clause-capacity
returns-clause-capacity c =
    capacity_in_request c.args.id (psk1 c.rand_of.result c.as_slice.result.now)
    c.write_psk_into.new.packet (omega (arith, c.as_slice.ensures.bounded))
    c.write_psk_into.ensures
