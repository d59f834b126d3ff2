use Rattle.std.proofs.Common.{arith}
use Rattle.psk_messages.specs.Message.{psk4}
use Rattle.eap_method.specs.PskTags.{blank_tag}
use Rattle.psk_ends.proofs.Capacities.{capacity_in_response}
use Rattle.psk_ends.proofs.peer.psk4.write_psk4.Goals as goal

pub returns-clause-capacity : goal.returns-clause-capacity
returns-clause-capacity c =
    capacity_in_response c.args.id (psk4 c.rand_s.result.now 1 blank_tag 0)
    c.write_psk_into.new.packet (omega (arith, c.rand_s.ensures.size))
    c.write_psk_into.ensures
