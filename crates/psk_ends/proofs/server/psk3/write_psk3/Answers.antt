use Rattle.std.proofs.Common.{arith}
use Rattle.psk_messages.specs.Message.{psk3}
use Rattle.eap_method.specs.PskTags.{blank_tag}
use Rattle.psk_ends.proofs.Capacities.{capacity_in_request}
use Rattle.psk_ends.proofs.server.psk3.write_psk3.Goals as goal

pub returns-clause-capacity : goal.returns-clause-capacity
returns-clause-capacity c =
    capacity_in_request c.args.id (psk3 c.rand_s.result c.args.mac.now 0 blank_tag 0)
    c.write_psk_into.new.packet (omega arith) c.write_psk_into.ensures
