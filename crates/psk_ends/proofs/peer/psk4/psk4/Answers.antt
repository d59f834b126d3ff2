use Rattle.psk_ends.proofs.Capacities.{capacity_filled4}
use Rattle.psk_ends.proofs.peer.psk4.psk4.Goals as goal

pub returns-clause-capacity : goal.returns-clause-capacity
returns-clause-capacity g c =
    capacity_filled4 c.args.id c.args.login.now.rand_s _ c.write_psk4.new.packet
    c.seal_in.new.packet _ c.seal_in.ensures.size c.write_psk4.ensures.capacity
    c.write_psk4.ensures.packet c.seal_in.ensures.packet
