use Rattle.eap_method.specs.PskServer.{rand_s_of}
use Rattle.psk_ends.proofs.Capacities.{capacity_filled3}
use Rattle.psk_ends.proofs.server.psk3.psk3.Goals as goal

pub returns-clause-capacity : goal.returns-clause-capacity
returns-clause-capacity g c =
    capacity_filled3 c.args.id (rand_s_of c.args.login.now)
    c.mac_s-mac.result _ c.write_psk3.new.packet c.seal_in.new.packet _ c.seal_in.ensures.size
    c.write_psk3.ensures.capacity c.write_psk3.ensures.packet c.seal_in.ensures.packet
