use Rattle.std.proofs.Common.{◌∙◌}
use Rattle.eap_world.specs.TwoRecords.{waits}
use Rattle.eap_world.proofs.ReceivedByPlaces.{received_more, none_received, marked_waits}
use Rattle.eap_world.proofs.nonces_left.receive.Goals as goal

pub loop-back-init : goal.loop-back-init
loop-back-init c =
    none_received c.first_octets-firsts.result c.args.octets.now
    (waits c.args.nonces.now c.args.heard.now) (marked_waits c.first_octets-firsts.result
    c.args.nonces.now c.args.heard.now c.first_octets-firsts.ensures)

pub loop-back-preserved : goal.loop-back-preserved
loop-back-preserved c =
    c.receive_from.ensures ∙ received_more c.args.octets.now c.loop-back.back
    (waits c.args.nonces.now c.args.heard.now) (waits c.args.nonces.now c.loop-back.heard)
    c.loop-back-test.true c.loop-back.invariant
