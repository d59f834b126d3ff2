use Rattle.std.proofs.Common.{[]}
use Rattle.eap_world.proofs.ReceivedByPlaces.{all_marked, one_more_marked}
use Rattle.eap_world.proofs.nonces_left.first_octets.Goals as goal

pub loop-nonce-preserved : goal.loop-nonce-preserved
loop-nonce-preserved c =
    one_more_marked c.loop-nonce.firsts c.mark_first.new.firsts c.args.nonces.now
    c.loop-nonce.nonce-index [] c.loop-nonce-test.true c.mark_first.ensures.size
    c.mark_first.ensures.first c.mark_first.ensures.preserves c.loop-nonce.invariant

pub returns : goal.returns
returns c = all_marked c.loop-nonce.firsts c.args.nonces.now c.loop-nonce.nonce-index
    c.loop-nonce-test.false c.loop-nonce.invariant
