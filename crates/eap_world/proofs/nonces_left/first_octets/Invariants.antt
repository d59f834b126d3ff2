use Rattle.std.proofs.Common.{take}
use Rattle.eap_world.specs.TwoRecords.{AreMarked}
use Rattle.eap_world.proofs.nonces_left.first_octets.Given as goal

abbrev pub invariant-loop-nonce : goal.invariant-loop-nonce
invariant-loop-nonce l = AreMarked l.firsts (take l.nonce-index l.nonces)
