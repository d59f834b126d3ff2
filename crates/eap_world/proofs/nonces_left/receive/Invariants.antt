use Rattle.std.proofs.Common.{◌≡◌, ◌-◌, length, drop, map}
use Rattle.eap_world.specs.Conversations.{hears}
use Rattle.eap_world.specs.TwoRecords.{waits}
use Rattle.eap_world.proofs.nonces_left.receive.Given as goal

abbrev pub invariant-loop-back : goal.invariant-loop-back
invariant-loop-back l = waits l.nonces l.heard
    ≡ map (hears (drop (length l.octets - l.back) l.octets)) (waits l.nonces l.initial.heard)
