use Rattle.std.proofs.Common.{◌≡◌, ◌-◌, length, take}
use Rattle.eap_world.specs.Store.{last_slot}
use Rattle.eap_world.proofs.store.last_to.Given as goal

abbrev pub invariant-loop-back : goal.invariant-loop-back
invariant-loop-back l =
    last_slot l.port l.slots ≡ last_slot l.port (take (length l.slots - l.back) l.slots)
