use Rattle.std.proofs.Common.{◌≡◌, take}
use Rattle.eax_mode.specs.Eax.{combined}
use Rattle.eax_mode.proofs.combine.Given as goal

abbrev pub invariant-octets : goal.invariant-octets
invariant-octets l = l.octets ≡ combined l.initial.octets (take l.i l.block)
