use Rattle.octet_lists.proofs.Differences.{IsDifference}
use Rattle.octet_lists.proofs.comparison.equal_in_full.Given as goal

abbrev pub invariant-octets : goal.invariant-octets
invariant-octets l = IsDifference l.difference l.i l.left l.right
