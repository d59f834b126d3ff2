use Rattle.std.proofs.Common.{arith, refl}
use Rattle.octet_lists.proofs.Differences.{difference_more}
use Rattle.octet_lists.proofs.comparison.equal_in_full.Goals as goal

pub octets-init : goal.octets-init
octets-init c = record { same = λ _. refl; none = λ _. refl }

pub octets-preserved : goal.octets-preserved
octets-preserved c =
    difference_more c.octets.difference c.octets.i c.args.left.now c.args.right.now (omega arith)
    (omega arith) c.octets.invariant
