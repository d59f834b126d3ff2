use Rattle.std.proofs.Common.{length}
use Rattle.own_proof.proofs.ends.+is_made.Given as goal

abbrev pub decreases-is_made : goal.decreases-is_made
decreases-is_made l = length l.made.now
