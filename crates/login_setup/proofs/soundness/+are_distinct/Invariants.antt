use Rattle.std.proofs.Common.{length}
use Rattle.login_setup.proofs.soundness.+are_distinct.Given as goal

-- the numbers that are left
abbrev pub decreases-are_distinct : goal.decreases-are_distinct
decreases-are_distinct l = length l.numbers.now
