use Rattle.std.proofs.Common.{length}
use Rattle.end_objects.proofs.constructors.+add_peers.Given as goal

-- the methods that are left
abbrev pub decreases-add_peers : goal.decreases-add_peers
decreases-add_peers l = length l.kinds.now
