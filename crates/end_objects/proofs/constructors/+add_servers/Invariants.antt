use Rattle.std.proofs.Common.{length}
use Rattle.end_objects.proofs.constructors.+add_servers.Given as goal

-- the methods that are left
abbrev pub decreases-add_servers : goal.decreases-add_servers
decreases-add_servers l = length l.kinds.now
