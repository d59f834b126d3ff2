use Rattle.std.proofs.Common.{length}
use Rattle.eap_method.proofs.server_objects.+start_each.Given as goal

-- the objects that are left
abbrev pub decreases-start_each : goal.decreases-start_each
decreases-start_each g l = length l.methods.now
