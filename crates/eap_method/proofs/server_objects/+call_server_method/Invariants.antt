use Rattle.std.proofs.Common.{length}
use Rattle.eap_method.proofs.server_objects.+call_server_method.Given as goal

-- the objects that are left
abbrev pub decreases-call_server_method : goal.decreases-call_server_method
decreases-call_server_method g l = length l.methods.now
