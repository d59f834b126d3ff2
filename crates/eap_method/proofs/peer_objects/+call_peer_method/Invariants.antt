use Rattle.std.proofs.Common.{length}
use Rattle.eap_method.proofs.peer_objects.+call_peer_method.Given as goal

-- the objects that are left
abbrev pub decreases-call_peer_method : goal.decreases-call_peer_method
decreases-call_peer_method g l = length l.methods.now
