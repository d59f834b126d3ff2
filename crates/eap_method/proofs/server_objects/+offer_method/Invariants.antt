use Rattle.std.proofs.Common.{length}
use Rattle.eap_method.proofs.server_objects.+offer_method.Given as goal

-- the objects that are left
abbrev pub decreases-offer_method : goal.decreases-offer_method
decreases-offer_method g l = length l.methods.now
