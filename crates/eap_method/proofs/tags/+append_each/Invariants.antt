use Rattle.std.proofs.Common.{length}
use Rattle.eap_method.proofs.tags.+append_each.Given as goal

-- the pieces that are left
abbrev pub decreases-append_each : goal.decreases-append_each
decreases-append_each l = length l.pieces.now
