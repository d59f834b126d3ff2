use Rattle.std.proofs.Common.{length}
use Rattle.eap_world.proofs.nonces_left.+receive_each.Given as goal

-- the nonces
abbrev pub decreases-receive_each : goal.decreases-receive_each
decreases-receive_each l = length l.heard.now
