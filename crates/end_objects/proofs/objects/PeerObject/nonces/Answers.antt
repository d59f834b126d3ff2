-- The object is of one of the two methods.
use Rattle.std.proofs.Common.{rules}
use Rattle.end_objects.specs.Objects.{peer_nonces}
use Rattle.end_objects.proofs.objects.PeerObject.nonces.Goals as goal

pub returns-in-Psk : goal.returns-in-Psk
unfolding peer_nonces
returns-in-Psk c = rw c.in-Psk.is (search rules)

pub returns-in-Gpsk : goal.returns-in-Gpsk
unfolding peer_nonces
returns-in-Gpsk c = rw c.in-Gpsk.is (search rules)
