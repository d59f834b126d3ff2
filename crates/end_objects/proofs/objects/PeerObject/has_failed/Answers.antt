-- The object is of one of the two methods.
use Rattle.end_objects.specs.Objects.{peer_has_failed}
use Rattle.end_objects.proofs.objects.PeerObject.has_failed.Goals as goal

pub returns-in-Psk : goal.returns-in-Psk
unfolding peer_has_failed
returns-in-Psk c = rw c.in-Psk.is search

pub returns-in-Gpsk : goal.returns-in-Gpsk
unfolding peer_has_failed
returns-in-Gpsk c = rw c.in-Gpsk.is search
