-- The object is of one of the two methods.
use Rattle.end_objects.proofs.objects.PeerObjectPeerMethod.begin.Goals as goal

pub returns-in-Psk : goal.returns-in-Psk
returns-in-Psk c = rw c.in-Psk.is search

pub returns-in-Gpsk : goal.returns-in-Gpsk
returns-in-Gpsk c = rw c.in-Gpsk.is search
