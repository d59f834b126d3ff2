-- The object is of one of the two methods.
use Rattle.end_objects.specs.Objects.{is_unknown}
use Rattle.end_objects.proofs.objects.ServerObject.is_unknown.Goals as goal

pub returns-in-Psk : goal.returns-in-Psk
unfolding is_unknown
returns-in-Psk c = rw c.in-Psk.is search

pub returns-in-Gpsk : goal.returns-in-Gpsk
unfolding is_unknown
returns-in-Gpsk c = rw c.in-Gpsk.is search
