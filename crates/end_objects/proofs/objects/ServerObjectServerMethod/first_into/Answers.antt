-- The object is of one of the two methods.
use Rattle.end_objects.proofs.objects.ServerObjectServerMethod.first_into.Goals as goal

pub first_into-requires : goal.first_into-requires
first_into-requires c = rw c.in-Psk.is at c.requires

pub first_into-requires-in-Gpsk : goal.first_into-requires-in-Gpsk
first_into-requires-in-Gpsk c = rw c.in-Gpsk.is at c.requires
