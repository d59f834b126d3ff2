-- The object is of one of the two methods.
use Rattle.std.proofs.Common.{rules}
use Rattle.end_objects.specs.Objects.{server_nonces}
use Rattle.end_objects.proofs.objects.ServerObject.nonces.Goals as goal

pub returns-in-Psk : goal.returns-in-Psk
unfolding server_nonces
returns-in-Psk c = rw c.in-Psk.is (search rules)

pub returns-in-Gpsk : goal.returns-in-Gpsk
unfolding server_nonces
returns-in-Gpsk c = rw c.in-Gpsk.is (search rules)
