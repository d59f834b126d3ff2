use Rattle.std.proofs.Common.{◌∙◌}
use Rattle.eap_world.proofs.act.Machines.alter.Goals as goal

pub returns : goal.returns
returns g c =
    rw (← c.octets_of-octets.ensures.octets, ← c.from-place.ensures)
    (c.deliver_part.ensures _ (λ e. c.as_slice.ensures.same ∙ c.altered_copy-came.ensures e))
