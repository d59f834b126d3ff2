use Rattle.eap_world.proofs.act.Machines.cut.Goals as goal

pub returns : goal.returns
returns g c =
    rw (← c.octets_of-octets.ensures.octets, ← c.from-keep.ensures)
    (c.deliver_part.ensures _ (λ e. c.front.ensures))
