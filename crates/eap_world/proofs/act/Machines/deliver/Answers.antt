use Rattle.eap_world.proofs.act.Machines.deliver.Goals as goal

pub returns : goal.returns
returns g c = c.deliver_part.ensures _ (λ e. c.octets_of.ensures.octets)
