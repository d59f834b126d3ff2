use Rattle.std.proofs.Common.{length, sym, ◌∙◌}
use Rattle.eap_world.proofs.Storing.{last_there}
use Rattle.eap_world.proofs.store.place_of.Goals as goal

-- src/store.rt:154:23
pub place_at-requires : goal.place_at-requires
place_at-requires c =
    last_there (length c.args.octets.now) c.args.port c.args.slots.now c.in-Some.slot c.requires
    (sym c.last_to.ensures ∙ c.in-Some.is)
