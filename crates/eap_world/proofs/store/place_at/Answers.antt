use Rattle.std.proofs.Common.{sym, ◌∙◌}
use Rattle.std.proofs.lemmas.Slice.Eq.{bytes_eq-Decides}
use Rattle.eap_world.proofs.Storing.{found_at}
use Rattle.eap_world.proofs.store.place_at.Goals as goal

-- src/store.rt:114:1
pub returns-then-eq-clause-same : goal.returns-then-eq-clause-same
returns-then-eq-clause-same c =
    found_at c.args.octets.now c.args.packet.now c.octets_at.result.now _ _ c.requires.enough
    c.octets_at.ensures.same ((bytes_eq-Decides c.octets_at.result.now c.args.packet.now).0
    (sym c.eq.ensures ∙ c.if-eq.true))
