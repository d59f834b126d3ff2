use Rattle.std.proofs.Common.{rules, ◌≡◌, true, false, ap, sym, ◌∙◌}
use Rattle.eap_world.specs.World.{WorldValue}
use Rattle.eap_world.proofs.Serving.{act_serves}
use Rattle.eap_world.proofs.world.World.step_by_table.Goals as goal

pub invariant_of-self-2 : goal.invariant_of-self-2
invariant_of-self-2 g c =
    let was = c.self.invariant in
    let begun : c.self.inside.started ≡ true =
    ap (λ (w : WorldValue _ _). w.started) c.self.view_is ∙ c.requires.started in
    let serving = act_serves _ _ _ _ _ _ c.act-action.ensures.acts
    (record { role = was.role; ready = was.ready begun }) in
    record {
      few_events = search rules;
      few_sent = search rules;
      few_booked = search rules;
      few_deliveries = search rules;
      few_discards = search rules;
      unstarted = λ e. (let contrary : true ≡ false = sym begun ∙ e in cc contrary);
      waits = λ e. (let contrary : true ≡ false = sym begun ∙ e in cc contrary);
      role = serving.role;
      ready = λ e. serving.ready;
    }
