use Rattle.std.proofs.Common.{rules, ◌≡◌, false, ap, ◌∙◌}
use Rattle.eap_world.specs.World.{WorldValue}
use Rattle.eap_world.proofs.Serving.{start_serves}
use Rattle.eap_world.proofs.world.World.start_by_table.Goals as goal

pub invariant_of-self-2 : goal.invariant_of-self-2
invariant_of-self-2 g c =
    let was = c.self.invariant in
    let unstarted : c.self.inside.started ≡ false =
    ap (λ (w : WorldValue _ _). w.started) c.self.view_is ∙ c.requires in
    let serving =
    start_serves _ _ _ c.start-action.ensures.acts was.role (was.unstarted unstarted) in
    record {
      few_events = was.few_events;
      few_sent = search rules;
      few_booked = search rules;
      few_deliveries = was.few_deliveries;
      few_discards = was.few_discards;
      unstarted = λ e. cc e;
      waits = λ e. cc e;
      role = serving.role;
      ready = λ e. serving.ready;
    }
