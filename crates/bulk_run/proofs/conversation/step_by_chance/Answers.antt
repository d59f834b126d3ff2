use Rattle.std.proofs.Common.{◌+◌, ◌*◌, refl, ap, ◌∙◌, arith}
use Rattle.bulk_run.specs.Conversation.{chances}
use Rattle.bulk_run.specs.Draws.{octet_at}
use Rattle.bulk_run.proofs.Conversing.{none_chosen, one_chosen}
use Rattle.bulk_run.proofs.Drawing.{same_place}
use Rattle.bulk_run.proofs.conversation.step_by_chance.Goals as goal

pub loop-init : goal.loop-init
loop-init g c = record {
  run = λ setup number place is stands. none_chosen setup number place _ is;
  stands = λ number place is. same_place number place (place + 2 * 0) _ is (omega arith);
  started = c.requires.started;
  packets = c.requires.packets;
  few = c.requires.few;
  objects = c.requires.objects;
  methods = refl;
}

pub loop-preserved : goal.loop-preserved
loop-preserved g c =
    let turns = c.loop.counter in
    record {
      run = λ setup number place is stands.
          let here = c.loop.invariant.stands number place stands in
          let next = c.octet-v.ensures.state number (place + 2 * turns) here in
          one_chosen setup number place turns c.octet-v.result c.octet-u.result _ _
          (c.loop.invariant.run setup number place is stands)
          (c.octet-v.ensures.octet number (place + 2 * turns) here)
          (c.octet-u.ensures.octet number (place + 2 * turns + 1) next
          ∙ ap (octet_at number) (omega arith))
          (c.in_ok-step_chosen.ensures.run setup (chances setup number place turns)
          (c.loop.invariant.run setup number place is stands));
      stands = λ number place is.
          let here = c.loop.invariant.stands number place is in
          let next = c.octet-v.ensures.state number (place + 2 * turns) here in
          same_place number (place + 2 * turns + 1 + 1) (place + 2 * (turns + 1)) _
          (c.octet-u.ensures.state number (place + 2 * turns + 1) next) (omega arith);
      started = c.in_ok-step_chosen.ensures.started;
      packets = c.in_ok-step_chosen.ensures.packets;
      few = c.in_ok-step_chosen.ensures.few turns c.loop.invariant.few;
      objects = c.step_chosen.ensures.objects;
      methods = c.step_chosen.ensures.methods ∙ c.loop.invariant.methods;
    }
