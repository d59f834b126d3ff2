use Rattle.std.proofs.Common.{refl, ◌∙◌}
use Rattle.bulk_run.specs.Conversation.{deliveries}
use Rattle.bulk_run.proofs.Conversing.{none_delivered, one_delivered}
use Rattle.bulk_run.proofs.conversation.deliver_all.Goals as goal

pub loop-passed-init : goal.loop-passed-init
loop-passed-init g c = record {
  run = λ setup is. none_delivered setup _ is;
  started = c.requires.started;
  packets = c.requires.packets;
  few = c.requires.few;
  objects = c.requires.objects;
  methods = refl;
}

pub loop-passed-preserved : goal.loop-passed-preserved
loop-passed-preserved g c = record {
  run = λ setup is.
      one_delivered setup c.loop-passed.passed _ (c.in_ok-step_event.ensures.run setup
      (deliveries c.loop-passed.passed) (c.loop-passed.invariant.run setup is));
  started = c.in_ok-step_event.ensures.started;
  packets = c.in_ok-step_event.ensures.packets;
  few = c.in_ok-step_event.ensures.few c.loop-passed.passed c.loop-passed.invariant.few;
  objects = c.step_event.ensures.objects;
  methods = c.step_event.ensures.methods ∙ c.loop-passed.invariant.methods;
}
