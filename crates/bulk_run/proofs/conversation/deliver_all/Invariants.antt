use Rattle.std.proofs.Common.{◌≡◌, [], length, true}
use Rattle.login_setup.specs.declared.setup.Setup.{Setup}
use Rattle.eap_world.specs.World.{HasObjects, now_of}
use Rattle.bulk_run.specs.ObjectMethods.{PreservesMethods}
use Rattle.bulk_run.specs.Conversation.{deliveries}
use Rattle.bulk_run.specs.RunningEnd.{AreFew}
use Rattle.bulk_run.proofs.conversation.deliver_all.Given as goal
use Rattle.world_laws.specs.Runs.{run_of}

abbrev pub invariant-loop-passed : goal.invariant-loop-passed
invariant-loop-passed g l = record {
  run : (setup : Setup)
      → now_of g.P.PeerMethod.peer_shown g.S.ServerMethod.server_shown l.initial.world
      ≡ run_of setup []
      → now_of g.P.PeerMethod.peer_shown g.S.ServerMethod.server_shown l.world
      ≡ run_of setup (deliveries l.passed);
  started : l.world.started ≡ true;
  packets : l.packets ≡ length l.world.sent;
  few : AreFew l.world.counts l.passed;
  objects : HasObjects g.P.PeerMethod.peer_shown g.S.ServerMethod.server_shown l.world;
  methods : PreservesMethods g.P.PeerMethod.peer_shown g.S.ServerMethod.server_shown
      l.initial.world l.world;
}
