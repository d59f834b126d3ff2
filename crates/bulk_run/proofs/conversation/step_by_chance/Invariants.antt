use Rattle.std.proofs.Common.{◌≡◌, ℕ, ◌+◌, ◌*◌, [], length, true}
use Rattle.login_setup.specs.declared.setup.Setup.{Setup}
use Rattle.eap_world.specs.World.{HasObjects, now_of}
use Rattle.bulk_run.specs.ObjectMethods.{PreservesMethods}
use Rattle.bulk_run.specs.Conversation.{chances}
use Rattle.bulk_run.specs.Draws.{state_at}
use Rattle.bulk_run.specs.RunningEnd.{AreFew}
use Rattle.bulk_run.proofs.conversation.step_by_chance.Given as goal
use Rattle.world_laws.specs.Runs.{run_of}

abbrev pub invariant-loop : goal.invariant-loop
invariant-loop g l = record {
  run : (setup : Setup) (number place : ℕ)
      → now_of g.P.PeerMethod.peer_shown g.S.ServerMethod.server_shown l.initial.world
      ≡ run_of setup []
      → l.initial.draws.state ≡ state_at number place
      → now_of g.P.PeerMethod.peer_shown g.S.ServerMethod.server_shown l.world
      ≡ run_of setup (chances setup number place l.counter);
  stands : (number place : ℕ) → l.initial.draws.state ≡ state_at number place
      → l.draws.state ≡ state_at number (place + 2 * l.counter);
  started : l.world.started ≡ true;
  packets : l.packets ≡ length l.world.sent;
  few : AreFew l.world.counts l.counter;
  objects : HasObjects g.P.PeerMethod.peer_shown g.S.ServerMethod.server_shown l.world;
  methods : PreservesMethods g.P.PeerMethod.peer_shown g.S.ServerMethod.server_shown
      l.initial.world l.world;
}
