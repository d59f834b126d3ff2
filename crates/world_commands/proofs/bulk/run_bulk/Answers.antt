use Rattle.std.proofs.Common.{[], refl}
use Rattle.bulk_run.specs.Conversation.{alice, srv}
use Rattle.command_driver.specs.Answers.{cut_short, by_memory}
use Rattle.command_driver.proofs.Endings.{front_none}
use Rattle.world_commands.proofs.bulk.run_bulk.Goals as goal

-- each end has an object of the method that all conversations are by

pub run_all-requires-clause-peer_objects : goal.run_all-requires-clause-peer_objects
run_all-requires-clause-peer_objects g c = c.requires.both.peer (alice [] []).methods refl

pub run_all-requires-clause-server_objects : goal.run_all-requires-clause-server_objects
run_all-requires-clause-server_objects g c = c.requires.both.server (srv [] []).methods refl

-- where memory is wanting nothing was written
pub returns-in-Err : goal.returns-in-Err
returns-in-Err g c = record {
  ends = cut_short (by_memory refl) (front_none _ _);
  no_read_fault = λ w. cc;
  write_fault = λ w. absurd cc;
  writes = λ _. refl;
  memory = λ _ _. tt;
}
