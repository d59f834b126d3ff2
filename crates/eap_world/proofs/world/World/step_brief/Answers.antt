use Rattle.std.proofs.Common.{◌≡◌}
use Rattle.eap_world.specs.World.{now_of}
use Rattle.eap_world.proofs.EventByEvent.{run_continues}
use Rattle.eap_world.proofs.world.World.step_brief.Goals as goal

pub returns-clause-run : goal.returns-clause-run
returns-clause-run g c =
    run_continues (now_of g.P.PeerMethod.peer_shown g.S.ServerMethod.server_shown c.args.self.now)
    (now_of g.P.PeerMethod.peer_shown g.S.ServerMethod.server_shown c.step_by_table.new.self)
    (c.step_by_table.new.self ≡ c.args.self.now) c.args.event.now c.step_by_table.result
    c.step_by_table.ensures.reported
