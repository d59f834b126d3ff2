use Rattle.std.proofs.Common.{refl}
use Rattle.eap_world.specs.World.{now_of}
use Rattle.world_commands.proofs.Ready.{ready_in}
use Rattle.world_commands.proofs.Runs.{step_starts}
use Rattle.world_commands.proofs.replay.Replay.step.Goals as goal

pub returns-clause-ready_after : goal.returns-clause-ready_after
returns-clause-ready_after g c =
    let peer_shown = g.P.PeerMethod.peer_shown in
    let server_shown = g.S.ServerMethod.server_shown in
    ready_in peer_shown server_shown _ c.step_brief.new.self refl
    (step_starts _ (now_of peer_shown server_shown c.step_brief.new.self)
    c.args.event.now c.in-Ok.told c.in-Ok.ensures.reported)
    c.step_brief.ensures.objects
