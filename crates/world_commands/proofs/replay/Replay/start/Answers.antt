use Rattle.std.proofs.Common.{refl}
use Rattle.eap_world.specs.World.{now_of}
use Rattle.world_commands.proofs.Ready.{both_there, ready_in}
use Rattle.world_commands.proofs.Runs.{start_starts}
use Rattle.world_commands.proofs.replay.Replay.start.Goals as goal

pub world_of-world-requires-clause-both : goal.world_of-world-requires-clause-both
world_of-world-requires-clause-both g c =
    both_there g.P.PeerMethod.peer_shown g.S.ServerMethod.server_shown c.args.self.now c.take.result
    c.in-Some.methods c.requires.ready c.if-is_some.ensures c.take.ensures.value c.in-Some.is

pub returns-clause-ready_after : goal.returns-clause-ready_after
returns-clause-ready_after g c =
    let peer_shown = g.P.PeerMethod.peer_shown in
    let server_shown = g.S.ServerMethod.server_shown in
    ready_in peer_shown server_shown _ c.start_brief.new.self refl
    (start_starts _ (now_of peer_shown server_shown c.start_brief.new.self)
    c.in-Ok-start_brief.told c.in-Ok-start_brief.ensures.reported)
    c.start_brief.ensures.objects
