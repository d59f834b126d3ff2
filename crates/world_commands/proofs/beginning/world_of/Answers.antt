use Rattle.std.proofs.Common.{map}
use Rattle.world_laws.proofs.Standard.{starts_as_run}
use Rattle.world_commands.proofs.beginning.world_of.Goals as goal

pub returns-clause-initial : goal.returns-clause-initial
returns-clause-initial g c =
    let both = c.requires.both in
    let valid = c.requires.valid in
    starts_as_run c.args.setup (map g.P.PeerMethod.peer_shown c.args.methods.peer.items)
    (map g.S.ServerMethod.server_shown c.args.methods.server.items) _
    c.new.ensures.initial both.both_peers
    (both.peer c.args.setup.peer.methods valid.peer.methods)
    both.both_servers (both.server c.args.setup.server.methods valid.server.methods)
