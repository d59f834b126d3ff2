use Rattle.std.proofs.Common.{map}
use Rattle.end_pipe.proofs.BothMethods.{server_starts}
use Rattle.end_commands.proofs.server.pipe_of.Goals as goal

pub returns : goal.returns
returns g c =
    server_starts c.args.setup c.args.first_id c.args.max_retrans
    (map g.M.ServerMethod.server_shown c.args.methods.items) _
    c.new.ensures.unstarted c.requires.both c.requires.objects
