use Rattle.std.proofs.Common.{map}
use Rattle.server_machine.specs.ServerTable.{ServerValue, now_of}
use Rattle.server_machine.proofs.Settling.{turn_settles}
use Rattle.server_machine.proofs.machine.SizedServer.method.Goals as goal

pub returns-clause-step : goal.returns-clause-step
returns-clause-step g c =
    let shown = g.M.ServerMethod.server_shown in
    let inside : ServerValue _ =
    record { vars = c.self.inside.vars; methods = c.self.inside.methods.items } in
    let turn = c.turn_of-turn in
    rw (← c.self.view_is)
    (turn_settles (now_of shown inside)
    c.settle.new.vars c.args.id c.args.kind c.args.response.now turn.result
    turn.new.packet c.settle.new.packet turn.new.tags (map shown turn.new.methods.items)
    c.settle.result turn.ensures.turn
    turn.ensures.tags
    (c.settle.ensures.step (now_of shown inside).views _ turn.new.tags)
    c.settle.ensures.setup)
