use Rattle.std.proofs.Common.{map, ◌≡◌, true, subst, sym}
use Rattle.octet_lists.specs.Among.{is_among}
use Rattle.peer_machine.specs.PeerTable.{PeerValue, now_of}
use Rattle.peer_machine.proofs.Settling.{method_settles}
use Rattle.peer_machine.proofs.machine.PeerMachine.method.Goals as goal

pub returns-clause-step : goal.returns-clause-step
returns-clause-step g c =
    let shown = g.M.PeerMethod.peer_shown in
    let inside : PeerValue _ =
    record { vars = c.self.inside.vars; methods = c.self.inside.methods.items } in
    let allowed : is_among inside.vars.setup.methods c.args.kind ≡ true =
    subst (λ (v : PeerValue _). is_among v.vars.setup.methods c.args.kind ≡ true)
    (sym c.self.view_is) c.requires.allowed in
    let turn = c.call_method-turn in
    rw (← c.self.view_is)
    (method_settles c.args.selects (now_of shown inside)
    c.settle.new.vars c.args.kind c.args.id c.args.request.now turn.result
    turn.new.packet turn.new.tags (map shown turn.new.methods.items) c.settle.result
    (turn.ensures.turn inside.vars.setup.methods allowed)
    turn.ensures.tags
    (c.settle.ensures.step (now_of shown inside).views _ turn.new.tags)
    c.settle.ensures.setup)
