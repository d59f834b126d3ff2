use Rattle.std.proofs.Common.{map, Some, None, if◌then◌else◌, option_copied}
use Rattle.eap_method.specs.Steps.{step_with}
use Rattle.eap_method.specs.Tags.{no_tags}
use Rattle.server_machine.specs.ServerTable.{before_proposal}
use Rattle.server_machine.proofs.Settling.{none_settles, offer_settles}
use Rattle.server_machine.proofs.machine.SizedServer.propose.Goals as goal

pub returns-in-None-clause-step : goal.returns-in-None-clause-step
returns-in-None-clause-step g c =
    let inside = c.self.inside in
    rw (← c.self.view_is)
    (none_settles (before_proposal c.args.way) inside.vars c.end_badly.new.vars
    (map g.M.ServerMethod.server_shown inside.methods.items) c.args.id
    (option_copied c.args.desired) (step_with c.end_badly.result c.end_badly.new.packet no_tags)
    c.in-None.ensures.next c.end_badly.ensures.step c.end_badly.ensures.setup)

pub returns-in-Some-clause-step : goal.returns-in-Some-clause-step
returns-in-Some-clause-step g c =
    let inside = c.self.inside in
    let shown = g.M.ServerMethod.server_shown in
    let first = c.write_first-has_first in
    rw (← c.self.view_is)
    (offer_settles (before_proposal c.args.way) inside.vars c.settle_offer.new.vars
    (map shown inside.methods.items) (map shown first.new.methods.items) c.args.id c.in-Some.kind
    (option_copied c.args.desired) (if first.result then Some first.new.packet else None)
    (step_with c.settle_offer.result c.settle_offer.new.packet no_tags)
    c.in-Some.ensures.next first.ensures.offer c.settle_offer.ensures.step c.settle_offer.ensures.setup)
