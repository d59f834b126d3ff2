-- Whatever comes, a stand-alone server that has started stays one.
use Rattle.std.proofs.Common.{Some}
use Rattle.server_machine.specs.Inputs.{octets}
use Rattle.server_machine.specs.ServerTable.{now_of}
use Rattle.end_pipe.proofs.Serving.{still_serves, timer_serves}
use Rattle.end_pipe.proofs.server_pipe.StandAloneServerMachine.handle_input.Goals as goal

pub invariant_of-self : goal.invariant_of-self
invariant_of-self g c =
    let shown = g.M.ServerMethod.server_shown in
    (still_serves (now_of shown c.self.inside.machine) (now_of shown c.deliver_step.new.self)
    (Some (octets c.as_slice.result.now)) _ c.deliver_step.ensures.step
    (record { role = c.self.invariant; started = rw c.self.view_is c.requires.running })).role

pub returns-in-Octets-clause-running : goal.returns-in-Octets-clause-running
returns-in-Octets-clause-running g c =
    let shown = g.M.ServerMethod.server_shown in
    (still_serves (now_of shown c.self.inside.machine) (now_of shown c.deliver_step.new.self)
    (Some (octets c.as_slice.result.now)) _ c.deliver_step.ensures.step
    (record { role = c.self.invariant; started = rw c.self.view_is c.requires.running })).started

pub invariant_of-self-in-Timeout : goal.invariant_of-self-in-Timeout
invariant_of-self-in-Timeout g c =
    let shown = g.M.ServerMethod.server_shown in
    (timer_serves (now_of shown c.self.inside.machine) (now_of shown c.timeout_step.new.self) _
    (rw c.self.view_is (rw c.in-Timeout.is at c.requires.unskipped)) c.timeout_step.ensures.step
    (record { role = c.self.invariant; started = rw c.self.view_is c.requires.running })).role

pub returns-in-Timeout-clause-running : goal.returns-in-Timeout-clause-running
returns-in-Timeout-clause-running g c =
    let shown = g.M.ServerMethod.server_shown in
    (timer_serves (now_of shown c.self.inside.machine) (now_of shown c.timeout_step.new.self) _
    (rw c.self.view_is (rw c.in-Timeout.is at c.requires.unskipped)) c.timeout_step.ensures.step
    (record { role = c.self.invariant; started = rw c.self.view_is c.requires.running })).started
