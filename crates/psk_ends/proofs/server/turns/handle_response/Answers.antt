use Rattle.std.proofs.Common.{◌∙◌, ap, refl}
use Rattle.eap_method.specs.PskServer.{step, begun, refused, over}
use Rattle.eap_method.proofs.Capacities.{sends_nothing}
use Rattle.psk_ends.proofs.server.turns.handle_response.Goals as goal

pub returns-in-Err-clause-turn : goal.returns-in-Err-clause-turn
unfolding step
returns-in-Err-clause-turn g c = rw (c.in-Early.is, c.in-Asked.is) (c.in-Err.ensures c.args.next_id)

pub returns-in-Ok-None-clause-turn : goal.returns-in-Ok-None-clause-turn
unfolding step
returns-in-Ok-None-clause-turn g c =
    rw (c.in-Early.is, c.in-Asked.is)
    (rw c.clear.ensures (rw c.in-Ok-None.field-0-is at (c.in-Ok-None.ensures c.args.next_id)))

pub returns-in-Ok-Some-clause-turn : goal.returns-in-Ok-Some-clause-turn
unfolding step
returns-in-Ok-Some-clause-turn g c =
    rw (c.in-Early.is, c.in-Asked.is)
    (c.log_in.ensures.turn c.in-Early.own (rw c.in-Asked.is refl)
    ∙ rw c.in-Ok-Some.field-0-is at (c.in-Ok-Some.ensures c.args.next_id))

pub returns-in-Initial-clause-turn : goal.returns-in-Initial-clause-turn
unfolding step
returns-in-Initial-clause-turn g c =
    rw (c.in-Early.is, c.in-Initial.is)
    (c.idle_cause.ensures.server (begun c.in-Early.own.side c.in-Early.own.nonce))

pub returns-in-Refused-clause-turn : goal.returns-in-Refused-clause-turn
unfolding step
returns-in-Refused-clause-turn g c =
    rw (c.in-Early.is, c.in-Refused.is)
    (c.idle_cause-in-Refused.ensures.server (refused c.in-Early.own.side c.in-Early.own.nonce))

pub returns-in-Checked-clause-capacity : goal.returns-in-Checked-clause-capacity
returns-in-Checked-clause-capacity g c = λ sent.
    let reads = c.checked_reads in
    let none = sends_nothing reads.result reads.new.tags _
    (λ packet. ap (λ out. out.turn) (reads.ensures packet)) in
    cc

pub returns-in-Over-clause-turn : goal.returns-in-Over-clause-turn
unfolding step
returns-in-Over-clause-turn g c =
    rw (c.in-Known.is, c.in-Over.is)
    (c.idle_cause-in-Over.ensures.server (over c.in-Known.login c.in-Over.success))
