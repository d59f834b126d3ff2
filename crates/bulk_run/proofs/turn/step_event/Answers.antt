use Rattle.bulk_run.proofs.Stepping.{stepped}
use Rattle.bulk_run.proofs.turn.step_event.Goals as goal

pub returns-clause-started : goal.returns-clause-started
returns-clause-started g c = (stepped _ _ _ _ c.in_ok-told.ensures.reported).started

pub returns-clause-packets : goal.returns-clause-packets
returns-clause-packets g c =
    let e = (stepped _ _ _ _ c.in_ok-told.ensures.reported).packets in
    cc (e, c.sent_after.ensures, c.requires.packets)

pub returns-clause-few : goal.returns-clause-few
returns-clause-few g c = (stepped _ _ _ _ c.in_ok-told.ensures.reported).few
