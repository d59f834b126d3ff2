use Rattle.std.proofs.Common.{ap, length}
use Rattle.bulk_run.proofs.Stepping.{started}
use Rattle.bulk_run.proofs.turn.start_run.Goals as goal

pub returns-clause-started : goal.returns-clause-started
returns-clause-started g c = (started _ _ _ c.in_ok-told.ensures.reported).started

pub returns-clause-packets : goal.returns-clause-packets
returns-clause-packets g c =
    let e = (started _ _ _ c.in_ok-told.ensures.reported).packets in
    cc (e, c.sent_after.ensures, ap length c.requires.unsent)

pub returns-clause-few : goal.returns-clause-few
returns-clause-few g c = (started _ _ _ c.in_ok-told.ensures.reported).counts
