use Rattle.answer_text.proofs.Fronts.{appending_starts, appending_range, appending_ends}
use Rattle.answer_text.proofs.Fronts.{appends_nothing}
use Rattle.answer_text.proofs.pieces.write_whole.Goals as goal

pub loop-rest-init : goal.loop-rest-init
loop-rest-init g c = appending_starts _ _ _

pub loop-rest-preserved : goal.loop-rest-preserved
loop-rest-preserved g c = appending_range _ _ _ _ _ _ _ c.loop-rest.invariant
    c.in_ok-count.ensures.appended c.in_ok-count.ensures.uncounted

pub returns-in_err-count : goal.returns-in_err-count
returns-in_err-count g c =
    appending_ends _ _ _ _ _ _ _ c.loop-rest.invariant
    (appends_nothing _ _ _ _ _ c.from_residual.ensures.0 c.in_err-count.ensures.unchanged
    c.in_err-count.ensures.counted c.in_err-count.ensures.never_falls)
