use Rattle.end_pipe.specs.EndRun.{end_step}
use Rattle.end_pipe.proofs.Folding as folding
use Rattle.end_pipe.proofs.pipe.EndPipe.step_into.Goals as goal

pub returns-clause-continues : goal.returns-clause-continues
returns-clause-continues g c begun inputs stands =
    folding.goes_on (end_step g.E.Machine.table)
    begun _ _ inputs c.args.input.now _ c.step_by_table.ensures.step stands
