use Rattle.bulk_run.proofs.Drawing.{begins}
use Rattle.bulk_run.proofs.draws.Draws.new.Goals as goal

pub returns : goal.returns
returns c = begins c.args.number
