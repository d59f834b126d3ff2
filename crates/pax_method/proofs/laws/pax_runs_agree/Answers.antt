use Rattle.pax_method.proofs.Runs.{pax_runs_agree}
use Rattle.pax_method.proofs.laws.pax_runs_agree.Goals as goal

pub returns : goal.returns
returns c = pax_runs_agree
