use Rattle.joined_laws.proofs.Interleaved.{interleavings_are_runs}
use Rattle.joined_laws.proofs.laws.interleavings_are_runs.Goals as goal

pub returns : goal.returns
returns c = interleavings_are_runs
