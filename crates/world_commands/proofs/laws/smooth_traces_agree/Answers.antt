-- The lemma is the law.
use Rattle.world_commands.proofs.SmoothTraces as traces
use Rattle.world_commands.proofs.laws.smooth_traces_agree.Goals as goal

pub returns : goal.returns
returns c = traces.smooth_traces_agree
