use Rattle.pass_through.proofs.Carrying as carrying
use Rattle.pass_through.proofs.laws.sends_only_received.Goals as goal

pub returns : goal.returns
returns c = carrying.sends_only_received
