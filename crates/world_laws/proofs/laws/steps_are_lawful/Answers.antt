use Rattle.world_laws.proofs.laws.steps_are_lawful.Goals as goal
use Rattle.world_laws.proofs.SingleSteps.{steps_are_lawful}

pub returns : goal.returns
returns c = steps_are_lawful
