use Rattle.world_laws.proofs.laws.methods_agree.Goals as goal
use Rattle.world_laws.proofs.MethodsAgree.{methods_agree}

pub returns : goal.returns
returns c = methods_agree
