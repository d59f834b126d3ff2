use Rattle.world_laws.proofs.Passing.{pass_is_alone, pass_is_delivered}
use Rattle.world_laws.proofs.laws.pass_is_alone.Goals as goal

pub returns-clause-alone : goal.returns-clause-alone
returns-clause-alone c = pass_is_alone

pub returns-clause-delivers : goal.returns-clause-delivers
returns-clause-delivers c = pass_is_delivered
